-- Every step that completes spends a unit, and without units there is none.
use mathlib.Core.Path.{◌≡◌, refl, subst}
use Prim.Native.Nat.{ℕ, ◌-◌, ◌≤◌, ◌<◌}
use native.Mathlib.Omega.{arith}
use borrow.Author.Tests.{eq-eqb}
use Rattle.model.specs.declared.Value.{Value}
use Rattle.model.specs.declared.Fault.{Fault}
use Rattle.model.specs.Steps.{World, State, Outcome, went, returned, faulted, short, step_of}
use Rattle.laws_runs.specs.Paths.{Spends, Balances}
use Rattle.laws_runs.proofs.Does.{Does, fault, spent, full, push, answer, compare, fall, leap, call, build, field, back, home, fetched_at, Stepped, unpaid, unread, ran, step_one}

-- at most n units are left
abbrev Left : ℕ → Outcome → Type 0
Left n (went s) = s.units ≤ n
Left n (returned x s) = s.units ≤ n
Left n (faulted i s) = s.units ≤ n
Left n short = Unit

does_left : {w : World} {a : ℕ} {s t : State} {x y : Outcome} → Does w a s t x y → Left s.units x
does_left (fault n) = omega arith
does_left (spent x) = tt
does_left (full b) = omega arith
does_left (push h l) = omega arith
does_left (answer b p) = omega arith
does_left (compare b k l h) = omega arith
does_left (fall b) = omega arith
does_left (leap b) = omega arith
does_left (call i n b l h g) = omega arith
does_left (build b l) = omega arith
does_left (field p i b e) = omega arith
does_left (back b e) = omega arith
does_left (home b e) = omega arith

left_spends : (s : State) → 1 ≤ s.units → (x : Outcome) → Left (s.units - 1) x → Spends s x
left_spends s h (went t) l = omega arith
left_spends s h (returned v t) l = omega arith
left_spends s h (faulted n t) l = omega arith
left_spends s h short l = tt

stepped_spends : {w : World} {s t : State} {x y : Outcome} → Stepped w s t x y → Spends s x
stepped_spends (unpaid e x) = tt
stepped_spends (unread h n) = omega arith
stepped_spends {s = s} {x = x} (ran i a h l k e d) = left_spends s h x (does_left d)

pub step_spends : (w : World) (s : State) → Spends s (step_of w s)
step_spends w s = stepped_spends (step_one w s)

pub went_spends : (w : World) (s : State) {s' : State} → step_of w s ≡ went s' → s'.units < s.units
went_spends w s e = subst (Spends s) e (step_spends w s)

pub returned_spends : (w : World) (s : State) {s' : State} {x : Value} → step_of w s ≡ returned x s' → s'.units < s.units
returned_spends w s e = subst (Spends s) e (step_spends w s)

pub faulted_spends : (w : World) (s : State) {s' : State} {n : Fault} → step_of w s ≡ faulted n s' → s'.units ≤ s.units
faulted_spends w s e = subst (Spends s) e (step_spends w s)

pub no_units : (w : World) (s : State) → s.units ≡ 0 → step_of w s ≡ short
unfolding step_of
no_units w s e = rw (eq-eqb s.units 0 e)

-- ---- what a step spends is no longer left

does_balances : {w : World} {a : ℕ} {s t : State} {x y : Outcome} → Does w a s t x y → Balances s x
does_balances (fault n) = refl
does_balances (spent x) = tt
does_balances (full b) = refl
does_balances (push h l) = refl
does_balances (answer b p) = refl
does_balances (compare b k l h) = omega arith
does_balances (fall b) = refl
does_balances (leap b) = refl
does_balances (call i n b l h g) = refl
does_balances (build b l) = refl
does_balances (field p i b e) = refl
does_balances (back b e) = refl
does_balances (home b e) = refl

-- the opcode was fetched for one unit
fetched_balances : (s : State) → 1 ≤ s.units → (i : ℕ) (x : Outcome) → Balances (fetched_at i s) x → Balances s x
fetched_balances s h i (went t) e = omega arith
fetched_balances s h i (returned v t) e = omega arith
fetched_balances s h i (faulted n t) e = omega arith
fetched_balances s h i short e = tt

stepped_balances : {w : World} {s t : State} {x y : Outcome} → Stepped w s t x y → Balances s x
stepped_balances (unpaid e x) = tt
stepped_balances (unread h n) = omega arith
stepped_balances {s = s} {x = x} (ran i a h l k e d) = fetched_balances s h i x (does_balances d)

pub step_balances : (w : World) (s : State) → Balances s (step_of w s)
step_balances w s = stepped_balances (step_one w s)
