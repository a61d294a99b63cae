-- Demand 2: what each step costs, and that a run is its written steps.
use Rattle.std.specs.Prelude.{if◌then◌else◌, Err, Ok, Result}
use mathlib.Core.Path.{◌≡◌, refl, sym, subst}
use mathlib.Core.Bool.{Bool, true, false, not, ◌&&◌}
use mathlib.Core.List.{List, [], ◌∷◌, ◌++◌}
use mathlib.Core.Option.{Option, none as no, some}
use Prim.Native.Nat.{ℕ, suc, ◌+◌, ◌*◌, ◌≤◌, ◌<◌}
use native.Mathlib.Omega.{arith}
use borrow.Author.Tests.{leb-true, leb-false, eqb-true, eqb-false}
use lib.Dec.{eqb, leb, ltb}
use lib.ListN.{length, drop}
use lib.Ieee.{Float}
use Rattle.model.specs.declared.Op.{Op}
use Rattle.model.specs.declared.Op.TheVariants as o
use Rattle.model.specs.declared.Decoded.{Decoded}
use Rattle.model.specs.declared.Decoded.TheVariants as d
use Rattle.model.specs.declared.Value.{Value}
use Rattle.model.specs.declared.Tally.{Tally}
use Rattle.model.specs.declared.Frame.{Frame}
use Rattle.model.specs.declared.Fault.{Fault}
use Rattle.model.specs.declared.Fault.TheVariants as f
use Rattle.model.specs.Values.{popping, popping_scalar, popping_boolean, fault_number}
use Rattle.model.specs.Scalars.{zero_divisor, result_of}
use Rattle.model.specs.Heap.{Cell, deepest, block_of, built, unbuilt, build_of, field_of}
use Rattle.model.specs.Equality.{Same, same, same_of}
use Rattle.model.specs.Steps.{World, State, Outcome, went, returned, faulted, short, with_stack, with_heap, paid, at, position, code_of, pushing, on_found, constant_of, slot_of, last_of, load_step, slot_step, last_step, negate_step, arithmetic_step, ordering_step, on_same, equal_step, logic_step, not_step, jump_step, jump_if_false_step, enter, call_step, enter_named, call_callable_step, on_built, build_step, struct_step, field_step, return_to, return_step, exec_of, operands_then, decoded_then, fetched, step_of}
use Rattle.laws_runs.proofs.Combinators.{if_each, if_scalar_each, if_boolean_each, if_reference_each, if_struct_each}
use Rattle.model.specs.Runs.{Machine, begin, machine_of, Progress, at_start, Ended, ended, stopped, paused, end_of, trace_of, fault, tally, answered, cut_at, recovered, part_of, abandon_of, given_up, run_of}
use Rattle.laws_runs.specs.Paths.{Balances, Steps, none, on, ret, root_returns, By, EndedBy, StoppedBy, PausedBy}
use Rattle.laws_runs.proofs.Spends.{step_balances}
use Rattle.laws_runs.proofs.Ends.{end_of_lem}
use Rattle.laws_runs.proofs.Paths.{run_path, returns_counted}
use Rattle.demands.specs.Units.{pairs, top_pairs, pairs_of, pairs_by, pairs_at, SpentBetween, Costs, spent_on, RunIs, ends, faults, gives_up}

-- ---- an instruction whose opcode has been fetched

-- `Spent`, of the units that are left
abbrev Fewer : (k i : ℕ) → State → Outcome → Type 0
Fewer k i s (went t) = s.units ≡ t.units + k
Fewer k i s (returned x t) = s.units ≡ t.units + k
Fewer k i s (faulted n t) = s.units ≡ t.units + i
Fewer k i s short = s.units < k

-- k units are spent, and none by a fault; the law of each combinator is about two outcomes, and the second is not looked at
record Pays (s : State) (k : ℕ) (x y : Outcome) : Type 0 where
  costs : Fewer k 0 s x

fails : {s : State} {k : ℕ} {n : Fault} {t : State} {y : Outcome} → t.units ≡ s.units → Pays s k (faulted n t) y
fails e = record { costs = omega arith }

goes : {s t : State} {y : Outcome} → t.units ≡ s.units → Pays s 0 (went t) y
goes e = record { costs = omega arith }

module _ (w : World) (s : State) where
  abbrev Free : Outcome → Outcome → Type 0
  Free x y = Pays s 0 x y

  -- ---- these spend no unit more

  pop_free : (vs : List Value) {j j' : Value → List Value → Outcome} → ((x : Value) (r : List Value) → Free (j x r) (j' x r))
      → Free (popping vs (λ n. faulted n s) j) (popping vs (λ n. faulted n s) j')
  unfolding popping
  pop_free [] h = fails refl
  pop_free (x ∷ r) h = h x r

  wrong_kind : (x : Value) {y : Outcome} → Free (faulted (f.WrongKind x) s) y
  wrong_kind x = fails refl

  scalar_free : (vs : List Value) {j j' : Float → List Value → Outcome} → ((x : Float) (r : List Value) → Free (j x r) (j' x r))
      → Free (popping_scalar vs (λ n. faulted n s) j) (popping_scalar vs (λ n. faulted n s) j')
  unfolding popping_scalar
  scalar_free vs h = pop_free vs (λ x r. if_scalar_each Free x (λ y e. h y r) (wrong_kind x))

  boolean_free : (vs : List Value) {j j' : Bool → List Value → Outcome} → ((x : Bool) (r : List Value) → Free (j x r) (j' x r))
      → Free (popping_boolean vs (λ n. faulted n s) j) (popping_boolean vs (λ n. faulted n s) j')
  unfolding popping_boolean
  boolean_free vs h = pop_free vs (λ x r. if_boolean_each Free x (λ y e. h y r) (wrong_kind x))

  push_free : (t : State) (x : Value) → t.units ≡ s.units → Free (pushing w x t) (pushing w x t)
  unfolding pushing
  push_free t x e = if_each Free (ltb (length t.stack) w.stack_room) (λ l. goes e) (λ l. fails e)

  found_free : (x : Result Value Fault) {j : Value → Outcome} → ((y : Value) → Free (j y) (j y)) → Free (on_found x s j) (on_found x s j)
  unfolding on_found
  found_free (Ok x) h = h x
  found_free (Err e) h = fails refl

  enter_free : (i n : ℕ) (r : List Value) → Free (enter w i n r s) (enter w i n r s)
  unfolding enter
  enter_free i n r = if_each Free (ltb (length r) n) (λ l. fails refl)
      (λ l. if_each Free (leb w.frame_room (suc (length s.callers))) (λ q. fails refl) (λ q. goes refl))

  named_free : (n : ℕ) (r : List Value) (x : Option ℕ) → Free (enter_named w n r s x) (enter_named w n r s x)
  unfolding enter_named
  named_free n r no = fails refl
  named_free n r (some i) = enter_free i n r

  built_free : (t : ℕ → Value) (r : List Value) (H : List Cell) (a b : Bool)
      → let x = (if a then unbuilt f.TooDeep else (if b then unbuilt f.CellsFull else built H)) in Free (on_built w t r s x) (on_built w t r s x)
  unfolding on_built
  built_free t r H true b = fails refl
  built_free t r H false true = fails refl
  built_free t r H false false = push_free (with_stack r (with_heap H s)) (t (length s.heap)) refl

  build_free : (t : ℕ → Value) (elements : ℕ → List Value → List Value) (k n : ℕ) → Free (build_step w t elements k n s) (build_step w t elements k n s)
  unfolding build_step build_of
  build_free t elements k n =
      let us = elements n s.stack in
      if_each Free (ltb (length s.stack) n) (λ l. fails refl)
      (λ l. built_free t (drop n s.stack) (s.heap ++ block_of s.heap k us) (ltb 64 (suc (deepest s.heap us))) (ltb w.cell_room (length s.heap + suc (length us))))

  return_free : (cs : List Frame) (x : Value) (r : List Value) → Free (return_to cs x r s) (return_to cs x r s)
  unfolding return_to
  return_free [] x r = record { costs = omega arith }
  return_free (c ∷ cs) x r = goes refl

  leap_free : (x : Bool) (i : ℕ) → (if x then s else at i s).units ≡ s.units
  leap_free true i = refl
  leap_free false i = refl

  -- ---- the comparisons

  same_by : (b : Bool) (k : ℕ) (t : State) → (b ≡ true → s.units ≡ t.units + k) → (b ≡ false → s.units < k) → Fewer k 0 s (if b then went t else short)
  same_by true k t h l = h refl
  same_by false k t h l = l refl

  same_costs : (t : Bool → Bool) (r : List Value) (x : Same) → Fewer (pairs x) 0 s (on_same t r s x)
  unfolding on_same pairs
  same_costs t r (same b k) = same_by (leb k s.units) k _ (λ e. let z : k ≤ s.units = leb-true _ _ e in omega arith) (λ e. leb-false _ _ e)

  equal_costs : (t : Bool → Bool) (vs : List Value)
      → Fewer (top_pairs w s.heap vs) 0 s (popping vs (λ n. faulted n s) (λ y r. popping r (λ n. faulted n s) (λ x q. on_same t q s (same_of w.text s.heap x y))))
  unfolding popping top_pairs
  equal_costs t [] = omega arith
  equal_costs t (y ∷ []) = omega arith
  equal_costs t (y ∷ x ∷ r) = same_costs t r (same_of w.text s.heap x y)

  -- a line for each opcode
  exec_costs : (p : Op) (a b : ℕ) → Pays s (pairs_of w p s.heap s.stack) (exec_of w p a b s) (exec_of w p a b s)
  unfolding exec_of pairs_of load_step slot_step last_step negate_step arithmetic_step ordering_step equal_step logic_step not_step jump_step jump_if_false_step call_step call_callable_step struct_step field_step return_step
  exec_costs o.LoadConstant a b = found_free (constant_of w.constants a) (λ y. push_free s y refl)
  exec_costs o.GetLocal a b = found_free (slot_of s.stack (s.frame.base + a)) (λ y. push_free s y refl)
  exec_costs o.GetUpvalue a b = found_free (slot_of s.stack a) (λ y. push_free s y refl)
  exec_costs o.GetLastResult a b = found_free (last_of s.last) (λ y. push_free s y refl)
  exec_costs o.Negate a b = scalar_free s.stack (λ x r. goes refl)
  exec_costs (o.Arithmetic y) a b = scalar_free s.stack (λ j r. scalar_free r (λ i q. if_each Free (zero_divisor y j) (λ z. fails refl)
      (λ z. if_each Free (w.strict && (result_of y i j).escaped) (λ e. fails refl) (λ e. goes refl))))
  exec_costs (o.Ordering y) a b = scalar_free s.stack (λ j r. scalar_free r (λ i q. goes refl))
  exec_costs o.Equal a b = record { costs = equal_costs (λ x. x) s.stack }
  exec_costs o.NotEqual a b = record { costs = equal_costs not s.stack }
  exec_costs o.LogicalAnd a b = boolean_free s.stack (λ y r. boolean_free r (λ x q. goes refl))
  exec_costs o.LogicalOr a b = boolean_free s.stack (λ y r. boolean_free r (λ x q. goes refl))
  exec_costs o.LogicalNeg a b = boolean_free s.stack (λ x r. goes refl)
  exec_costs o.JumpIfFalse a b = boolean_free s.stack (λ x r. goes (leap_free x (position s + a)))
  exec_costs o.Jump a b = goes refl
  exec_costs o.Call a b = if_each Free (ltb a (length w.functions)) (λ l. enter_free a b s.stack) (λ l. fails refl)
  exec_costs o.CallCallable a b = pop_free s.stack (λ x r. if_reference_each Free x (λ i k q. named_free a r _) (wrong_kind x))
  exec_costs o.BuildStructInstance a b = if_each Free (ltb a w.structs) (λ l. build_free _ _ a b) (λ l. fails refl)
  exec_costs o.AccessStructField a b = pop_free s.stack (λ x r. if_struct_each Free x (λ p q. found_free (field_of s.heap p a) (λ y. goes refl)) (wrong_kind x))
  exec_costs o.BuildList a b = build_free _ _ 0 a
  exec_costs o.Return a b = pop_free s.stack (λ x r. return_free s.callers x r)

-- ---- a step

-- the unit of the opcode
and_one : (k : ℕ) (s t : State) (x y : Outcome) → s.units ≡ t.units + 1 → Pays t k x y → Fewer (suc k) 1 s x
and_one k s t (went q) y e c = omega (arith, c.costs)
and_one k s t (returned v q) y e c = omega (arith, c.costs)
and_one k s t (faulted n q) y e c = omega (arith, c.costs)
and_one k s t short y e c = omega (arith, c.costs)

module _ (w : World) (s : State) where
  abbrev C : ℕ → Outcome → Outcome → Type 0
  C k x y = Fewer k 1 s x

  decoded_cost : 1 ≤ s.units → (x : Decoded) (n : ℕ) → Fewer (suc (pairs_by w x s)) 1 s (decoded_then w x n (at (suc (position s)) (paid 1 s)))
  unfolding decoded_then operands_then pairs_by code_of
  decoded_cost h (d.Carried p) n =
      let t = at (suc (position s) + 2 * n) (paid 1 s) in
      let k = pairs_of w p s.heap s.stack in
      if_each {B = Outcome} (C (suc k)) (leb (suc (position s) + 2 * n) (length (code_of w s))) {x' = short} {y' = short}
      (λ e. and_one k s t _ _ (omega arith) (exec_costs w t p _ _)) (λ e. omega arith)
  decoded_cost h d.NotCarried n = omega arith
  decoded_cost h d.Unknown n = omega arith

  positive : (n : ℕ) → (n ≡ 0 → ⊥) → 1 ≤ n
  positive n h = omega arith

  step_fewer : Fewer (suc (pairs_at w s)) 1 s (step_of w s)
  unfolding step_of fetched pairs_at
  step_fewer =
      if_each {B = Outcome} (C _) (eqb s.units 0) {x' = short} {y' = short} (λ e. let z = eqb-true s.units 0 e in omega arith)
      (λ e. decoded_cost (positive s.units (eqb-false s.units 0 e)) _ _)

  -- what is no longer left is spent
  balanced : (k : ℕ) (t : State) → s.units ≡ t.units + k → t.spent + t.units ≡ s.spent + s.units → SpentBetween k s t
  balanced k t e b = record { left = e; spent = omega arith }

  both_so : (k : ℕ) (x : Outcome) → Fewer k 1 s x → Balances s x → Costs k s x
  both_so k (went t) e b = balanced k t e b
  both_so k (returned v t) e b = balanced k t e b
  both_so k (faulted n t) e b = balanced 1 t e b
  both_so k short e b = e

  -- a step that completes spends one unit, and one for each pair that it visits; a step that faults spends one; a step is short only if fewer are left
  pub step_cost : Costs (suc (pairs_at w s)) s (step_of w s)
  step_cost = both_so (suc (pairs_at w s)) (step_of w s) step_fewer (step_balances w s)

  went_cost : {t : State} → step_of w s ≡ went t → SpentBetween (suc (pairs_at w s)) s t
  went_cost e = subst (Costs (suc (pairs_at w s)) s) e step_cost

  returned_cost : {t : State} {x : Value} → step_of w s ≡ returned x t → SpentBetween (suc (pairs_at w s)) s t
  returned_cost e = subst (Costs (suc (pairs_at w s)) s) e step_cost

  pub fault_cost : {n : Fault} {t : State} → step_of w s ≡ faulted n t → SpentBetween 1 s t
  fault_cost e = subst (Costs (suc (pairs_at w s)) s) e step_cost

-- ---- a path

then_spent : {i j : ℕ} {s t q : State} → SpentBetween i s t → SpentBetween j t q → SpentBetween (i + j) s q
then_spent a b = record { left = let x = a.left in let y = b.left in omega arith; spent = let x = a.spent in let y = b.spent in omega arith }

pub path_units : {w : World} {n : ℕ} {m k : Progress} {s t : State} (p : Steps w n m s k t) → SpentBetween (spent_on p) s t
path_units none = record { left = omega arith; spent = omega arith }
path_units {w} (on {s = s} o q p) = then_spent (went_cost w s q) (path_units p)
path_units {w} (ret {s = s} o q p) = then_spent (returned_cost w s q) (path_units p)

-- ---- a run

module _ (w : World) (m : Machine) (u : ℕ) where
  -- the units spent and the root Returns completed are those of the path
  did_is : {n x y : ℕ} {k : Progress} {t : State} (p : Steps w n (at_start (begin m u)) (begin m u) k t) → x ≡ y → ◌≡◌ {A = Tally} (record { spent = x; returns = root_returns p }) (tally y k)
  did_is {k = k} p e = let z : root_returns p ≡ k.returns = omega (arith, returns_counted w p) in rw (e, z)

  run_ends : {k : Progress} {t : State} → EndedBy w (at_start (begin m u)) (begin m u) k t → RunIs w m u (given_up w (part_of w m.stack u (ended k t)))
  unfolding part_of given_up
  run_ends {k} {t} r =
      let z : spent_on r.path ≡ t.spent = omega (arith, (path_units r.path).spent) in
      subst (λ (x : Tally). RunIs w m u (record { reply = answered k.answer x; machine = machine_of t })) (did_is r.path z) (ends r.path r.over)

  run_faults : {i : Fault} {t : State} {k : Progress} → StoppedBy w (at_start (begin m u)) (begin m u) i t k → RunIs w m u (given_up w (part_of w m.stack u (stopped i t k)))
  unfolding part_of given_up
  run_faults {i} {t} {k} r =
      let z : spent_on r.path + 1 ≡ t.spent = omega (arith, (path_units r.path).spent, (fault_cost w r.at r.stops).spent) in
      subst (λ (x : Tally). RunIs w m u (record { reply = fault (fault_number i) x (trace_of w.functions (t.frame ∷ t.callers)); machine = recovered w m.stack k })) (did_is r.path z)
      (faults r.path r.goes_on_lem r.stops)

  run_gives_up : {t : State} {k : Progress} → PausedBy w (at_start (begin m u)) (begin m u) k t → RunIs w m u (given_up w (part_of w m.stack u (paused k t)))
  unfolding part_of given_up abandon_of
  run_gives_up {t} {k} r =
      subst (λ (x : Tally). RunIs w m u (record { reply = fault 13 x (trace_of w.functions ((cut_at t).frame ∷ (cut_at t).callers)); machine = recovered w m.stack k })) (did_is r.path refl)
      (gives_up r.path r.goes_on_lem r.unpaid)

  run_by_steps : (e : Ended) → By w (at_start (begin m u)) (begin m u) e → RunIs w m u (given_up w (part_of w m.stack u e))
  run_by_steps (ended k t) r = run_ends r
  run_by_steps (stopped i t k) r = run_faults r
  run_by_steps (paused k t) r = run_gives_up r

  -- a run is a path of written steps: each unit is tied to one of them, and so is each root Return that it tells
  pub run_is_steps : RunIs w m u (run_of w m u)
  unfolding run_of
  run_is_steps = let s = begin m u in run_by_steps (end_of w s) (run_path w (at_start s) s (sym (end_of_lem w s)))
