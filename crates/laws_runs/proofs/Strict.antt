-- A strict machine does as one that is not, unless it faults by 26.
use Rattle.std.specs.Prelude.{if◌then◌else◌}
use mathlib.Core.Path.{◌≡◌, refl, sym, subst, ◌∙◌}
use mathlib.Core.Bool.{Bool, true, false, ◌&&◌}
use mathlib.Core.List.{List, ◌∷◌}
use mathlib.Core.Option.{Option, none, some}
use Prim.Native.Nat.{ℕ, ◌+◌, ◌*◌}
use lib.Dec.{ltb, leb, eqb}
use lib.ListN.{length, drop}
use Rattle.model.specs.declared.Op.{Op}
use Rattle.model.specs.declared.Op.TheVariants as o
use Rattle.model.specs.declared.Decoded.{Decoded}
use Rattle.model.specs.declared.Decoded.TheVariants as d
use Rattle.model.specs.declared.Value.{Value}
use Rattle.model.specs.declared.Tally.{Tally}
use Rattle.model.specs.declared.Fault.TheVariants as f
use Rattle.model.specs.Values.{fault_number}
use Rattle.model.specs.Heap.{Built, built, unbuilt, build_of}
use Rattle.model.specs.Scalars.{zero_divisor, result_of}
use Rattle.model.specs.Steps.{World, State, Outcome, went, returned, faulted, short, position, code_of, pushing, load_step, slot_step, last_step, arithmetic_step, equal_step, enter, call_step, enter_named, call_callable_step, on_built, build_step, struct_step, exec_of, operands_then, decoded_then, fetched, step_of}
use Rattle.model.specs.Runs.{Machine, begin, Progress, at_start, Ended, ended, stopped, paused, over, end_from, end_of, trace_of, tally, recovered, Entry, fault, part_of, abandon_of, given_up, run_of}
use Rattle.laws_runs.specs.Paths.{Steps, none, on, ret, By}
use Rattle.laws_runs.specs.Strict.{set_to}
use Rattle.laws_runs.proofs.Combinators.{if_each, popping_each, if_reference_each, popping_scalar_each}
use Rattle.laws_runs.proofs.Ends.{end_of_lem}
use Rattle.laws_runs.proofs.Paths.{run_path, path_run}

-- a strict step, and beside it the one of a machine that is not strict
data Strictly : Outcome → Outcome → Type 0 where
  alike : {x : Outcome} → Strictly x x
  stops : (t : State) (y : Outcome) → Strictly (faulted f.NotFinite t) y

module _ (w : World) where
  abbrev strict : World
  strict = set_to true w

  abbrev lax : World
  lax = set_to false w

  -- ---- a step

  named_alike : (n : ℕ) (r : List Value) (s : State) (x : Option ℕ) → Strictly (enter_named strict n r s x) (enter_named lax n r s x)
  unfolding enter_named enter
  named_alike n r s none = alike
  named_alike n r s (some i) = alike

  built_alike : (t : ℕ → Value) (r : List Value) (s : State) (x : Built) → Strictly (on_built strict t r s x) (on_built lax t r s x)
  unfolding on_built pushing
  built_alike t r s (built H) = alike
  built_alike t r s (unbuilt n) = alike

  build_alike : (t : ℕ → Value) (elements : ℕ → List Value → List Value) (k n : ℕ) (s : State) → Strictly (build_step strict t elements k n s) (build_step lax t elements k n s)
  unfolding build_step
  build_alike t elements k n s =
      if_each Strictly (ltb (length s.stack) n) (λ e. alike)
      (λ e. built_alike t (drop n s.stack) s (build_of w.cell_room s.heap k (elements n s.stack)))

  computes : (b : Bool) (s : State) (x : Outcome) → Strictly (if true && b then faulted f.NotFinite s else x) (if false && b then faulted f.NotFinite s else x)
  computes true s x = stops s x
  computes false s x = alike

  exec_strict : (p : Op) (a b : ℕ) (s : State) → Strictly (exec_of strict p a b s) (exec_of lax p a b s)
  unfolding exec_of load_step slot_step last_step arithmetic_step equal_step call_step call_callable_step struct_step pushing enter
  exec_strict o.LoadConstant a b s = alike
  exec_strict o.GetLocal a b s = alike
  exec_strict o.GetUpvalue a b s = alike
  exec_strict o.GetLastResult a b s = alike
  exec_strict o.Negate a b s = alike
  exec_strict (o.Arithmetic x) a b s = popping_scalar_each Strictly _ (λ n. alike) (λ j r e. popping_scalar_each Strictly _ (λ n. alike)
      (λ i q e'. if_each Strictly (zero_divisor x j) (λ z. alike) (λ z. computes (result_of x i j).escaped s _)))
  exec_strict (o.Ordering x) a b s = alike
  exec_strict o.Equal a b s = alike
  exec_strict o.NotEqual a b s = alike
  exec_strict o.LogicalAnd a b s = alike
  exec_strict o.LogicalOr a b s = alike
  exec_strict o.LogicalNeg a b s = alike
  exec_strict o.JumpIfFalse a b s = alike
  exec_strict o.Jump a b s = alike
  exec_strict o.Call a b s = alike
  exec_strict o.CallCallable a b s = popping_each Strictly _ (λ n. alike) (λ v r e. if_reference_each Strictly v (λ i k q. named_alike a r s _) alike)
  exec_strict o.BuildStructInstance a b s = if_each Strictly (ltb a w.structs) (λ e. build_alike _ _ a b s) (λ e. alike)
  exec_strict o.AccessStructField a b s = alike
  exec_strict o.BuildList a b s = build_alike _ _ 0 a s
  exec_strict o.Return a b s = alike

  decoded_strict : (x : Decoded) (n : ℕ) (s : State) → Strictly (decoded_then strict x n s) (decoded_then lax x n s)
  unfolding decoded_then operands_then code_of
  decoded_strict (d.Carried p) n s = if_each Strictly (leb (position s + 2 * n) (length (code_of w s))) (λ e. exec_strict p _ _ _) (λ e. alike)
  decoded_strict d.NotCarried n s = alike
  decoded_strict d.Unknown n s = alike

  step_strict : (s : State) → Strictly (step_of strict s) (step_of lax s)
  unfolding step_of fetched code_of
  step_strict s = if_each Strictly (eqb s.units 0) (λ e. alike) (λ e. decoded_strict _ _ _)

  -- ---- a run

  -- an outcome other than 26 is that of the machine that is not strict
  abbrev Not26 : Outcome → Type 0
  Not26 (went t) = Unit
  Not26 (returned v t) = Unit
  Not26 (faulted n t) = fault_number n ≡ 26 → ⊥
  Not26 short = Unit

  alike_but_26 : {x y : Outcome} → Strictly x y → Not26 x → y ≡ x
  unfolding fault_number
  alike_but_26 alike h = refl
  alike_but_26 (stops t y) h = absurd (h refl)

  step_lax : (s : State) {x : Outcome} → Not26 x → step_of strict s ≡ x → step_of lax s ≡ x
  step_lax s {x} h q = alike_but_26 (subst (λ (z : Outcome). Strictly z (step_of lax s)) q (step_strict s)) h

  over_lax : (s : State) {b : Bool} → over strict s ≡ b → over lax s ≡ b
  unfolding over code_of
  over_lax s e = e

  path_lax : {n : ℕ} {m k : Progress} {s t : State} → Steps strict n m s k t → Steps lax n m s k t
  path_lax none = none
  path_lax (on {s = s} o q p) = on (over_lax s o) (step_lax s tt q) (path_lax p)
  path_lax (ret {s = s} o q p) = ret (over_lax s o) (step_lax s tt q) (path_lax p)

  -- a run that has come to an end other than 26, or is paused
  abbrev Ends : Ended → Type 0
  Ends (ended k t) = Unit
  Ends (stopped n t k) = fault_number n ≡ 26 → ⊥
  Ends (paused k t) = Unit

  by_lax : (m : Progress) (s : State) (e : Ended) → Ends e → By strict m s e → By lax m s e
  by_lax m s (ended k t) h r = record { steps = r.steps; path = path_lax r.path; over = over_lax t r.over }
  by_lax m s (stopped n t k) h r =
      record { steps = r.steps; at = r.at; path = path_lax r.path; goes_on_lem = over_lax r.at r.goes_on_lem; stops = step_lax r.at h r.stops }
  by_lax m s (paused k t) h r = record { steps = r.steps; path = path_lax r.path; goes_on_lem = over_lax t r.goes_on_lem; unpaid = step_lax t tt r.unpaid }

  end_lax : (m : Progress) (s : State) (e : Ended) → Ends e → end_from strict m s ≡ e → end_from lax m s ≡ e
  end_lax m s e h q = path_run lax m s e (by_lax m s e h (run_path strict m s q))

  module _ (m : Machine) (u : ℕ) where
    settled_lax : (e : Ended) → end_of strict (begin m u) ≡ e → ((did : Tally) (trace : List Entry) → (run_of strict m u).reply ≡ fault 26 did trace → ⊥) → run_of strict m u ≡ run_of lax m u
    unfolding run_of part_of abandon_of given_up recovered
    settled_lax (ended k t) q h = let s = begin m u in let z = end_of_lem lax s ∙ end_lax (at_start s) s _ tt (sym (end_of_lem strict s) ∙ q) in rw (q, z)
    settled_lax (stopped n t k) q h =
        let s = begin m u in
        let other : fault_number n ≡ 26 → ⊥ = λ e. h (tally t.spent k) (trace_of w.functions (t.frame ∷ t.callers)) (rw (q, e)) in
        let z = end_of_lem lax s ∙ end_lax (at_start s) s _ other (sym (end_of_lem strict s) ∙ q) in
        rw (q, z)
    settled_lax (paused k t) q h = let s = begin m u in let z = end_of_lem lax s ∙ end_lax (at_start s) s _ tt (sym (end_of_lem strict s) ∙ q) in rw (q, z)

    pub a_strict_run_does_as_any_other_unless_it_ends_in_26 : ((did : Tally) (trace : List Entry) → (run_of (set_to true w) m u).reply ≡ fault 26 did trace → ⊥)
        → run_of (set_to true w) m u ≡ run_of (set_to false w) m u
    a_strict_run_does_as_any_other_unless_it_ends_in_26 h = settled_lax (end_of strict (begin m u)) refl h
