-- 26 COMES OF A STRICT MACHINE ALONE: so what is said of the Rust leaves nothing out for it on a machine that is not strict.
use Rattle.std.specs.Prelude.{if◌then◌else◌, Err, None, Ok, Option, Some}
use mathlib.Core.Path.{◌≡◌, refl, sym, subst, ◌∙◌}
use mathlib.Core.Bool.{Bool, true, false, ◌&&◌, true≢false}
use mathlib.Core.List.{List, [], ◌∷◌}
use mathlib.Core.Option.{Option as Maybe, none, some}
use Prim.Native.Nat.{ℕ, suc, ◌+◌, ◌*◌}
use native.Mathlib.Omega.{arith}
use lib.Dec.{ltb, leb, eqb}
use lib.ListN.{length, drop}
use lib.Ieee.{Float}
use Rattle.model.specs.declared.Op.{Op}
use Rattle.model.specs.declared.Op.TheVariants as o
use Rattle.model.specs.declared.Decoded.{Decoded}
use Rattle.model.specs.declared.Decoded.TheVariants as d
use Rattle.model.specs.declared.Value.{Value}
use Rattle.model.specs.declared.Fault.{Fault}
use Rattle.model.specs.declared.Fault.TheVariants as f
use Rattle.model.specs.declared.Frame.{Frame}
use Rattle.model.specs.declared.Tally.{Tally}
use Rattle.model.specs.Values.{fault_number, popping, popping_scalar, popping_boolean}
use Rattle.model.specs.Scalars.{zero_divisor, result_of}
use Rattle.model.specs.Heap.{Cell, built, unbuilt, build_of, field_of, head_in, deepest}
use Rattle.model.specs.Equality.{Same, same}
use Rattle.model.specs.Steps.{World, State, Outcome, went, returned, faulted, short, position, code_of, pushing, on_found, constant_of, slot_of, last_of, load_step, slot_step, last_step, negate_step, arithmetic_step, ordering_step, on_same, equal_step, logic_step, not_step, jump_step, jump_if_false_step, enter, call_step, enter_named, call_callable_step, on_built, build_step, struct_step, field_step, return_to, return_step, exec_of, operands_then, decoded_then, fetched, step_of}
use Rattle.model.specs.Runs.{Machine, Entry, fault, run_of}
use Rattle.value.proofs.Coding.{and_left}
use Rattle.laws_runs.specs.Demand.{Cut, faulting, unpaid, Recovered}
use Rattle.laws_runs.proofs.Combinators.{if_scalar_each, if_boolean_each, if_reference_each, if_struct_each}
use Rattle.laws_runs.proofs.Demands.{run_recovered}

-- what a fault tells of the machine: 26, that it is strict
abbrev pub Tells : World → Fault → Type 0
Tells w f.UnknownOpcode = Unit
Tells w f.NotCarried = Unit
Tells w f.CodeEnds = Unit
Tells w f.TooFewValues = Unit
Tells w (f.WrongKind v) = Unit
Tells w f.OutOfRange = Unit
Tells w f.NoLastResult = Unit
Tells w f.ZeroDivisor = Unit
Tells w f.NotFinite = w.strict ≡ true
Tells w f.StackFull = Unit
Tells w f.FramesFull = Unit
Tells w f.CellsFull = Unit
Tells w f.TooDeep = Unit
Tells w f.NoFunction = Unit

-- an outcome whose fault, if it has one, tells so
data Telling (w : World) : Outcome → Type 0 where
  goes : {t : State} → Telling w (went t)
  returns : {x : Value} {t : State} → Telling w (returned x t)
  faults : {n : Fault} {t : State} → Tells w n → Telling w (faulted n t)
  pauses : Telling w short

module _ (w : World) where
  abbrev T : Outcome → Type 0
  T = Telling w

  -- ---- one law for each combinator of the rules

  if_tells : (c : Bool) {x y : Outcome} → (c ≡ true → T x) → T y → T (if c then x else y)
  if_tells true p q = p refl
  if_tells false p q = q

  module _ (s : State) where
    pop_tells : (vs : List Value) {next : Value → List Value → Outcome} → ((x : Value) (r : List Value) → T (next x r)) → T (popping vs (λ n. faulted n s) next)
    unfolding popping
    pop_tells [] rest = faults tt
    pop_tells (x ∷ r) rest = rest x r

    scalar_tells : (vs : List Value) {next : Float → List Value → Outcome} → ((x : Float) (r : List Value) → T (next x r)) → T (popping_scalar vs (λ n. faulted n s) next)
    unfolding popping_scalar
    scalar_tells vs rest = pop_tells vs (λ x r. if_scalar_each {B = Unit} (λ y u. T y) x {k' = λ y. tt} {x' = tt} (λ y q. rest y r) (faults tt))

    boolean_tells : (vs : List Value) {next : Bool → List Value → Outcome} → ((x : Bool) (r : List Value) → T (next x r)) → T (popping_boolean vs (λ n. faulted n s) next)
    unfolding popping_boolean
    boolean_tells vs rest = pop_tells vs (λ x r. if_boolean_each {B = Unit} (λ y u. T y) x {k' = λ y. tt} {x' = tt} (λ y q. rest y r) (faults tt))

    push_tells : (x : Value) → T (pushing w x s)
    unfolding pushing
    push_tells x = if_tells (ltb (length s.stack) w.stack_room) (λ e. goes) (faults tt)

    found_tells : (c : Bool) (x : Value) (next : Value → Outcome) → T (next x) → T (on_found (if c then Ok x else Err f.OutOfRange) s next)
    unfolding on_found
    found_tells true x next q = q
    found_tells false x next q = faults tt

    last_tells : (x : Option Value) → T (on_found (last_of x) s (λ y. pushing w y s))
    unfolding on_found last_of
    last_tells None = faults tt
    last_tells (Some x) = push_tells x

    same_tells : (t : Bool → Bool) (q : List Value) (x : Same) → T (on_same t q s x)
    unfolding on_same
    same_tells t q (same b k) = if_tells (leb k s.units) (λ e. goes) pauses

    enter_tells : (i n : ℕ) (r : List Value) → T (enter w i n r s)
    unfolding enter
    enter_tells i n r = if_tells (ltb (length r) n) (λ e. faults tt) (if_tells (leb w.frame_room (suc (length s.callers))) (λ e. faults tt) goes)

    named_tells : (n : ℕ) (r : List Value) (x : Maybe ℕ) → T (enter_named w n r s x)
    unfolding enter_named
    named_tells n r none = faults tt
    named_tells n r (some i) = enter_tells i n r

    return_tells : (cs : List Frame) (x : Value) (r : List Value) → T (return_to cs x r s)
    unfolding return_to
    return_tells [] x r = returns
    return_tells (c ∷ cs) x r = goes

  built_tells : (t : ℕ → Value) (r : List Value) (s : State) (deep full : Bool) (H : List Cell)
      → T (on_built w t r s (if deep then unbuilt f.TooDeep else (if full then unbuilt f.CellsFull else built H)))
  unfolding on_built
  built_tells t r s true full H = faults tt
  built_tells t r s false true H = faults tt
  built_tells t r s false false H = push_tells _ _

  build_tells : (t : ℕ → Value) (elements : ℕ → List Value → List Value) (k n : ℕ) (s : State) → T (build_step w t elements k n s)
  unfolding build_step build_of
  build_tells t elements k n s =
      let vs = elements n s.stack in
      if_tells (ltb (length s.stack) n) (λ e. faults tt)
      (built_tells t (drop n s.stack) s (ltb 64 (suc (deepest s.heap vs))) (ltb w.cell_room (length s.heap + suc (length vs))) _)

  -- ---- opcode by opcode

  exec_tells : (p : Op) (a b : ℕ) (s : State) → T (exec_of w p a b s)
  unfolding exec_of load_step constant_of slot_step slot_of last_step negate_step arithmetic_step ordering_step equal_step logic_step not_step jump_step jump_if_false_step call_step call_callable_step struct_step
      field_step field_of return_step
  exec_tells o.LoadConstant a b s = found_tells s (ltb a (length w.constants)) _ _ (push_tells s _)
  exec_tells o.GetLocal a b s = found_tells s (ltb (s.frame.base + a) (length s.stack)) _ _ (push_tells s _)
  exec_tells o.GetUpvalue a b s = found_tells s (ltb a (length s.stack)) _ _ (push_tells s _)
  exec_tells o.GetLastResult a b s = last_tells s s.last
  exec_tells o.Negate a b s = scalar_tells s _ (λ x r. goes)
  exec_tells (o.Arithmetic x) a b s = scalar_tells s _ (λ y r. scalar_tells s _ (λ z q. if_tells (zero_divisor x y) (λ e. faults tt)
      (if_tells (w.strict && (result_of x z y).escaped) (λ e. faults {n = f.NotFinite} (and_left w.strict (result_of x z y).escaped e)) goes)))
  exec_tells (o.Ordering x) a b s = scalar_tells s _ (λ y r. scalar_tells s _ (λ z q. goes))
  exec_tells o.Equal a b s = pop_tells s _ (λ y r. pop_tells s _ (λ x q. same_tells s _ q _))
  exec_tells o.NotEqual a b s = pop_tells s _ (λ y r. pop_tells s _ (λ x q. same_tells s _ q _))
  exec_tells o.LogicalAnd a b s = boolean_tells s _ (λ y r. boolean_tells s _ (λ x q. goes))
  exec_tells o.LogicalOr a b s = boolean_tells s _ (λ y r. boolean_tells s _ (λ x q. goes))
  exec_tells o.LogicalNeg a b s = boolean_tells s _ (λ x r. goes)
  exec_tells o.JumpIfFalse a b s = boolean_tells s _ (λ x r. goes)
  exec_tells o.Jump a b s = goes
  exec_tells o.Call a b s = if_tells (ltb a (length w.functions)) (λ e. enter_tells s a b s.stack) (faults tt)
  exec_tells o.CallCallable a b s = pop_tells s _ (λ x r. if_reference_each {B = Unit} (λ y u. T y) x {k' = λ i n. tt} {x' = tt} (λ i n q. named_tells s a r _) (faults tt))
  exec_tells o.BuildStructInstance a b s = if_tells (ltb a w.structs) (λ e. build_tells _ _ a b s) (faults tt)
  exec_tells o.AccessStructField a b s =
      pop_tells s _ (λ x r. if_struct_each {B = Unit} (λ y u. T y) x {k' = λ p. tt} {x' = tt} (λ p q. found_tells s (ltb a (head_in s.heap p).count) _ _ goes) (faults tt))
  exec_tells o.BuildList a b s = build_tells _ _ 0 a s
  exec_tells o.Return a b s = pop_tells s _ (λ x r. return_tells s s.callers x r)

  -- ---- a step

  decoded_tells : (x : Decoded) (n : ℕ) (s : State) → T (decoded_then w x n s)
  unfolding decoded_then operands_then
  decoded_tells (d.Carried p) n s = if_tells (leb (position s + 2 * n) (length (code_of w s))) (λ e. exec_tells p _ _ _) (faults tt)
  decoded_tells d.NotCarried n s = faults tt
  decoded_tells d.Unknown n s = faults tt

  step_tells : (s : State) → T (step_of w s)
  unfolding step_of fetched
  step_tells s = if_tells (eqb s.units 0) (λ e. pauses) (decoded_tells _ _ _)

  fault_tells : {n : Fault} {t : State} → T (faulted n t) → Tells w n
  fault_tells (faults h) = h

  pub a_fault_tells : (s : State) {t : State} {n : Fault} → step_of w s ≡ faulted n t → Tells w n
  a_fault_tells s q = fault_tells (subst T q (step_tells s))

  tells_strict : (n : Fault) → Tells w n → fault_number n ≡ 26 → w.strict ≡ true
  unfolding fault_number
  tells_strict f.UnknownOpcode h e = absurd (let z : ⊥ = omega arith in z)
  tells_strict f.NotCarried h e = absurd (let z : ⊥ = omega arith in z)
  tells_strict f.CodeEnds h e = absurd (let z : ⊥ = omega arith in z)
  tells_strict f.TooFewValues h e = absurd (let z : ⊥ = omega arith in z)
  tells_strict (f.WrongKind v) h e = absurd (let z : ⊥ = omega arith in z)
  tells_strict f.OutOfRange h e = absurd (let z : ⊥ = omega arith in z)
  tells_strict f.NoLastResult h e = absurd (let z : ⊥ = omega arith in z)
  tells_strict f.ZeroDivisor h e = absurd (let z : ⊥ = omega arith in z)
  tells_strict f.NotFinite h e = h
  tells_strict f.StackFull h e = absurd (let z : ⊥ = omega arith in z)
  tells_strict f.FramesFull h e = absurd (let z : ⊥ = omega arith in z)
  tells_strict f.CellsFull h e = absurd (let z : ⊥ = omega arith in z)
  tells_strict f.TooDeep h e = absurd (let z : ⊥ = omega arith in z)
  tells_strict f.NoFunction h e = absurd (let z : ⊥ = omega arith in z)

  pub a_step_faults_by_26_on_a_strict_machine_alone : (s : State) {t : State} {n : Fault} → step_of w s ≡ faulted n t → fault_number n ≡ 26 → w.strict ≡ true
  a_step_faults_by_26_on_a_strict_machine_alone s {n = n} q e = tells_strict n (a_fault_tells s q) e

-- ---- a run

pub a_machine_not_strict_never_faults_by_26 : (w : World) → w.strict ≡ false → (m : Machine) (u : ℕ) (did : Tally) (trace : List Entry) → (run_of w m u).reply ≡ fault 26 did trace → ⊥
a_machine_not_strict_never_faults_by_26 w lax m u did trace e = let r = run_recovered w m u 26 did trace e in by r refl r.cut
  where
    by : (r : Recovered w m u 26 did trace) {t : State} {n spent : ℕ} → n ≡ 26 → Cut w u r.at t n spent → ⊥
    by r e (faulting i t q) = true≢false (sym (a_step_faults_by_26_on_a_strict_machine_alone w r.at q e) ∙ lax)
    by r e (unpaid q) = let z : ⊥ = omega arith in z
