-- A step keeps the table: it faults exactly if a check of its opcode's row fails, and by the number of the first that does.
use Rattle.std.specs.Prelude.{if◌then◌else◌, Err, None, Ok, Option, Some}
use mathlib.Core.Path.{◌≡◌, refl, sym, ap, subst, ◌∙◌}
use mathlib.Core.Bool.{Bool, true, false, not, ◌&&◌, ◌||◌}
use mathlib.Core.List.{List, [], ◌∷◌, reverse, reverse_aux}
use mathlib.Core.Option.{Option as Maybe, none, some}
use Prim.Native.Nat.{ℕ, suc, ◌+◌, max, ◌≤◌}
use lib.Dec.{ltb, leb}
use lib.ListN.{length, take, drop, length-reverse}
use lib.Seq.{length-take-le}
use lib.Ieee.{Float}
use native.Mathlib.Omega.{arith}
use borrow.Author.Tests.{ltb-false}
use Rattle.model.specs.declared.Arith.{Arith}
use Rattle.model.specs.declared.Order.{Order}
use Rattle.model.specs.declared.Op.{Op}
use Rattle.model.specs.declared.Op.TheVariants as o
use Rattle.model.specs.declared.Value.{Value}
use Rattle.model.specs.declared.Value.TheVariants as v
use Rattle.model.specs.declared.Fault.{Fault}
use Rattle.model.specs.declared.Fault.TheVariants as f
use Rattle.model.specs.declared.Frame.{Frame}
use Rattle.model.specs.Values.{if_scalar, if_boolean, if_reference, if_struct, fault_number, popping, popping_scalar, popping_boolean, text_at}
use Rattle.model.specs.Scalars.{zero_divisor, result_of}
use Rattle.model.specs.Heap.{Cell, built, unbuilt, head_in, deepest, field_of, build_of, list_elements, struct_fields}
use Rattle.model.specs.Equality.{Same, same, same_of}
use Rattle.model.specs.Programs.{function_named}
use Rattle.model.specs.Steps.{World, State, Outcome, went, returned, faulted, short, pushing, on_found, constant_of, slot_of, last_of, load_step, slot_step, last_step, negate_step, arithmetic_step, ordering_step, on_same, equal_step, logic_step, not_step, jump_step, jump_if_false_step, enter, call_step, enter_named, call_callable_step, on_built, build_step, struct_step, field_step, return_to, return_step, exec_of}
use Rattle.laws_checks.specs.Table.{Check, constant_known, slot_filled, function_known, struct_known, value_there, scalar_at, boolean_at, reference_at, struct_at, values_there, last_there, field_there, name_known, arguments_there, divisor_fine, result_finite, pairs_paid, depth_fine, cells_free, frame_free, place_free, number_of, checks_of, nth, is_there, is_found, pairs_of, passes, first_failed, Keeps}

-- ---- no check is left

went_on : (w : World) (s t : State) → Keeps (first_failed w s []) (went t)
unfolding first_failed Keeps
went_on w s t = tt

returned_then : (w : World) (s : State) (x : Value) (t : State) → Keeps (first_failed w s []) (returned x t)
unfolding first_failed Keeps
returned_then w s x t = tt

-- ---- one check: where it is passed the rest decides, where it fails its number is the fault's

module _ (w : World) (s : State) (c : Check) (cs : List Check) where
  passed : passes w s c ≡ true → (out : Outcome) → Keeps (first_failed w s cs) out → Keeps (first_failed w s (c ∷ cs)) out
  unfolding first_failed
  passed e out rest = subst (λ (b : Bool). Keeps (if b then first_failed w s cs else some c) out) (sym e) rest

  failed : passes w s c ≡ false → (n : Fault) (t : State) → fault_number n ≡ number_of c → Keeps (first_failed w s (c ∷ cs)) (faulted n t)
  unfolding first_failed Keeps
  failed e n t z = subst (λ (b : Bool). Keeps (if b then first_failed w s cs else some c) (faulted n t)) (sym e) z

  -- a step that goes on if a test is so, and faults otherwise, where the test is the check
  asked : (b : Bool) → passes w s c ≡ b → (go : Outcome) → (b ≡ true → Keeps (first_failed w s cs) go) → (n : Fault) (t : State) → fault_number n ≡ number_of c
      → Keeps (first_failed w s (c ∷ cs)) (if b then go else faulted n t)
  asked true e go rest n t z = passed e go (rest refl)
  asked false e go rest n t z = failed e n t z

  -- the same where it faults if the test is so
  asked_not : (b : Bool) → passes w s c ≡ not b → (go : Outcome) → (b ≡ false → Keeps (first_failed w s cs) go) → (n : Fault) (t : State) → fault_number n ≡ number_of c
      → Keeps (first_failed w s (c ∷ cs)) (if b then faulted n t else go)
  asked_not true e go rest n t z = failed e n t z
  asked_not false e go rest n t z = passed e go (rest refl)

-- ---- pops: vs are the values from the nth on

module _ (w : World) (s : State) where
  abbrev From : ℕ → List Value → Type 0
  From i vs = (holds : Value → Bool) → nth i s.stack holds ≡ nth 0 vs holds

  top : From 0 s.stack
  top holds = refl

  second : (y : Value) (r : List Value) → s.stack ≡ y ∷ r → From 1 r
  unfolding nth
  second y r e holds = ap (λ (vs : List Value). nth 1 vs holds) e

  popped : (i : ℕ) (vs : List Value) → From i vs → (cs : List Check) (k : Value → List Value → Outcome)
      → ((x : Value) (r : List Value) → vs ≡ x ∷ r → Keeps (first_failed w s cs) (k x r))
      → Keeps (first_failed w s (value_there i ∷ cs)) (popping vs (λ n. faulted n s) k)
  unfolding nth passes popping number_of fault_number
  popped i [] from cs k rest = failed w s (value_there i) cs (from (λ x. true)) f.TooFewValues s refl
  popped i (x ∷ r) from cs k rest = passed w s (value_there i) cs (from (λ x. true)) (k x r) (rest x r refl)

  -- the kind of a popped value x, where the check c asks for it
  module _ (c : Check) (cs : List Check) (five : 5 ≡ number_of c) where
    scalar_or : (x : Value) → passes w s c ≡ if_scalar x (λ y. true) false → (k : Float → Outcome)
        → ((y : Float) → x ≡ v.Scalar y → Keeps (first_failed w s cs) (k y)) → Keeps (first_failed w s (c ∷ cs)) (if_scalar x k (faulted (f.WrongKind x) s))
    unfolding if_scalar fault_number
    scalar_or (v.Scalar y) e k rest = passed w s c cs e (k y) (rest y refl)
    scalar_or (v.Boolean y) e k rest = failed w s c cs e (f.WrongKind (v.Boolean y)) s five
    scalar_or (v.String o n) e k rest = failed w s c cs e (f.WrongKind (v.String o n)) s five
    scalar_or (v.FunctionReference o n) e k rest = failed w s c cs e (f.WrongKind (v.FunctionReference o n)) s five
    scalar_or (v.List p) e k rest = failed w s c cs e (f.WrongKind (v.List p)) s five
    scalar_or (v.StructInstance p) e k rest = failed w s c cs e (f.WrongKind (v.StructInstance p)) s five

    boolean_or : (x : Value) → passes w s c ≡ if_boolean x (λ y. true) false → (k : Bool → Outcome)
        → ((y : Bool) → x ≡ v.Boolean y → Keeps (first_failed w s cs) (k y)) → Keeps (first_failed w s (c ∷ cs)) (if_boolean x k (faulted (f.WrongKind x) s))
    unfolding if_boolean fault_number
    boolean_or (v.Scalar y) e k rest = failed w s c cs e (f.WrongKind (v.Scalar y)) s five
    boolean_or (v.Boolean y) e k rest = passed w s c cs e (k y) (rest y refl)
    boolean_or (v.String o n) e k rest = failed w s c cs e (f.WrongKind (v.String o n)) s five
    boolean_or (v.FunctionReference o n) e k rest = failed w s c cs e (f.WrongKind (v.FunctionReference o n)) s five
    boolean_or (v.List p) e k rest = failed w s c cs e (f.WrongKind (v.List p)) s five
    boolean_or (v.StructInstance p) e k rest = failed w s c cs e (f.WrongKind (v.StructInstance p)) s five

    reference_or : (x : Value) → passes w s c ≡ if_reference x (λ p n. true) false → (k : ℕ → ℕ → Outcome)
        → ((p n : ℕ) → x ≡ v.FunctionReference p n → Keeps (first_failed w s cs) (k p n))
        → Keeps (first_failed w s (c ∷ cs)) (if_reference x k (faulted (f.WrongKind x) s))
    unfolding if_reference fault_number
    reference_or (v.Scalar y) e k rest = failed w s c cs e (f.WrongKind (v.Scalar y)) s five
    reference_or (v.Boolean y) e k rest = failed w s c cs e (f.WrongKind (v.Boolean y)) s five
    reference_or (v.String o n) e k rest = failed w s c cs e (f.WrongKind (v.String o n)) s five
    reference_or (v.FunctionReference o n) e k rest = passed w s c cs e (k o n) (rest o n refl)
    reference_or (v.List p) e k rest = failed w s c cs e (f.WrongKind (v.List p)) s five
    reference_or (v.StructInstance p) e k rest = failed w s c cs e (f.WrongKind (v.StructInstance p)) s five

    struct_or : (x : Value) → passes w s c ≡ if_struct x (λ p. true) false → (k : ℕ → Outcome)
        → ((p : ℕ) → x ≡ v.StructInstance p → Keeps (first_failed w s cs) (k p)) → Keeps (first_failed w s (c ∷ cs)) (if_struct x k (faulted (f.WrongKind x) s))
    unfolding if_struct fault_number
    struct_or (v.Scalar y) e k rest = failed w s c cs e (f.WrongKind (v.Scalar y)) s five
    struct_or (v.Boolean y) e k rest = failed w s c cs e (f.WrongKind (v.Boolean y)) s five
    struct_or (v.String o n) e k rest = failed w s c cs e (f.WrongKind (v.String o n)) s five
    struct_or (v.FunctionReference o n) e k rest = failed w s c cs e (f.WrongKind (v.FunctionReference o n)) s five
    struct_or (v.List p) e k rest = failed w s c cs e (f.WrongKind (v.List p)) s five
    struct_or (v.StructInstance p) e k rest = passed w s c cs e (k p) (rest p refl)

  -- a pop of a scalar, of a boolean: there is a value, and it is of that kind
  popped_scalar : (i : ℕ) (vs : List Value) → From i vs → (cs : List Check) (k : Float → List Value → Outcome)
      → ((y : Float) (r : List Value) → vs ≡ v.Scalar y ∷ r → Keeps (first_failed w s cs) (k y r))
      → Keeps (first_failed w s (value_there i ∷ scalar_at i ∷ cs)) (popping_scalar vs (λ n. faulted n s) k)
  unfolding popping_scalar passes number_of nth
  popped_scalar i vs from cs k rest =
      popped i vs from (scalar_at i ∷ cs) (λ x r. if_scalar x (λ y. k y r) (faulted (f.WrongKind x) s)) (λ x r e.
      scalar_or (scalar_at i) cs refl x (from _ ∙ ap (λ (xs : List Value). nth 0 xs (λ y. if_scalar y (λ z. true) false)) e) (λ y. k y r) (λ y ey.
      rest y r (e ∙ ap (λ (z : Value). z ∷ r) ey)))

  popped_boolean : (i : ℕ) (vs : List Value) → From i vs → (cs : List Check) (k : Bool → List Value → Outcome)
      → ((y : Bool) (r : List Value) → vs ≡ v.Boolean y ∷ r → Keeps (first_failed w s cs) (k y r))
      → Keeps (first_failed w s (value_there i ∷ boolean_at i ∷ cs)) (popping_boolean vs (λ n. faulted n s) k)
  unfolding popping_boolean passes number_of nth
  popped_boolean i vs from cs k rest =
      popped i vs from (boolean_at i ∷ cs) (λ x r. if_boolean x (λ y. k y r) (faulted (f.WrongKind x) s)) (λ x r e.
      boolean_or (boolean_at i) cs refl x (from _ ∙ ap (λ (xs : List Value). nth 0 xs (λ y. if_boolean y (λ z. true) false)) e) (λ y. k y r) (λ y ey.
      rest y r (e ∙ ap (λ (z : Value). z ∷ r) ey)))

  -- ---- what opcodes share

  found_or : (c : Check) (cs : List Check) (b : Bool) → passes w s c ≡ b → (x : Value) (n : Fault) → fault_number n ≡ number_of c → (k : Value → Outcome)
      → Keeps (first_failed w s cs) (k x) → Keeps (first_failed w s (c ∷ cs)) (on_found (if b then Ok x else Err n) s k)
  unfolding on_found
  found_or c cs true e x n z k rest = passed w s c cs e (k x) rest
  found_or c cs false e x n z k rest = failed w s c cs e n s z

  -- a value is pushed on what is left where `gone` values are popped
  pushes : (gone : ℕ) (x : Value) (t : State) → t.stack ≡ drop gone s.stack → Keeps (first_failed w s (place_free gone ∷ [])) (pushing w x t)
  unfolding pushing passes number_of fault_number
  pushes gone x t e =
      asked w s (place_free gone) [] (ltb (length t.stack) w.stack_room) (ap (λ (vs : List Value). ltb (length vs) w.stack_room) (sym e)) _ (λ z. went_on w s _) f.StackFull t refl

  enters : (i n gone : ℕ) (vs : List Value) → vs ≡ drop gone s.stack → Keeps (first_failed w s (arguments_there gone n ∷ frame_free ∷ [])) (enter w i n vs s)
  unfolding enter passes number_of fault_number
  enters i n gone vs e =
      asked_not w s (arguments_there gone n) _ (ltb (length vs) n) (ap (λ (us : List Value). not (ltb (length us) n)) (sym e)) _ (λ y.
      asked_not w s frame_free [] (leb w.frame_room (suc (length s.callers))) refl _ (λ z. went_on w s _) f.FramesFull s refl) f.TooFewValues s refl

  -- ---- opcode by opcode

  loads : (a : ℕ) → Keeps (first_failed w s (constant_known a ∷ place_free 0 ∷ [])) (load_step w a s)
  unfolding load_step constant_of passes number_of fault_number
  loads a = found_or (constant_known a) _ (ltb a (length w.constants)) refl _ f.OutOfRange refl _ (pushes 0 _ s refl)

  gets : (i : ℕ) → Keeps (first_failed w s (slot_filled i ∷ place_free 0 ∷ [])) (slot_step w i s)
  unfolding slot_step slot_of passes number_of fault_number
  gets i = found_or (slot_filled i) _ (ltb i (length s.stack)) refl _ f.OutOfRange refl _ (pushes 0 _ s refl)

  last_or : (l : Option Value) → passes w s last_there ≡ is_there l → Keeps (first_failed w s (last_there ∷ place_free 0 ∷ [])) (on_found (last_of l) s (λ x. pushing w x s))
  unfolding on_found last_of is_there number_of fault_number
  last_or None e = failed w s last_there _ e f.NoLastResult s refl
  last_or (Some x) e = passed w s last_there _ e _ (pushes 0 x s refl)

  negates : Keeps (first_failed w s (value_there 0 ∷ scalar_at 0 ∷ [])) (negate_step s)
  unfolding negate_step
  negates = popped_scalar 0 s.stack top [] _ (λ y r e. went_on w s _)

  two_scalars : (cs : List Check) (k : Float → Float → List Value → Outcome)
      → ((y x : Float) (r q : List Value) → s.stack ≡ v.Scalar y ∷ r → r ≡ v.Scalar x ∷ q → Keeps (first_failed w s cs) (k y x q))
      → Keeps (first_failed w s (value_there 0 ∷ scalar_at 0 ∷ value_there 1 ∷ scalar_at 1 ∷ cs))
      (popping_scalar s.stack (λ n. faulted n s) (λ y r. popping_scalar r (λ n. faulted n s) (λ x q. k y x q)))
  two_scalars cs k rest =
      popped_scalar 0 s.stack top _ _ (λ y r e. popped_scalar 1 r (second (v.Scalar y) r e) cs _ (λ x q e'. rest y x r q e e'))

  computes_scalar : (x : Arith) → Keeps (first_failed w s (value_there 0 ∷ scalar_at 0 ∷ value_there 1 ∷ scalar_at 1 ∷ divisor_fine x ∷ result_finite x ∷ [])) (arithmetic_step w x s)
  unfolding arithmetic_step passes nth if_scalar number_of fault_number
  computes_scalar x =
      two_scalars _ _ (λ y z r q e e'.
      let divisor = ap (λ (vs : List Value). nth 0 vs (λ u. if_scalar u (λ d. not (zero_divisor x d)) false)) e in
      let both : s.stack ≡ v.Scalar y ∷ v.Scalar z ∷ q = e ∙ ap (λ (vs : List Value). v.Scalar y ∷ vs) e' in
      let result = ap (λ (vs : List Value). nth 0 vs (λ v. if_scalar v (λ b. nth 1 vs (λ u. if_scalar u (λ a. not (w.strict && (result_of x a b).escaped)) false)) false)) both in
      asked_not w s (divisor_fine x) (result_finite x ∷ []) (zero_divisor x y) divisor _
      (λ z'. asked_not w s (result_finite x) [] (w.strict && (result_of x z y).escaped) result _ (λ q'. went_on w s _) f.NotFinite s refl)
      f.ZeroDivisor s refl)

  orders : (x : Order) → Keeps (first_failed w s (value_there 0 ∷ scalar_at 0 ∷ value_there 1 ∷ scalar_at 1 ∷ [])) (ordering_step x s)
  unfolding ordering_step
  orders x = two_scalars [] _ (λ y z r q e e'. went_on w s _)

  -- a step that goes on if the pairs are paid for, and is short otherwise
  paid_or : (b : Bool) → passes w s pairs_paid ≡ b → (t : State) → Keeps (first_failed w s (pairs_paid ∷ [])) (if b then went t else short)
  unfolding first_failed Keeps
  paid_or true e t = subst (λ (b : Bool). Keeps (if b then none else some pairs_paid) (went t)) (sym e) tt
  paid_or false e t = subst (λ (b : Bool). Keeps (if b then none else some pairs_paid) short) (sym e) refl

  pays : (t : Bool → Bool) (q : List Value) (r : Same) → passes w s pairs_paid ≡ leb (pairs_of r) s.units → Keeps (first_failed w s (pairs_paid ∷ [])) (on_same t q s r)
  unfolding on_same pairs_of
  pays t q (same b k) e = paid_or (leb k s.units) e _

  compares : (t : Bool → Bool) → Keeps (first_failed w s (value_there 0 ∷ value_there 1 ∷ pairs_paid ∷ [])) (equal_step t w s)
  unfolding equal_step passes nth
  compares t =
      popped 0 s.stack top _ _ (λ y r e.
      popped 1 r (second y r e) _ _ (λ x q e'.
      pays t q (same_of w.text s.heap x y)
      (ap (λ (vs : List Value). nth 0 vs (λ b. nth 1 vs (λ a. leb (pairs_of (same_of w.text s.heap a b)) s.units))) (e ∙ ap (λ (u : List Value). y ∷ u) e'))))

  joins : (t : Bool → Bool → Bool) → Keeps (first_failed w s (value_there 0 ∷ boolean_at 0 ∷ value_there 1 ∷ boolean_at 1 ∷ [])) (logic_step t s)
  unfolding logic_step
  joins t = popped_boolean 0 s.stack top _ _ (λ y r e. popped_boolean 1 r (second (v.Boolean y) r e) [] _ (λ x q e'. went_on w s _))

  inverts : Keeps (first_failed w s (value_there 0 ∷ boolean_at 0 ∷ [])) (not_step s)
  unfolding not_step
  inverts = popped_boolean 0 s.stack top [] _ (λ y r e. went_on w s _)

  jumps_if : (a : ℕ) → Keeps (first_failed w s (value_there 0 ∷ boolean_at 0 ∷ [])) (jump_if_false_step a s)
  unfolding jump_if_false_step
  jumps_if a = popped_boolean 0 s.stack top [] _ (λ y r e. went_on w s _)

  jumps : (a : ℕ) → Keeps (first_failed w s []) (jump_step a s)
  unfolding jump_step
  jumps a = went_on w s _

  calls : (i n : ℕ) → Keeps (first_failed w s (function_known i ∷ arguments_there 0 n ∷ frame_free ∷ [])) (call_step w i n s)
  unfolding call_step passes number_of fault_number
  calls i n = asked w s (function_known i) _ (ltb i (length w.functions)) refl _ (λ z. enters i n 0 s.stack refl) f.OutOfRange s refl

  named_or : (n : ℕ) (vs : List Value) → vs ≡ drop 1 s.stack → (i : Maybe ℕ) → passes w s name_known ≡ is_found i
      → Keeps (first_failed w s (name_known ∷ arguments_there 1 n ∷ frame_free ∷ [])) (enter_named w n vs s i)
  unfolding enter_named is_found number_of fault_number
  named_or n vs ev none e = failed w s name_known _ e f.NoFunction s refl
  named_or n vs ev (some i) e = passed w s name_known _ e _ (enters i n 1 vs ev)

  calls_named : (n : ℕ) → Keeps (first_failed w s (value_there 0 ∷ reference_at 0 ∷ name_known ∷ arguments_there 1 n ∷ frame_free ∷ [])) (call_callable_step w n s)
  unfolding call_callable_step passes nth if_reference number_of
  calls_named n =
      popped 0 s.stack top _ _ (λ x r e.
      reference_or (reference_at 0) _ refl x (ap (λ (vs : List Value). nth 0 vs (λ y. if_reference y (λ p k. true) false)) e) _ (λ p k ex.
      named_or n r (ap (drop 1) (sym e)) (function_named (text_at w.text p k) w.functions)
      (ap (λ (vs : List Value). nth 0 vs (λ y. if_reference y (λ q m. is_found (function_named (text_at w.text q m) w.functions)) false)) (e ∙ ap (λ (y : Value). y ∷ r) ex))))

  built_or : (n : ℕ) (t : ℕ → Value) (deep full : Bool) → passes w s (depth_fine n) ≡ not deep → passes w s (cells_free n) ≡ not full → (H : List Cell)
      → Keeps (first_failed w s (depth_fine n ∷ cells_free n ∷ place_free n ∷ []))
      (on_built w t (drop n s.stack) s (if deep then unbuilt f.TooDeep else (if full then unbuilt f.CellsFull else built H)))
  unfolding on_built number_of fault_number
  built_or n t true full d e H = failed w s (depth_fine n) _ d f.TooDeep s refl
  built_or n t false true d e H = passed w s (depth_fine n) _ d _ (failed w s (cells_free n) _ e f.CellsFull s refl)
  built_or n t false false d e H = passed w s (depth_fine n) _ d _ (passed w s (cells_free n) _ e _ (pushes n _ _ refl))

  returns_or : (callers : List Frame) (x : Value) (r : List Value) → Keeps (first_failed w s []) (return_to callers x r s)
  unfolding return_to
  returns_or [] x r = returned_then w s x _
  returns_or (c ∷ cs) x r = went_on w s _

  returns : Keeps (first_failed w s (value_there 0 ∷ [])) (return_step s)
  unfolding return_step
  returns = popped 0 s.stack top [] _ (λ x r e. returns_or s.callers x r)

  reads_field : (a : ℕ) → Keeps (first_failed w s (value_there 0 ∷ struct_at 0 ∷ field_there a ∷ [])) (field_step a s)
  unfolding field_step field_of passes nth if_struct number_of fault_number
  reads_field a =
      popped 0 s.stack top _ _ (λ x r e.
      struct_or (struct_at 0) _ refl x (ap (λ (vs : List Value). nth 0 vs (λ y. if_struct y (λ p. true) false)) e) _ (λ p ex.
      found_or (field_there a) [] (ltb a (head_in s.heap p).count)
      (ap (λ (vs : List Value). nth 0 vs (λ y. if_struct y (λ q. ltb a (head_in s.heap q).count) false)) (e ∙ ap (λ (y : Value). y ∷ r) ex)) _ f.OutOfRange refl _
      (went_on w s _)))

  -- of the values on top a list or struct is as deep as they are, in whichever order they stand in it
  builds : (t : ℕ → Value) (elements : ℕ → List Value → List Value) (k n : ℕ) → deepest s.heap (elements n s.stack) ≡ deepest s.heap (take n s.stack)
      → (n ≤ length s.stack → length (elements n s.stack) ≡ n)
      → Keeps (first_failed w s (values_there n ∷ depth_fine n ∷ cells_free n ∷ place_free n ∷ [])) (build_step w t elements k n s)
  unfolding build_step build_of passes number_of fault_number
  builds t elements k n depth size =
      asked_not w s (values_there n) _ (ltb (length s.stack) n) refl _ (λ enough.
      built_or n t (ltb 64 (suc (deepest s.heap (elements n s.stack)))) (ltb w.cell_room (length s.heap + suc (length (elements n s.stack))))
      (ap (λ (d : ℕ). not (ltb 64 (suc d))) (sym depth))
      (ap (λ (m : ℕ). not (ltb w.cell_room (length s.heap + suc m))) (sym (size (ltb-false (length s.stack) n enough)))) _) f.TooFewValues s refl

  deepest_onto : (vs us : List Value) → deepest s.heap (reverse_aux vs us) ≡ max (deepest s.heap vs) (deepest s.heap us)
  unfolding deepest
  deepest_onto [] us = omega arith
  deepest_onto (x ∷ vs) us = deepest_onto vs (x ∷ us) ∙ omega arith

  deepest_reversed : (vs : List Value) → deepest s.heap (reverse vs) ≡ deepest s.heap vs
  unfolding deepest
  deepest_reversed vs = deepest_onto vs [] ∙ omega arith

  builds_list : (n : ℕ) → Keeps (first_failed w s (values_there n ∷ depth_fine n ∷ cells_free n ∷ place_free n ∷ [])) (build_step w v.List list_elements 0 n s)
  unfolding list_elements
  builds_list n =
      builds v.List list_elements 0 n (deepest_reversed (take n s.stack))
      (λ enough. length-reverse (take n s.stack) ∙ length-take-le n s.stack enough)

  builds_struct : (k n : ℕ) → Keeps (first_failed w s (struct_known k ∷ values_there n ∷ depth_fine n ∷ cells_free n ∷ place_free n ∷ [])) (struct_step w k n s)
  unfolding struct_step struct_fields passes number_of fault_number
  builds_struct k n =
      asked w s (struct_known k) _ (ltb k w.structs) refl _
      (λ z. builds v.StructInstance struct_fields k n refl (λ enough. length-take-le n s.stack enough)) f.OutOfRange s refl

-- THE THEOREM: an instruction faults exactly if a check of its row fails, and by the number of the first that does
pub keeps_the_table : (w : World) (op : Op) (a b : ℕ) (s : State) → Keeps (first_failed w s (checks_of op s.frame.base a b)) (exec_of w op a b s)
unfolding checks_of exec_of last_step passes
keeps_the_table w o.LoadConstant a b s = loads w s a
keeps_the_table w o.GetLocal a b s = gets w s (s.frame.base + a)
keeps_the_table w o.GetUpvalue a b s = gets w s a
keeps_the_table w o.GetLastResult a b s = last_or w s s.last refl
keeps_the_table w o.Negate a b s = negates w s
keeps_the_table w (o.Arithmetic x) a b s = computes_scalar w s x
keeps_the_table w (o.Ordering x) a b s = orders w s x
keeps_the_table w o.Equal a b s = compares w s (λ x. x)
keeps_the_table w o.NotEqual a b s = compares w s not
keeps_the_table w o.LogicalAnd a b s = joins w s ◌&&◌
keeps_the_table w o.LogicalOr a b s = joins w s ◌||◌
keeps_the_table w o.LogicalNeg a b s = inverts w s
keeps_the_table w o.JumpIfFalse a b s = jumps_if w s a
keeps_the_table w o.Jump a b s = jumps w s a
keeps_the_table w o.Call a b s = calls w s a b
keeps_the_table w o.CallCallable a b s = calls_named w s a
keeps_the_table w o.BuildStructInstance a b s = builds_struct w s a b
keeps_the_table w o.AccessStructField a b s = reads_field w s a
keeps_the_table w o.BuildList a b s = builds_list w s a
keeps_the_table w o.Return a b s = returns w s
