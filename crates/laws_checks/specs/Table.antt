-- [step] What each opcode checks, in order, as a table. The checks of every opcode come first and stand in `step_of`: units, 1, 2, 3.
-- "Number operands, pops from the top (4 before 5 at each), 7, field number, 14, argument count, zero divisor, 26, comparison units, 12, 11, frames, stack."
use Rattle.std.specs.Prelude.{◌≡◌, Bool, true, false, not, ◌&&◌, List, [], ◌∷◌, ℕ, zero, suc, ◌+◌, ltb, leb, length, take, drop, if◌then◌else◌, None, Option, Some}
use Rattle.std.proofs.Math.Option.{Option as Maybe, none, some}
use Rattle.model.specs.declared.Arith.{Arith}
use Rattle.model.specs.declared.Op.{Op}
use Rattle.model.specs.declared.Op.TheVariants as o
use Rattle.model.specs.declared.Value.{Value}
use Rattle.model.specs.Values.{if_scalar, if_boolean, if_reference, if_struct, fault_number, text_at}
use Rattle.model.specs.Scalars.{zero_divisor, result_of}
use Rattle.model.specs.Heap.{head_in, deepest}
use Rattle.model.specs.Equality.{Same, same, same_of}
use Rattle.model.specs.Programs.{function_named}
use Rattle.model.specs.Steps.{World, State, Outcome, went, returned, faulted, short}

-- a check, and the number of the fault where it fails. Values are counted from the top of the stack, from 0 on
pub data Check : Type 0 where
  -- number operands
  constant_known : (number : ℕ) → Check
  slot_filled : (slot : ℕ) → Check
  function_known : (number : ℕ) → Check
  struct_known : (number : ℕ) → Check
  -- pops
  value_there : (nth : ℕ) → Check
  scalar_at : (nth : ℕ) → Check
  boolean_at : (nth : ℕ) → Check
  reference_at : (nth : ℕ) → Check
  struct_at : (nth : ℕ) → Check
  -- as many values as are to be popped at once
  values_there : (count : ℕ) → Check
  last_there : Check
  -- of the struct on top
  field_there : (number : ℕ) → Check
  -- of the reference on top
  name_known : Check
  -- below that reference, or from the top on
  arguments_there : (popped count : ℕ) → Check
  divisor_fine : Arith → Check
  -- of a strict machine
  result_finite : Arith → Check
  pairs_paid : Check
  -- of the list or struct to be built of the values on top
  depth_fine : (count : ℕ) → Check
  cells_free : (count : ℕ) → Check
  frame_free : Check
  place_free : (popped : ℕ) → Check

-- [numbers]
unfoldable pub number_of : Check → ℕ
number_of (constant_known a) = 6
number_of (slot_filled i) = 6
number_of (function_known i) = 6
number_of (struct_known k) = 6
number_of (value_there i) = 4
number_of (scalar_at i) = 5
number_of (boolean_at i) = 5
number_of (reference_at i) = 5
number_of (struct_at i) = 5
number_of (values_there n) = 4
number_of last_there = 7
number_of (field_there a) = 6
number_of name_known = 14
number_of (arguments_there p n) = 4
number_of (divisor_fine x) = 8
number_of (result_finite x) = 26
number_of pairs_paid = 13
number_of (depth_fine n) = 12
number_of (cells_free n) = 11
number_of frame_free = 10
number_of (place_free p) = 9

-- THE TABLE: the checks of an opcode, where the frame's base is `base` and the operands are a and b
unfoldable pub checks_of : Op → (base a b : ℕ) → List Check
checks_of o.LoadConstant base a b = constant_known a ∷ place_free 0 ∷ []
checks_of o.GetLocal base a b = slot_filled (base + a) ∷ place_free 0 ∷ []
checks_of o.GetUpvalue base a b = slot_filled a ∷ place_free 0 ∷ []
checks_of o.GetLastResult base a b = last_there ∷ place_free 0 ∷ []
checks_of o.Negate base a b = value_there 0 ∷ scalar_at 0 ∷ []
checks_of (o.Arithmetic x) base a b = value_there 0 ∷ scalar_at 0 ∷ value_there 1 ∷ scalar_at 1 ∷ divisor_fine x ∷ result_finite x ∷ []
checks_of (o.Ordering x) base a b = value_there 0 ∷ scalar_at 0 ∷ value_there 1 ∷ scalar_at 1 ∷ []
checks_of o.Equal base a b = value_there 0 ∷ value_there 1 ∷ pairs_paid ∷ []
checks_of o.NotEqual base a b = value_there 0 ∷ value_there 1 ∷ pairs_paid ∷ []
checks_of o.LogicalAnd base a b = value_there 0 ∷ boolean_at 0 ∷ value_there 1 ∷ boolean_at 1 ∷ []
checks_of o.LogicalOr base a b = value_there 0 ∷ boolean_at 0 ∷ value_there 1 ∷ boolean_at 1 ∷ []
checks_of o.LogicalNeg base a b = value_there 0 ∷ boolean_at 0 ∷ []
checks_of o.JumpIfFalse base a b = value_there 0 ∷ boolean_at 0 ∷ []
checks_of o.Jump base a b = []
checks_of o.Call base a b = function_known a ∷ arguments_there 0 b ∷ frame_free ∷ []
checks_of o.CallCallable base a b = value_there 0 ∷ reference_at 0 ∷ name_known ∷ arguments_there 1 a ∷ frame_free ∷ []
checks_of o.BuildStructInstance base a b = struct_known a ∷ values_there b ∷ depth_fine b ∷ cells_free b ∷ place_free b ∷ []
checks_of o.AccessStructField base a b = value_there 0 ∷ struct_at 0 ∷ field_there a ∷ []
checks_of o.BuildList base a b = values_there a ∷ depth_fine a ∷ cells_free a ∷ place_free a ∷ []
checks_of o.Return base a b = value_there 0 ∷ []

-- ---- whether a check is passed

-- what holds of the nth value; nothing does where there is none
unfoldable pub nth : ℕ → List Value → (Value → Bool) → Bool
nth i [] holds = false
nth zero (v ∷ vs) holds = holds v
nth (suc i) (v ∷ vs) holds = nth i vs holds

unfoldable pub is_there : Option Value → Bool
is_there None = false
is_there (Some v) = true

unfoldable pub is_found : Maybe ℕ → Bool
is_found none = false
is_found (some i) = true

unfoldable pub pairs_of : Same → ℕ
pairs_of (same b pairs) = pairs

unfoldable pub passes : World → State → Check → Bool
passes w s (constant_known a) = ltb a (length w.constants)
passes w s (slot_filled i) = ltb i (length s.stack)
passes w s (function_known i) = ltb i (length w.functions)
passes w s (struct_known k) = ltb k w.structs
passes w s (value_there i) = nth i s.stack (λ x. true)
passes w s (scalar_at i) = nth i s.stack (λ x. if_scalar x (λ f. true) false)
passes w s (boolean_at i) = nth i s.stack (λ x. if_boolean x (λ y. true) false)
passes w s (reference_at i) = nth i s.stack (λ x. if_reference x (λ p n. true) false)
passes w s (struct_at i) = nth i s.stack (λ x. if_struct x (λ p. true) false)
passes w s (values_there n) = not (ltb (length s.stack) n)
passes w s last_there = is_there s.last
passes w s (field_there a) = nth 0 s.stack (λ x. if_struct x (λ p. ltb a (head_in s.heap p).count) false)
passes w s name_known = nth 0 s.stack (λ x. if_reference x (λ p n. is_found (function_named (text_at w.text p n) w.functions)) false)
passes w s (arguments_there popped n) = not (ltb (length (drop popped s.stack)) n)
passes w s (divisor_fine x) = nth 0 s.stack (λ y. if_scalar y (λ f. not (zero_divisor x f)) false)
passes w s (result_finite o) = nth 0 s.stack (λ v. if_scalar v (λ y. nth 1 s.stack (λ u. if_scalar u (λ x. not (w.strict && (result_of o x y).escaped)) false)) false)
passes w s pairs_paid = nth 0 s.stack (λ y. nth 1 s.stack (λ x. leb (pairs_of (same_of w.text s.heap x y)) s.units))
passes w s (depth_fine n) = not (ltb 64 (suc (deepest s.heap (take n s.stack))))
passes w s (cells_free n) = not (ltb w.cell_room (length s.heap + suc n))
passes w s frame_free = not (leb w.frame_room (suc (length s.callers)))
passes w s (place_free popped) = ltb (length (drop popped s.stack)) w.stack_room

-- ---- what the table says of a step

unfoldable pub first_failed : World → State → List Check → Maybe Check
first_failed w s [] = none
first_failed w s (c ∷ cs) = if passes w s c then first_failed w s cs else some c

-- a step faults exactly if a check fails, and its number is that of the first that does; where that is units for the pairs (13) it is short
unfoldable pub Keeps : Maybe Check → Outcome → Type 0
Keeps none (went t) = Unit {0}
Keeps none (returned v t) = Unit {0}
Keeps none (faulted n t) = ⊥
Keeps none short = ⊥
Keeps (some c) (went t) = ⊥
Keeps (some c) (returned v t) = ⊥
Keeps (some c) (faulted n t) = fault_number n ≡ number_of c
Keeps (some c) short = c ≡ pairs_paid
