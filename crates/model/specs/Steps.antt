-- [step] One step for each carried opcode, in the order of checks:
-- units, 1, 2, 3, number operands, pops from the top, 7, field number, 14, argument count, zero divisor, 26, comparison units, 12, 11, frames, stack.
use Rattle.std.specs.Prelude.{Bool, false, not, ◌&&◌, ◌||◌, List, [], ◌∷◌, ℕ, suc, ◌+◌, ◌-◌, ◌*◌, ltb, leb, eqb, length, get_or, drop, if◌then◌else◌, Err, None, Ok, Option, Result, Some}
use Rattle.std.proofs.Math.Option.{Option as Maybe, none, some}
use Rattle.std.specs.Float.Ieee as Ieee
use Rattle.model.specs.declared.Arith.{Arith}
use Rattle.model.specs.declared.Order.{Order}
use Rattle.model.specs.declared.Op.{Op}
use Rattle.model.specs.declared.Op.TheVariants as o
use Rattle.model.specs.declared.Decoded.{Decoded}
use Rattle.model.specs.declared.Decoded.TheVariants as d
use Rattle.model.specs.declared.Value.{Value}
use Rattle.model.specs.declared.Value.TheVariants as v
use Rattle.model.specs.declared.Fault.{Fault}
use Rattle.model.specs.declared.Fault.TheVariants as f
use Rattle.model.specs.declared.Frame.{Frame}
use Rattle.model.specs.Opcodes.{Opcode, operands}
use Rattle.model.specs.Values.{if_reference, if_struct, popping, popping_scalar, popping_boolean, text_at}
use Rattle.model.specs.Scalars.{result_of, zero_divisor, order_of}
use Rattle.model.specs.Heap.{Cell, Built, built, unbuilt, build_of, list_elements, struct_fields, field_of}
use Rattle.model.specs.Equality.{Same, same, same_of}
use Rattle.model.specs.Programs.{Function, function_at, function_named, word_at, opcode_in}

-- what a run does not change: the program, the rooms of the stores, and whether the machine is strict
pub record World : Type 0 where
  pub constants : List Value
  pub text : List ℕ
  pub structs : ℕ
  pub functions : List Function
  pub stack_room : ℕ
  pub frame_room : ℕ
  pub cell_room : ℕ
  pub strict : Bool

-- what a step changes, with the units that the run has spent and those that are left. The stack has its top first; the callers of the current frame stand
-- innermost first.
pub record State : Type 0 where
  pub stack : List Value
  pub frame : Frame
  pub callers : List Frame
  pub heap : List Cell
  pub last : Option Value
  pub spent : ℕ
  pub units : ℕ

pub data Outcome : Type 0 where
  went : State → Outcome
  -- a completed Return with one frame: its value
  returned : Value → State → Outcome
  -- a fault has dropped and added no frame
  faulted : Fault → State → Outcome
  -- [pause] the units that are left do not pay for the step: nothing has changed
  short : Outcome

-- ---- the state's parts

abbrev pub with_stack : List Value → State → State
with_stack vs s = record { stack = vs; frame = s.frame; callers = s.callers; heap = s.heap; last = s.last; spent = s.spent; units = s.units }

abbrev pub with_heap : List Cell → State → State
with_heap H s = record { stack = s.stack; frame = s.frame; callers = s.callers; heap = H; last = s.last; spent = s.spent; units = s.units }

abbrev pub with_last : Value → State → State
with_last v s = record { stack = s.stack; frame = s.frame; callers = s.callers; heap = s.heap; last = Some v; spent = s.spent; units = s.units }

abbrev pub with_units : ℕ → State → State
with_units u s = record { stack = s.stack; frame = s.frame; callers = s.callers; heap = s.heap; last = s.last; spent = s.spent; units = u }

-- [units] k units are spent
abbrev pub paid : ℕ → State → State
paid k s = record { stack = s.stack; frame = s.frame; callers = s.callers; heap = s.heap; last = s.last; spent = s.spent + k; units = s.units - k }

abbrev pub with_frames : Frame → List Frame → State → State
with_frames f fs s = record { stack = s.stack; frame = f; callers = fs; heap = s.heap; last = s.last; spent = s.spent; units = s.units }

-- the current frame at position i
abbrev pub at : ℕ → State → State
at i s = with_frames (record { function = s.frame.function; position = i; base = s.frame.base; entered = s.frame.entered }) s.callers s

abbrev pub position : State → ℕ
position s = s.frame.position

unfoldable pub code_of : World → State → List ℕ
code_of w s = (function_at w.functions s.frame.function).code

-- ---- [push] room for a value; a step whose own pops have made room finds it here

unfoldable pub pushing : World → Value → State → Outcome
pushing w v s = if ltb (length s.stack) w.stack_room then went (with_stack (v ∷ s.stack) s) else faulted f.StackFull s

unfoldable pub on_found : Result Value Fault → State → (Value → Outcome) → Outcome
on_found (Ok v) s k = k v
on_found (Err f) s k = faulted f s

-- ---- [load], [slot], [last]

unfoldable pub constant_of : List Value → ℕ → Result Value Fault
constant_of cs a = if ltb a (length cs) then Ok (get_or cs a (v.Boolean false)) else Err f.OutOfRange

-- the value in slot i, counted from the bottom of the stack
unfoldable pub slot_of : List Value → ℕ → Result Value Fault
slot_of vs i = if ltb i (length vs) then Ok (get_or vs (length vs - suc i) (v.Boolean false)) else Err f.OutOfRange

unfoldable pub last_of : Option Value → Result Value Fault
last_of None = Err f.NoLastResult
last_of (Some v) = Ok v

unfoldable pub load_step : World → (number : ℕ) → State → Outcome
load_step w a s = on_found (constant_of w.constants a) s (λ v. pushing w v s)

unfoldable pub slot_step : World → (slot : ℕ) → State → Outcome
slot_step w i s = on_found (slot_of s.stack i) s (λ v. pushing w v s)

unfoldable pub last_step : World → State → Outcome
last_step w s = on_found (last_of s.last) s (λ v. pushing w v s)

-- ---- [arithmetic], [orderings]: the right operand is popped first

unfoldable pub negate_step : State → Outcome
negate_step s = popping_scalar s.stack (λ n. faulted n s) (λ x r. went (with_stack (v.Scalar (Ieee.neg x) ∷ r) s))

-- [strict] "26, a fault, right after the zero divisor, strict only"
unfoldable pub arithmetic_step : World → Arith → State → Outcome
arithmetic_step w a s =
    popping_scalar s.stack (λ n. faulted n s) (λ y r.
    popping_scalar r (λ n. faulted n s) (λ x q.
    if zero_divisor a y then faulted f.ZeroDivisor s else
    (if w.strict && (result_of a x y).escaped then faulted f.NotFinite s else
    went (with_stack (v.Scalar (result_of a x y).value ∷ q) s))))

unfoldable pub ordering_step : Order → State → Outcome
ordering_step c s =
    popping_scalar s.stack (λ n. faulted n s) (λ y r.
    popping_scalar r (λ n. faulted n s) (λ x q. went (with_stack (v.Boolean (order_of c x y) ∷ q) s)))

-- ---- [equal], [units] one more unit for each pair visited below the top pair

-- the verdict becomes a value by t; a comparison whose pairs cost more than is left spends nothing
unfoldable pub on_same : (Bool → Bool) → List Value → State → Same → Outcome
on_same t r s (same b k) = if leb k s.units then went (with_stack (v.Boolean (t b) ∷ r) (paid k s)) else short

unfoldable pub equal_step : (Bool → Bool) → World → State → Outcome
equal_step t w s =
    popping s.stack (λ n. faulted n s) (λ y r.
    popping r (λ n. faulted n s) (λ x q. on_same t q s (same_of w.text s.heap x y)))

-- ---- [logic]

unfoldable pub logic_step : (Bool → Bool → Bool) → State → Outcome
logic_step t s =
    popping_boolean s.stack (λ n. faulted n s) (λ y r.
    popping_boolean r (λ n. faulted n s) (λ x q. went (with_stack (v.Boolean (t x y) ∷ q) s)))

unfoldable pub not_step : State → Outcome
not_step s = popping_boolean s.stack (λ n. faulted n s) (λ x r. went (with_stack (v.Boolean (not x) ∷ r) s))

-- ---- [jump] an unsigned offset is added to the position after the instruction

unfoldable pub jump_step : (offset : ℕ) → State → Outcome
jump_step a s = went (at (position s + a) s)

unfoldable pub jump_if_false_step : (offset : ℕ) → State → Outcome
jump_if_false_step a s = popping_boolean s.stack (λ n. faulted n s) (λ x r. went (with_stack r (if x then s else at (position s + a) s)))

-- ---- [call] the base is the stack length less the count; [entered] the Call's own unit is among those spent

unfoldable pub enter : World → (function count : ℕ) → (rest : List Value) → State → Outcome
enter w i n vs s =
    if ltb (length vs) n then faulted f.TooFewValues s else
    (if leb w.frame_room (suc (length s.callers)) then faulted f.FramesFull s else
    went (with_stack vs (with_frames (record { function = i; position = 0; base = length vs - n; entered = s.spent }) (s.frame ∷ s.callers) s)))

unfoldable pub call_step : World → (function count : ℕ) → State → Outcome
call_step w i n s = if ltb i (length w.functions) then enter w i n s.stack s else faulted f.OutOfRange s

unfoldable pub enter_named : World → (count : ℕ) → (rest : List Value) → State → Maybe ℕ → Outcome
enter_named w n vs s none = faulted f.NoFunction s
enter_named w n vs s (some i) = enter w i n vs s

-- pops a reference, and calls the newest function of that name
unfoldable pub call_callable_step : World → (count : ℕ) → State → Outcome
call_callable_step w n s =
    popping s.stack (λ m. faulted m s) (λ v r.
    if_reference v (λ i k. enter_named w n r s (function_named (text_at w.text i k) w.functions)) (faulted (f.WrongKind v) s))

-- ---- [build], [field]

-- the values are popped, and the new value, which names its header's cell, is pushed on the rest
unfoldable pub on_built : World → (naming : ℕ → Value) → (rest : List Value) → State → Built → Outcome
on_built w t r s (built H) = pushing w (t (length s.heap)) (with_stack r (with_heap H s))
on_built w t r s (unbuilt n) = faulted n s

-- a list or struct of `count` values from the top of the stack, in the order that `elements` gives them
unfoldable pub build_step : World → (naming : ℕ → Value) → (elements : ℕ → List Value → List Value) → (number count : ℕ) → State → Outcome
build_step w t elements k n s =
    if ltb (length s.stack) n then faulted f.TooFewValues s else
    on_built w t (drop n s.stack) s (build_of w.cell_room s.heap k (elements n s.stack))

unfoldable pub struct_step : World → (number count : ℕ) → State → Outcome
struct_step w k n s = if ltb k w.structs then build_step w v.StructInstance struct_fields k n s else faulted f.OutOfRange s

unfoldable pub field_step : (number : ℕ) → State → Outcome
field_step a s =
    popping s.stack (λ n. faulted n s) (λ v r.
    if_struct v (λ p. on_found (field_of s.heap p a) s (λ x. went (with_stack (x ∷ r) s))) (faulted (f.WrongKind v) s))

-- ---- [return]

-- the stack shortened to b values if longer
unfoldable pub cut : ℕ → List Value → List Value
cut b vs = drop (length vs - b) vs

unfoldable pub return_to : List Frame → Value → List Value → State → Outcome
return_to [] v r s = returned v (with_last v (with_stack r s))
return_to (c ∷ cs) v r s = went (with_stack (v ∷ cut s.frame.base r) (with_frames c cs s))

unfoldable pub return_step : State → Outcome
return_step s = popping s.stack (λ n. faulted n s) (λ v r. return_to s.callers v r s)

-- ---- an instruction whose opcode and operands a and b have been read; arms ignore operands that are not theirs

unfoldable pub exec_of : World → Op → ℕ → ℕ → State → Outcome
exec_of w o.LoadConstant a b s = load_step w a s
exec_of w o.GetLocal a b s = slot_step w (s.frame.base + a) s
exec_of w o.GetUpvalue a b s = slot_step w a s
exec_of w o.GetLastResult a b s = last_step w s
exec_of w o.Negate a b s = negate_step s
exec_of w (o.Arithmetic x) a b s = arithmetic_step w x s
exec_of w (o.Ordering x) a b s = ordering_step x s
exec_of w o.Equal a b s = equal_step (λ x. x) w s
exec_of w o.NotEqual a b s = equal_step not w s
exec_of w o.LogicalAnd a b s = logic_step ◌&&◌ s
exec_of w o.LogicalOr a b s = logic_step ◌||◌ s
exec_of w o.LogicalNeg a b s = not_step s
exec_of w o.JumpIfFalse a b s = jump_if_false_step a s
exec_of w o.Jump a b s = jump_step a s
exec_of w o.Call a b s = call_step w a b s
exec_of w o.CallCallable a b s = call_callable_step w a s
exec_of w o.BuildStructInstance a b s = struct_step w a b s
exec_of w o.AccessStructField a b s = field_step a s
exec_of w o.BuildList a b s = build_step w v.List list_elements 0 a s
exec_of w o.Return a b s = return_step s

-- n operands are read; the position is then after them
unfoldable pub operands_then : World → Op → ℕ → State → Outcome
operands_then w p n s =
    if leb (position s + 2 * n) (length (code_of w s))
    then exec_of w p (word_at (code_of w s) (position s)) (word_at (code_of w s) (position s + 2)) (at (position s + 2 * n) s)
    else faulted f.CodeEnds s

unfoldable pub decoded_then : World → Decoded → ℕ → State → Outcome
decoded_then w (d.Carried p) n s = operands_then w p n s
decoded_then w d.NotCarried n s = faulted f.NotCarried s
decoded_then w d.Unknown n s = faulted f.UnknownOpcode s

-- [units] the opcode is fetched for one unit; the position is then after it
unfoldable pub fetched : World → Opcode → State → Outcome
fetched w c s = decoded_then w c.what (operands c) (at (suc (position s)) (paid 1 s))

unfoldable pub step_of : World → State → Outcome
step_of w s = if eqb s.units 0 then short else fetched w (opcode_in (code_of w s) (position s)) s

-- all that an example computes with here
unfoldable pub computes : Type 1
unfolding code_of pushing on_found constant_of slot_of last_of load_step slot_step last_step negate_step arithmetic_step ordering_step on_same equal_step
    logic_step not_step jump_step jump_if_false_step enter call_step enter_named call_callable_step on_built build_step struct_step field_step cut return_to
    return_step exec_of operands_then decoded_then fetched step_of
computes = Type 0
