-- What each call does, and what the types say of its arguments.
use Rattle.std.specs.Prelude.{Bool, true, false, ◌||◌, List, [], ◌∷◌, ℕ, ◌<◌}
use Rattle.model.specs.Numbers.{Bytes}
use Rattle.demands.specs.Host.{Ask, new, load, add_op, add_op1, add_op2, add_op3, patch, add_constant, add_struct, begin_function, end_function, set_strict, current_offset, function_idx, save, disassemble, backtrace, last_result, stack_value, block_header, element, text_bytes, Call, run, ask}

pub data Job : Type 0 where
  -- it makes a machine anew, from an image or from none
  makes : (image : List ℕ) → Job
  -- it writes to the program, these operands too
  writes : (operands : List ℕ) → Job
  -- it sets whether the machine is strict
  sets : Job
  -- it only looks
  looks : Job
  -- and it was handed a value, which names cells of one machine
  handed : Job

unfoldable pub job_of : Ask → Job
job_of new = makes []
job_of (load image) = makes image
job_of (add_op op place) = writes []
job_of (add_op1 op a place) = writes (a ∷ [])
job_of (add_op2 op a b place) = writes (a ∷ b ∷ [])
job_of (add_op3 op a b c place) = writes (a ∷ b ∷ c ∷ [])
job_of (patch offset word) = writes (word ∷ [])
job_of (add_constant x text) = writes []
job_of (add_struct text) = writes []
job_of (begin_function text) = writes []
job_of end_function = writes []
job_of (set_strict b) = sets
job_of current_offset = looks
job_of (function_idx text) = looks
job_of (save out) = looks
job_of (disassemble out) = looks
job_of (backtrace out) = looks
job_of last_result = looks
job_of (stack_value i) = looks
job_of (block_header x) = handed
job_of (element x i) = handed
job_of (text_bytes x out) = handed

-- whether calls make a machine anew
abbrev pub is_makes : Job → Bool
is_makes (makes image) = true
is_makes (writes operands) = false
is_makes sets = false
is_makes looks = false
is_makes handed = false

unfoldable pub anew : List Call → Bool
anew [] = false
anew (run c ∷ cs) = anew cs
anew (ask q ∷ cs) = is_makes (job_of q) || anew cs

-- what the types say: an image is bytes, an operand a number of 16 bits
unfoldable pub Below : ℕ → List ℕ → Type 0
Below n [] = Unit
Below n (x ∷ xs) = (x < n) × Below n xs

abbrev pub Typed : Job → Type 0
Typed (makes image) = Bytes image
Typed (writes operands) = Below 65536 operands
Typed sets = Unit
Typed looks = Unit
Typed handed = Unit

unfoldable pub AllTyped : List Call → Type 0
AllTyped [] = Unit
AllTyped (run c ∷ cs) = AllTyped cs
AllTyped (ask q ∷ cs) = Typed (job_of q) × AllTyped cs
