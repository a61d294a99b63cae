-- [readers] What a host reads of a machine: the last result, a value of the stack, the elements of a list or struct, a text.
-- A reader judges what it reads (19) and nothing else, so that it costs the same whatever the stores hold.
use Rattle.std.specs.Prelude.{Bool, true, ◌&&◌, List, ℕ, suc, ◌+◌, ltb, leb, if◌then◌else◌, Err, None, Ok, Option, Result, Some}
use Rattle.std.proofs.Math.Option.{Option as Maybe, none, some}
use Rattle.model.specs.declared.Vm.{Vm}
use Rattle.model.specs.declared.Value.{Value}
use Rattle.model.specs.Values.{if_string, if_reference, if_list, if_struct, places, kind_at, payload_at, value_at, exact_value, text_at}
use Rattle.model.specs.Heap.{Cell, heap_of, head_in, placed_below}
use Rattle.model.specs.Orders.{text_ok}
use Rattle.model.specs.Loading.{OutRes, put_out}
use Rattle.model.specs.declared.Header.{Header}
use Rattle.model.specs.declared.Refusal.{Refusal}
use Rattle.model.specs.declared.Refusal.TheVariants as why

-- 7: no last result
unfoldable pub last_shown : Option Value → Result Value Refusal
last_shown None = Err why.NoLastResult
last_shown (Some x) = Ok x

unfoldable pub last_result_of : Vm → Result Value Refusal
last_result_of m = last_shown m.last

-- the value at place i of a store
unfoldable pub value_shown : List ℕ → ℕ → Result Value Refusal
value_shown s i = if exact_value (kind_at s i) (payload_at s i) then Ok (value_at s i) else Err why.NotInOrder

-- the value at i, from the bottom of the stack; 6: no such place
unfoldable pub stack_value_of : Vm → ℕ → List ℕ → Result Value Refusal
stack_value_of m i stack = if leb m.stack (places 2 stack) then (if ltb i m.stack then value_shown stack i else Err why.NoSuchPlace) else Err why.NotInOrder

-- the taken cells are within their store, and x is placed in them
unfoldable pub reads : Vm → Value → List ℕ → Bool
reads m x cells = leb m.cells (places 2 cells) && placed_below m.program.text (heap_of m.cells cells) m.cells x

-- where the header of a list or a struct is
unfoldable pub header_at : Value → Maybe ℕ
header_at x = if_list x some (if_struct x some none)

-- the count of elements, the struct number and the depth of a list or struct; 5: it is neither
unfoldable pub header_shown : List Cell → Maybe ℕ → Result Header Refusal
header_shown H none = Err why.WrongKind
header_shown H (some p) = Ok (head_in H p)

unfoldable pub block_header_of : Vm → Value → List ℕ → Result Header Refusal
block_header_of m x cells = if reads m x cells then header_shown (heap_of m.cells cells) (header_at x) else Err why.NotInOrder

-- element i of a list or struct, which is placed below its header; 5: it is neither; 6: no such element
unfoldable pub element_shown : Vm → ℕ → List ℕ → Maybe ℕ → Result Value Refusal
element_shown m i cells none = Err why.WrongKind
element_shown m i cells (some p) =
    if ltb i (head_in (heap_of m.cells cells) p).count then
    (if placed_below m.program.text (heap_of p cells) p (value_at cells (suc p + i)) then value_shown cells (suc p + i) else Err why.NotInOrder)
    else Err why.NoSuchPlace

unfoldable pub element_of : Vm → Value → ℕ → List ℕ → Result Value Refusal
element_of m x i cells = if reads m x cells then element_shown m i cells (header_at x) else Err why.NotInOrder

-- the text of a string or a function reference lies inside the text that is taken
unfoldable pub reads_text : Vm → Value → Bool
reads_text m x = if_string x (λ o n. leb (o + n) m.program.text) (if_reference x (λ o n. leb (o + n) m.program.text) true)

-- the bytes of a string or a function reference, into a lent store: 17 where it is too short; 5: it is neither
unfoldable pub text_shown : List ℕ → List ℕ → Value → OutRes
text_shown text out x = if_string x (λ o n. put_out (text_at text o n) out) (if_reference x (λ o n. put_out (text_at text o n) out) (record { answer = Err why.WrongKind; out = out }))

unfoldable pub text_bytes_of : Vm → Value → List ℕ → List ℕ → OutRes
text_bytes_of m x text out = if text_ok m.program text && reads_text m x then text_shown text out x else record { answer = Err why.NotInOrder; out = out }
