-- [emission] Each emission entry: its refusals in order (19, 25, 22, 21, then the rest), its answer, and what the stores then hold.
-- `running`: a run is under way on the machine whose program this is, and the program stays as it is (25).
use Rattle.std.specs.Prelude.{Bool, ◌&&◌, List, [], ◌∷◌, ◌++◌, ℕ, zero, suc, ◌+◌, ◌*◌, ◌/◌, ◌%◌, min, ltb, leb, length, replicate, set, if◌then◌else◌, Err, Ok, Result}
use Rattle.std.proofs.Math.Option.{Option, none, some}
use Rattle.model.specs.declared.Constant.{Constant}
use Rattle.model.specs.declared.Constant.TheVariants as k
use Rattle.model.specs.declared.Counts.{Counts}
unfoldable pub use Rattle.model.specs.Basics.{written}
use Rattle.model.specs.Values.{places, put_words, bit}
use Rattle.model.specs.Programs.{main_name, newest_from, first_from, put_in, code_limit, constant_limit, name_limit}
use Rattle.model.specs.Stores.{Stores, with_constants, with_structs, with_functions, with_text, code_here, places_here, with_code, start, size, pack, part, name_word, code_word, code_end, structs_from, orders_from}
use Rattle.model.specs.Orders.{counts_ok, functions_ok, other_taken, adds_code, patches, adds_constant, adds_struct, names_function, judged_by}
use Rattle.model.specs.declared.Refusal.{Refusal}
use Rattle.model.specs.declared.Refusal.TheVariants as why

-- an answer, and what the stores then hold
pub record Res : Type 0 where
  pub answer : Result (Counts × ℕ) Refusal
  pub stores : Stores

abbrev pub done : Counts → ℕ → Stores → Res
done c n s = record { answer = Ok (c, n); stores = s }

-- a refusal changes no store
abbrev pub refuse : Refusal → Stores → Res
refuse e s = record { answer = Err e; stores = s }

-- the counts with one more constant, struct name or function, and n bytes more of text
abbrev pub counts : ℕ → ℕ → ℕ → ℕ → ℕ → Counts
counts cs ss fs tx cur = record { constants = cs; structs = ss; functions = fs; text = tx; current = cur }

abbrev pub one_constant : ℕ → Counts → Counts
one_constant n c = counts (suc c.constants) c.structs c.functions (c.text + n) c.current

abbrev pub one_struct : ℕ → Counts → Counts
one_struct n c = counts c.constants (suc c.structs) c.functions (c.text + n) c.current

-- a new function is then the current one
abbrev pub one_function : ℕ → Counts → Counts
one_function n c = counts c.constants c.structs (suc c.functions) (c.text + n) c.functions

-- an operand, low byte first
unfoldable pub u16 : ℕ → List ℕ
u16 a = a % 256 ∷ a / 256 ∷ []

-- room for n bytes of text more
unfoldable pub text_room : Counts → Stores → ℕ → Bool
text_room c s n = leb (c.text + n) (places 1 s.text)

-- ---- [emission.new] a new program: `<main>`, and nothing else

unfoldable pub new_of : Stores → Res
new_of s =
    if leb 6 (places 1 s.text) && leb 1 (places 2 s.functions)
    then done (counts 0 0 1 6 0) 0 (with_functions (written s.functions 0 (pack 0 6 ∷ 0 ∷ [])) (with_text (written s.text 0 main_name) s))
    else refuse why.StoreFull s

-- ---- [emission.code] add_op to add_op3: the opcode and its operands, each byte with the place

-- the current function's code: its length, and where it ends
unfoldable pub size_here : Counts → Stores → ℕ
size_here c s = size (code_word s.functions c.current)

unfoldable pub end_here : Counts → Stores → ℕ
end_here c s = code_end s.functions c.current

unfoldable pub code_room : Counts → Stores → ℕ
code_room c s = min (places 1 (code_here c s)) (places 1 (places_here c s))

-- the functions' words, the current one with n bytes more
unfoldable pub longer : Counts → ℕ → Stores → List ℕ
longer c n s = set s.functions (2 * c.current + 1) (pack (start (code_word s.functions c.current)) (size_here c s + n))

unfoldable pub appended : Counts → List ℕ → ℕ → Stores → Res
appended c bytes place s =
    done c 0 (with_functions (longer c (length bytes) s)
    (with_code c (written (code_here c s) (end_here c s) bytes) (written (places_here c s) (end_here c s) (replicate (length bytes) place)) s))

unfoldable pub code_order : Counts → Stores → Bool
code_order c s = judged_by adds_code c s

-- opcode 38 or more is refused 1
unfoldable pub emit_in : Counts → ℕ → List ℕ → ℕ → Stores → Res
emit_in c op bytes place s =
    if ltb code_limit (size_here c s + length bytes) then refuse why.OverLimit s else
    (if ltb (code_room c s) (end_here c s + length bytes) then refuse why.StoreFull s else
    (if leb 38 op then refuse why.UnknownOpcode s else
    appended c bytes place s))

unfoldable pub emit_of : (running : Bool) → Counts → ℕ → List ℕ → ℕ → Stores → Res
emit_of running c op bytes place s = if code_order c s then (if running then refuse why.RunUnderWay s else emit_in c op bytes place s) else refuse why.NotInOrder s

unfoldable pub add_op_of : (running : Bool) → Counts → ℕ → ℕ → Stores → Res
add_op_of running c op place s = emit_of running c op (op ∷ []) place s

unfoldable pub add_op1_of : (running : Bool) → Counts → ℕ → ℕ → ℕ → Stores → Res
add_op1_of running c op a place s = emit_of running c op (op ∷ u16 a) place s

unfoldable pub add_op2_of : (running : Bool) → Counts → ℕ → ℕ → ℕ → ℕ → Stores → Res
add_op2_of running c op a b place s = emit_of running c op (op ∷ (u16 a ++ u16 b)) place s

unfoldable pub add_op3_of : (running : Bool) → Counts → ℕ → ℕ → ℕ → ℕ → ℕ → Stores → Res
add_op3_of running c op a b d place s = emit_of running c op (op ∷ (u16 a ++ u16 b ++ u16 d)) place s

unfoldable pub current_offset_of : Counts → List ℕ → Result ℕ Refusal
current_offset_of c fs = if counts_ok c && functions_ok c fs then Ok (size (code_word fs c.current)) else Err why.NotInOrder

-- ---- [emission.patch] 23 when not wholly inside the current function's code

unfoldable pub patch_order : Counts → Stores → Bool
patch_order c s = judged_by patches c s

unfoldable pub patched : Counts → ℕ → ℕ → Stores → Res
patched c at a s = done c 0 (with_code c (written (code_here c s) (start (code_word s.functions c.current) + at) (u16 a)) (places_here c s) s)

unfoldable pub patch_of : (running : Bool) → Counts → ℕ → ℕ → Stores → Res
patch_of running c at a s =
    if patch_order c s then
    (if running then refuse why.RunUnderWay s else
    (if ltb (size_here c s) (at + 2) then refuse why.PatchOutsideCode s else
    patched c at a s))
    else refuse why.NotInOrder s

-- ---- [emission.constant] add_constant; a text is copied into the text store

unfoldable pub with_constant : Counts → ℕ → ℕ → Stores → Res
with_constant c kind payload s = done (one_constant 0 c) c.constants (with_constants (put_words s.constants c.constants kind payload) s)

unfoldable pub with_text_constant : Counts → ℕ → List ℕ → Stores → Res
with_text_constant c kind lent s =
    if text_room c s (length lent)
    then done (one_constant (length lent) c) c.constants
    (with_constants (put_words s.constants c.constants kind (pack c.text (length lent))) (with_text (written s.text c.text lent) s))
    else refuse why.StoreFull s

unfoldable pub constant_added : Counts → Constant → List ℕ → Stores → Res
constant_added c (k.Scalar w) lent s = with_constant c 0 w s
constant_added c (k.Boolean b) lent s = with_constant c 1 (bit b) s
constant_added c k.String lent s = with_text_constant c 2 lent s
constant_added c k.FunctionReference lent s = with_text_constant c 3 lent s

unfoldable pub constant_order : Counts → Stores → Bool
constant_order c s = judged_by adds_constant c s

unfoldable pub add_constant_of : (running : Bool) → Counts → Constant → List ℕ → Stores → Res
add_constant_of running c x lent s =
    if constant_order c s then
    (if running then refuse why.RunUnderWay s else
    (if leb constant_limit c.constants then refuse why.OverLimit s else
    (if leb (places 2 s.constants) c.constants then refuse why.StoreFull s else
    constant_added c x lent s)))
    else refuse why.NotInOrder s

-- ---- [emission.struct] add_struct_info: the number of a known name, else a new one

-- the struct names that there are
unfoldable pub struct_names : Counts → Stores → List (List ℕ)
struct_names c s = structs_from c.structs 0 s.structs s.text

-- the second words of the struct store: the numbers js in the order of names
unfoldable pub put_orders : ℕ → List ℕ → List ℕ → List ℕ
put_orders i [] ss = ss
put_orders i (j ∷ js) ss = put_orders (suc i) js (set ss (2 * i + 1) j)

-- the new name's word behind the others, and its number put in the order of names
unfoldable pub with_struct_name : Counts → List ℕ → Stores → List ℕ
with_struct_name c lent s =
    put_orders 0 (put_in (struct_names c s ++ (lent ∷ [])) c.structs (orders_from c.structs 0 s.structs))
    (set s.structs (2 * c.structs) (pack c.text (length lent)))

unfoldable pub struct_added : Counts → List ℕ → Stores → Res
struct_added c lent s =
    if leb name_limit c.structs then refuse why.OverLimit s else
    (if leb (places 2 s.structs) c.structs then refuse why.StoreFull s else
    (if text_room c s (length lent)
    then done (one_struct (length lent) c) c.structs (with_structs (with_struct_name c lent s) (with_text (written s.text c.text lent) s))
    else refuse why.StoreFull s))

unfoldable pub struct_found : Counts → List ℕ → Stores → Option ℕ → Res
struct_found c lent s (some i) = done c i s
struct_found c lent s none = struct_added c lent s

unfoldable pub struct_order : Counts → Stores → Bool
struct_order c s = judged_by adds_struct c s

unfoldable pub add_struct_of : (running : Bool) → Counts → List ℕ → Stores → Res
add_struct_of running c lent s =
    if struct_order c s then
    (if running then refuse why.RunUnderWay s else
    struct_found c lent s (first_from 0 lent (struct_names c s)))
    else refuse why.NotInOrder s

-- ---- [emission.function] begin_function, end_function, get_function_idx

unfoldable pub function_order : Counts → Stores → Bool
function_order c s = judged_by names_function c s

-- a new function with no code, behind the others
unfoldable pub begun : Counts → List ℕ → Stores → Res
begun c lent s =
    done (one_function (length lent) c) c.functions
    (with_functions (put_words s.functions c.functions (pack c.text (length lent)) (pack (other_taken c s.functions) 0))
    (with_text (written s.text c.text lent) s))

unfoldable pub begin_function_of : (running : Bool) → Counts → List ℕ → Stores → Res
begin_function_of running c lent s =
    if function_order c s then
    (if running then refuse why.RunUnderWay s else
    (if leb name_limit c.functions then refuse why.OverLimit s else
    (if leb (places 2 s.functions) c.functions then refuse why.StoreFull s else
    (if text_room c s (length lent) then begun c lent s else refuse why.StoreFull s))))
    else refuse why.NotInOrder s

unfoldable pub end_function_of : (running : Bool) → Counts → Result (Counts × ℕ) Refusal
end_function_of running c =
    if counts_ok c then
    (if running then Err why.RunUnderWay else
    Ok (counts c.constants c.structs c.functions c.text 0, 0))
    else Err why.NotInOrder

unfoldable pub names_from : ℕ → ℕ → Stores → List (List ℕ)
names_from zero i s = []
names_from (suc n) i s = part s.text (name_word s.functions i) ∷ names_from n (suc i) s

unfoldable pub told_name : Option ℕ → Result ℕ Refusal
told_name none = Err why.NoFunction
told_name (some i) = Ok i

-- the newest function of that name
unfoldable pub function_idx_of : Counts → List ℕ → Stores → Result ℕ Refusal
function_idx_of c lent s = if function_order c s then told_name (newest_from 0 lent (names_from c.functions 0 s)) else Err why.NotInOrder
