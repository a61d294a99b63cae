-- [order] Good order, clause by clause, and which clauses each entry judges. A clause speaks of the counts and of the stores that it names.
use Rattle.std.specs.Prelude.{Bool, true, false, ◌&&◌, ◌||◌, List, [], ◌∷◌, ℕ, zero, suc, ◌+◌, ◌-◌, min, ltb, leb, eqb, length, take, if◌then◌else◌, None, Option, Some}
use Rattle.model.specs.declared.Counts.{Counts}
use Rattle.model.specs.declared.Frame.{Frame}
use Rattle.model.specs.Basics.{every_from}
use Rattle.model.specs.Values.{places, most_places, kind_at, payload_at, value_at, exact_value}
use Rattle.model.specs.Heap.{Cell, heap_of, heap_ok, exact_cells, placed_below}
use Rattle.model.specs.Equality.{same_bytes}
use Rattle.model.specs.Programs.{Function, function_at, main_name, before, code_limit, constant_limit, name_limit}
use Rattle.model.specs.Stores.{Stores, start, size, part, struct_word, order_word, name_word, code_word, code_end}
use Rattle.model.specs.declared.Value.{Value}

-- ---- [order.program]

-- counts within limits; the current function main or the newest
unfoldable pub counts_ok : Counts → Bool
counts_ok c =
    leb c.constants constant_limit
    && leb c.structs name_limit
    && leb 1 c.functions
    && leb c.functions name_limit
    && leb c.text most_places
    && (eqb c.current 0 || eqb (suc c.current) c.functions)

unfoldable pub text_ok : Counts → List ℕ → Bool
text_ok c t = leb c.text (places 1 t)

-- a name lies inside the text that is taken
unfoldable pub inside_text : Counts → ℕ → Bool
inside_text c w = leb (start w + size w) c.text

-- constants of the four kinds
unfoldable pub constant_ok : Counts → ℕ → ℕ → Bool
constant_ok c k a = if eqb k 0 then true else (if eqb k 1 then ltb a 2 else (if leb k 3 then inside_text c a else false))

unfoldable pub constants_ok : Counts → List ℕ → Bool
constants_ok c cs = leb c.constants (places 2 cs) && every_from c.constants 0 (λ i. constant_ok c (kind_at cs i) (payload_at cs i))

-- the name that stands at i in the order of names
unfoldable pub name_in_order : List ℕ → List ℕ → ℕ → List ℕ
name_in_order ss t i = part t (struct_word ss (order_word ss i))

-- "struct names all different": the second words are numbers of structs, and list them so that each name is before the next
unfoldable pub structs_ok : Counts → List ℕ → List ℕ → Bool
structs_ok c ss t =
    leb c.structs (places 2 ss)
    && every_from c.structs 0 (λ i. inside_text c (struct_word ss i) && ltb (order_word ss i) c.structs)
    && every_from (c.structs - 1) 0 (λ i. before (name_in_order ss t i) (name_in_order ss t (suc i)))

-- where the code of function i starts: the others' codes stand one behind the other
unfoldable pub code_start : List ℕ → ℕ → ℕ
code_start fs zero = 0
code_start fs (suc zero) = 0
code_start fs (suc (suc i)) = code_end fs (suc i)

unfoldable pub function_ok : Counts → List ℕ → ℕ → Bool
function_ok c fs i = inside_text c (name_word fs i) && eqb (start (code_word fs i)) (code_start fs i) && leb (size (code_word fs i)) code_limit && leb (code_end fs i) most_places

unfoldable pub functions_ok : Counts → List ℕ → Bool
functions_ok c fs = leb c.functions (places 2 fs) && every_from c.functions 0 (function_ok c fs)

-- function 0 is `<main>`
unfoldable pub main_ok : List ℕ → List ℕ → Bool
main_ok fs t = same_bytes (part t (name_word fs 0)) main_name

-- how much of the main store and of the others' store is taken
unfoldable pub main_taken : List ℕ → ℕ
main_taken fs = code_end fs 0

unfoldable pub other_taken : Counts → List ℕ → ℕ
other_taken c fs = code_start fs c.functions

-- codes inside stores for main and for the others
unfoldable pub inside_codes : Counts → List ℕ → List ℕ → List ℕ → Bool
inside_codes c fs main other = leb (main_taken fs) (places 1 main) && leb (other_taken c fs) (places 1 other)

-- ---- the clauses, and the table: which of them an entry judges

-- the clauses of a program's good order
pub data Clause : Type 0 where
  -- counts within limits; the current function main or the newest
  of_counts : Clause
  -- the text that is taken lies in its store
  of_text : Clause
  -- constants of the four kinds
  of_constants : Clause
  -- struct names inside the text, all different
  of_structs : Clause
  -- names inside the text, codes one behind the other
  of_functions : Clause
  -- function 0 is `<main>`
  of_main : Clause
  -- codes inside their stores
  of_codes : Clause
  -- and so the places of their bytes
  of_places : Clause

abbrev pub holds : Clause → Counts → Stores → Bool
holds of_counts c s = counts_ok c
holds of_text c s = text_ok c s.text
holds of_constants c s = constants_ok c s.constants
holds of_structs c s = structs_ok c s.structs s.text
holds of_functions c s = functions_ok c s.functions
holds of_main c s = main_ok s.functions s.text
holds of_codes c s = inside_codes c s.functions s.main s.other
holds of_places c s = inside_codes c s.functions s.main_places s.other_places

abbrev pub and_all : Bool → List Clause → Counts → Stores → Bool
and_all b [] c s = b
and_all b (x ∷ xs) c s = and_all (b && holds x c s) xs c s

-- all of these clauses hold
abbrev pub all_hold : List Clause → Counts → Stores → Bool
all_hold [] c s = true
all_hold (x ∷ xs) c s = and_all (holds x c s) xs c s

-- the entries that judge a program
pub data Judge : Type 0 where
  -- add_op, add_op1, add_op2, add_op3
  adds_code : Judge
  tells_offset : Judge
  patches : Judge
  adds_constant : Judge
  adds_struct : Judge
  -- begin_function, and get_function_idx
  names_function : Judge
  ends_function : Judge
  lists : Judge
  -- the backtrace; it judges the frames too
  traces : Judge
  saves : Judge
  -- a run; it judges the machine too
  runs : Judge

-- THE TABLE. An entry of emission, the listing and the backtrace judge the clauses of the stores that they are lent; saving and a run judge all.
abbrev pub clauses_of : Judge → List Clause
clauses_of adds_code = of_counts ∷ of_functions ∷ of_codes ∷ of_places ∷ []
clauses_of tells_offset = of_counts ∷ of_functions ∷ []
clauses_of patches = of_counts ∷ of_functions ∷ of_codes ∷ []
clauses_of adds_constant = of_counts ∷ of_text ∷ of_constants ∷ []
clauses_of adds_struct = of_counts ∷ of_text ∷ of_structs ∷ []
clauses_of names_function = of_counts ∷ of_text ∷ of_functions ∷ of_main ∷ []
clauses_of ends_function = of_counts ∷ []
clauses_of lists = of_counts ∷ of_text ∷ of_functions ∷ of_main ∷ of_codes ∷ []
clauses_of traces = of_counts ∷ of_text ∷ of_functions ∷ of_main ∷ of_codes ∷ of_places ∷ []
clauses_of saves = of_counts ∷ of_text ∷ of_constants ∷ of_structs ∷ of_functions ∷ of_main ∷ of_codes ∷ of_places ∷ []
clauses_of runs = of_counts ∷ of_text ∷ of_constants ∷ of_structs ∷ of_functions ∷ of_main ∷ of_codes ∷ of_places ∷ []

-- what an entry judges of the program; 19 where it does not hold
abbrev pub judged_by : Judge → Counts → Stores → Bool
judged_by j c s = all_hold (clauses_of j) c s

-- the whole: all that saving and a run judge
unfoldable pub program_ok : Counts → Stores → Bool
program_ok c s = judged_by saves c s

-- ---- [order.machine] over t bytes of text and n cells taken

unfoldable pub cells_ok : ℕ → ℕ → List ℕ → Bool
cells_ok t n cells = leb n (places 2 cells) && exact_cells n 0 cells && heap_ok t (heap_of n cells)

unfoldable pub stack_ok : ℕ → List Cell → ℕ → List ℕ → Bool
stack_ok t H n stack = leb n (places 2 stack) && every_from n 0 (λ i. exact_value (kind_at stack i) (payload_at stack i) && placed_below t H (length H) (value_at stack i))

unfoldable pub last_ok : ℕ → List Cell → Option Value → Bool
last_ok t H None = true
last_ok t H (Some v) = placed_below t H (length H) v

-- a known function, a base within the stack store, a position of at most 131,070
unfoldable pub frame_ok : List Function → ℕ → Frame → Bool
frame_ok fs room r = ltb r.function (length fs) && leb r.base room && leb r.position 131070

-- a frame that is not the innermost
unfoldable pub caller_ok : List Function → Frame → Bool
caller_ok fs r = leb 1 r.position && leb r.position (length (function_at fs r.function).code)

-- the frames from r on, the innermost last; the numbers of units at which they were entered "never fall from the root inwards"
unfoldable pub frames_from : List Function → ℕ → Frame → List Frame → Bool
frames_from fs room r [] = frame_ok fs room r
frames_from fs room r (q ∷ qs) = frame_ok fs room r && caller_ok fs r && leb r.entered q.entered && frames_from fs room q qs

-- the first frame is function 0 with base 0
unfoldable pub frames_ok : List Function → ℕ → List Frame → Bool
frames_ok fs room [] = false
frames_ok fs room (r ∷ rs) = eqb r.function 0 && eqb r.base 0 && frames_from fs room r rs

-- n frames in a lent slice
unfoldable pub frame_store_ok : List Function → ℕ → ℕ → List Frame → Bool
frame_store_ok fs room n frames = leb n (min (length frames) most_places) && frames_ok fs room (take n frames)

-- all that an example computes with here
unfoldable pub computes : Type 1
unfolding counts_ok text_ok inside_text constant_ok constants_ok structs_ok code_start function_ok functions_ok main_ok main_taken other_taken inside_codes
    program_ok cells_ok stack_ok last_ok frame_ok caller_ok frames_from frames_ok frame_store_ok name_in_order
computes = Type 0
