-- The heap: a list of cells that only grows within a run.
use Rattle.std.specs.Prelude.{Bool, true, false, ◌&&◌, List, [], ◌∷◌, ◌++◌, map, reverse, ℕ, zero, suc, ◌+◌, ◌*◌, ◌/◌, ◌%◌, max, eqb, leb, ltb, length, get_or, take, if◌then◌else◌, Err, Ok, Result}
use Rattle.model.specs.declared.Value.{Value}
use Rattle.model.specs.declared.Value.TheVariants as v
use Rattle.model.specs.declared.Header.{Header}
use Rattle.model.specs.declared.Fault.{Fault}
use Rattle.model.specs.declared.Fault.TheVariants as f
use Rattle.model.specs.Values.{kind, payload, kind_at, payload_at, put_words, value_of, exact_value}

-- [cells] a list or struct of n elements takes n + 1 cells: a header, and the elements
pub data Cell : Type 0 where
  item : Value → Cell
  head : Header → Cell

-- ---- cells in words: kind 6 is a header

unfoldable pub header_of : ℕ → Header
header_of a = record { count = a % 0x1_0000; number = a / 0x1_0000 % 0x1_0000; depth = a / 0x1_0000_0000 }

unfoldable pub cell_of : ℕ → ℕ → Cell
cell_of k a = if eqb k 6 then head (header_of a) else item (value_of k a)

unfoldable pub cell_at : List ℕ → ℕ → Cell
cell_at s i = cell_of (kind_at s i) (payload_at s i)

abbrev pub cell_kind : Cell → ℕ
cell_kind (item v) = kind v
cell_kind (head h) = 6

abbrev pub cell_payload : Cell → ℕ
cell_payload (item v) = payload v
cell_payload (head h) = h.count + 0x1_0000 * h.number + 0x1_0000_0000 * h.depth

-- the store with the cell x at place i
unfoldable pub put_cell : List ℕ → ℕ → Cell → List ℕ
put_cell s i x = put_words s i (cell_kind x) (cell_payload x)

-- the cells at places i to i + n - 1, in order
unfoldable pub cells_from : ℕ → ℕ → List ℕ → List Cell
cells_from zero i s = []
cells_from (suc n) i s = cell_at s i ∷ cells_from n (suc i) s

-- the heap that a store of cells stands for, where n are taken
unfoldable pub heap_of : ℕ → List ℕ → List Cell
heap_of n s = cells_from n 0 s

-- ---- what stands in a heap

abbrev pub is_head : Cell → Bool
is_head (item v) = false
is_head (head h) = true

abbrev pub item_of : Cell → Value
item_of (item v) = v
item_of (head h) = v.Boolean false

abbrev pub head_of : Cell → Header
head_of (item v) = record { count = 0; number = 0; depth = 0 }
head_of (head h) = h

unfoldable pub cell_in : List Cell → ℕ → Cell
cell_in H i = get_or H i (item (v.Boolean false))

unfoldable pub item_in : List Cell → ℕ → Value
item_in H i = item_of (cell_in H i)

unfoldable pub head_in : List Cell → ℕ → Header
head_in H p = head_of (cell_in H p)

-- the n values from place i on
unfoldable pub items : ℕ → ℕ → List Cell → List Value
items zero i H = []
items (suc n) i H = item_in H i ∷ items n (suc i) H

-- the elements of the list or struct whose header is at p
unfoldable pub elements_in : List Cell → ℕ → List Value
elements_in H p = items (head_in H p).count (suc p) H

-- [field] field number a of the struct whose header is at p
unfoldable pub field_of : List Cell → ℕ → ℕ → Result Value Fault
field_of H p a = if ltb a (head_in H p).count then Ok (item_in H (suc p + a)) else Err f.OutOfRange

-- [depth] a plain value 0, a list or struct what its header says
unfoldable pub depth_in : List Cell → Value → ℕ
depth_in H (v.Scalar x) = 0
depth_in H (v.Boolean x) = 0
depth_in H (v.String o n) = 0
depth_in H (v.FunctionReference o n) = 0
depth_in H (v.List p) = (head_in H p).depth
depth_in H (v.StructInstance p) = (head_in H p).depth

unfoldable pub deepest : List Cell → List Value → ℕ
deepest H [] = 0
deepest H (v ∷ vs) = max (depth_in H v) (deepest H vs)

-- ---- [build] a list or struct made of the values on top of the stack, whose top is first

-- of a list the value popped first is the last element, of a struct it is field 0
unfoldable pub list_elements : ℕ → List Value → List Value
list_elements n vs = reverse (take n vs)

unfoldable pub struct_fields : ℕ → List Value → List Value
struct_fields n vs = take n vs

-- the cells of a list (number 0) or struct of the elements vs
unfoldable pub block_of : List Cell → ℕ → List Value → List Cell
block_of H k vs = head (record { count = length vs; number = k; depth = suc (deepest H vs) }) ∷ map item vs

pub data Built : Type 0 where
  built : List Cell → Built
  unbuilt : Fault → Built

-- 12 before 11; the header is then at the end of the heap as it was
unfoldable pub build_of : ℕ → List Cell → ℕ → List Value → Built
build_of room H k vs =
    if ltb 64 (suc (deepest H vs)) then unbuilt f.TooDeep else
    (if ltb room (length H + suc (length vs)) then unbuilt f.CellsFull else
    built (H ++ block_of H k vs))

-- ---- [order.cells] good order of a heap over t bytes of text

-- a header stands at p, and its elements end at or below b
unfoldable pub whole_below : (heap : List Cell) → (p b : ℕ) → Bool
whole_below H p b = is_head (cell_in H p) && leb (suc p + (head_in H p).count) b

-- a value's text is inside the text, and its cells are whole and below b; a list has struct number 0
unfoldable pub placed_below : (text : ℕ) → (heap : List Cell) → (b : ℕ) → Value → Bool
placed_below t H b (v.Scalar x) = true
placed_below t H b (v.Boolean x) = true
placed_below t H b (v.String o n) = leb (o + n) t
placed_below t H b (v.FunctionReference o n) = leb (o + n) t
placed_below t H b (v.List p) = whole_below H p b && eqb (head_in H p).number 0
placed_below t H b (v.StructInstance p) = whole_below H p b

-- an element: a value, and no header
unfoldable pub element_below : (text : ℕ) → (heap : List Cell) → (b : ℕ) → Cell → Bool
element_below t H b (item v) = placed_below t H b v
element_below t H b (head h) = false

-- the n cells from i on are elements, placed below b
unfoldable pub elements_below : (text : ℕ) → (heap : List Cell) → (b n i : ℕ) → Bool
elements_below t H b zero i = true
elements_below t H b (suc n) i = element_below t H b (cell_in H i) && elements_below t H b n (suc i)

-- the list or struct whose header stands at p: whole, its elements placed below it, its depth right and at most 64
unfoldable pub block_ok : (text : ℕ) → (heap : List Cell) → (p : ℕ) → Bool
block_ok t H p = whole_below H p (length H) && elements_below t H p (head_in H p).count (suc p) && eqb (head_in H p).depth (suc (deepest H (elements_in H p))) && leb (head_in H p).depth 64

-- lists and structs one behind the other from p to the heap's end, so many at most
unfoldable pub blocks_from : (most : ℕ) → (text : ℕ) → (heap : List Cell) → (p : ℕ) → Bool
blocks_from zero t H p = eqb p (length H)
blocks_from (suc f) t H p = if eqb p (length H) then true else block_ok t H p && blocks_from f t H (suc p + (head_in H p).count)

unfoldable pub heap_ok : (text : ℕ) → (heap : List Cell) → Bool
heap_ok t H = blocks_from (length H) t H 0

-- every place of a store holds exactly its cell's words
unfoldable pub exact_cell : ℕ → ℕ → Bool
exact_cell k a = if eqb k 6 then true else exact_value k a

unfoldable pub exact_cells : ℕ → ℕ → List ℕ → Bool
exact_cells zero i s = true
exact_cells (suc n) i s = exact_cell (kind_at s i) (payload_at s i) && exact_cells n (suc i) s

-- all that an example computes with here
unfoldable pub computes : Type 1
unfolding header_of cell_of cell_at put_cell cells_from heap_of cell_in item_in head_in items elements_in field_of depth_in deepest list_elements struct_fields
    block_of build_of whole_below placed_below element_below elements_below block_ok blocks_from heap_ok exact_cell exact_cells
computes = Type 0
