-- What the answers of the code stand for, and what the code asks.
use Rattle.std.specs.Prelude.{◌≡◌, Bool, true, false, List, ◌++◌, map, ℕ, ◌+◌, ◌-◌, ◌*◌, ◌<◌, ◌≤◌, leb, length, get_or, if◌then◌else◌, Err, None, Ok, Option, Result, Some}
use Rattle.model.specs.declared.Value.{Value}
use Rattle.model.specs.declared.Value.TheVariants as v
use Rattle.model.specs.Values.{places, value_at, vals}
use Rattle.model.specs.Heap as heap
use Rattle.model.specs.Heap.{Cell, item, heap_of, list_elements, struct_fields, build_of, placed_below, heap_ok, exact_cells}
use Rattle.model.specs.Equality.{Same, same, said, same_pair}
use Rattle.cells.specs.declared.Verdict.{Verdict}
use Rattle.cells.specs.declared.Verdict.TheVariants.{Done, Out}
use Rattle.cells.specs.declared.Pair.{Pair}
use Rattle.cells.specs.declared.Pair.TheVariants.{Said, Blocks}
use Rattle.model.specs.declared.Fault.{Fault}

-- ---- building

-- of the n values on top of a stack: the elements of a list, or the fields of a struct
unfoldable pub elements_of : Bool → ℕ → List Value → List Value
elements_of true n vs = list_elements n vs
elements_of false n vs = struct_fields n vs

-- u is placed below b, over a text of some length
pub record Held (H : List Cell) (b : ℕ) (u : Value) : Type 0 where
  pub texts : ℕ
  pub placed : placed_below texts H b u ≡ true

-- the stack s of sp values has n that a header can count, and its values are placed in the heap
pub record TopPre (s : List ℕ) (sp n : ℕ) (w : List ℕ) (used : ℕ) : Type 0 where
  pub enough : n ≤ sp
  pub stack : 2 * sp ≤ length s
  pub count : n < 0x1_0000
  pub cells : 2 * used ≤ length w
  pub held : (i : ℕ) → i < sp → Held (heap_of used w) used (value_at s i)

-- the words of w' that are none of the cells from i to j - 1 are those of w
abbrev pub Besides : ℕ → ℕ → List ℕ → List ℕ → Type 0
Besides i j w w' = (k : ℕ) → (2 * i ≤ k → k < 2 * j → ⊥) → get_or w' k 0 ≡ get_or w k 0

-- the values us are copied behind the first i cells, and nothing else is written
pub record CopyPost (us : List Value) (i n : ℕ) (w w' : List ℕ) : Type 0 where
  pub means : heap_of (i + n) w' ≡ heap_of i w ++ map item us
  pub exact : exact_cells i 0 w ≡ true → exact_cells (i + n) 0 w' ≡ true
  pub besides : Besides i (i + n) w w'

-- cells are taken: u are taken then, they fit, exact words stay exact, and no word besides those of the new cells is written
pub record Took (used n u : ℕ) (w w' : List ℕ) : Type 0 where
  pub count : u ≡ used + n + 1
  pub fits : u ≤ 0xFFFF_FFFF
  pub room : 2 * u ≤ length w'
  pub exact : exact_cells used 0 w ≡ true → exact_cells u 0 w' ≡ true
  pub besides : Besides used u w w'

-- a refused build leaves the store as it was
abbrev pub After : Result ℕ Fault → ℕ → ℕ → List ℕ → List ℕ → Type 0
After (Ok u) used n w w' = Took used n u w w'
After (Err f) used n w w' = w' ≡ w

-- what an answer and the store stand for
abbrev pub built_of : Result ℕ Fault → List ℕ → heap.Built
built_of (Ok u) w = heap.built (heap_of u w)
built_of (Err f) w = heap.unbuilt f

pub record BuildPost (list : Bool) (s : List ℕ) (sp n k : ℕ) (w : List ℕ) (used : ℕ) (r : Result ℕ Fault) (w' : List ℕ) : Type 0 where
  pub means : built_of r w' ≡ build_of (places 2 w) (heap_of used w) k (elements_of list n (vals sp s))
  pub after : After r used n w w'

-- ---- reading a field

-- a struct stands at p in a heap in good order
pub record FieldPre (w : List ℕ) (used p : ℕ) : Type 0 where
  pub texts : ℕ
  pub room : 2 * used ≤ length w
  pub good : heap_ok texts (heap_of used w) ≡ true
  pub placed : placed_below texts (heap_of used w) used (v.StructInstance p) ≡ true

-- ---- equality

abbrev pub as_option : Verdict → Option (Bool × ℕ)
as_option (Done alike l) = Some (alike, l)
as_option Out = None

-- with l units left: the answer and the units left then, or that they do not suffice
unfoldable pub verdict : ℕ → Same → Option (Bool × ℕ)
verdict l (same b k) = if leb k l then Some (b, l - k) else None

pub record EqualPre (t w : List ℕ) (used : ℕ) (a b : Value) : Type 0 where
  pub room : 2 * used ≤ length w
  pub good : heap_ok (length t) (heap_of used w) ≡ true
  pub left : placed_below (length t) (heap_of used w) used a ≡ true
  pub right : placed_below (length t) (heap_of used w) used b ≡ true

-- the text of u is inside a text of t bytes: u is placed in some heap
pub record Inside (t : ℕ) (u : Value) : Type 0 where
  pub heap : List Cell
  pub below : ℕ
  pub placed : placed_below t heap below u ≡ true

-- two lists or two structs
pub data Alike : Value → Value → ℕ → ℕ → Type 0 where
  lists : {p q : ℕ} → Alike (v.List p) (v.List q) p q
  structs : {p q : ℕ} → Alike (v.StructInstance p) (v.StructInstance q) p q

-- a pair is said to be the same or not, however elements are compared; or two blocks are to be compared
abbrev pub Compared : List ℕ → Value → Value → Pair → Type 0
Compared t a b (Said x) = (r : Value → Value → Same) (H : List Cell) → same_pair r t H a b ≡ said x
Compared t a b (Blocks p q) = Alike a b p q
