-- In good order no reader refuses 19: it tells what the model has there.
use mathlib.Core.Path.{◌≡◌, ◌∙◌}
use mathlib.Core.Bool.{Bool, true, false, ◌&&◌}
use mathlib.Core.List.{List}
use mathlib.Core.Option.{some}
use Prim.Native.Nat.{ℕ, suc, ◌+◌, ◌<◌}
use native.Mathlib.Omega.{arith}
use lib.Dec.{eqb, leb}
use lib.ListN.{length}
use borrow.Author.Tests.{lt-ltb}
use Rattle.model.specs.declared.Vm.{Vm}
use Rattle.model.specs.declared.Value.{Value}
use Rattle.model.specs.declared.Value.TheVariants as v
use Rattle.model.specs.Basics.{every_from}
use Rattle.model.specs.Values.{if_string, if_reference, places, kind_at, payload_at, value_at, exact_value, text_at}
use Rattle.model.specs.Heap.{Cell, heap_of, item_in, head_in, placed_below, heap_ok, exact_cell, exact_cells}
use Rattle.model.specs.Orders.{text_ok, cells_ok, stack_ok}
use Rattle.model.specs.Loading.{put_out}
use Rattle.model.specs.Readers.{value_shown, stack_value_of, reads, header_at, header_shown, block_header_of, element_shown, element_of, reads_text, text_shown, text_bytes_of}
use Rattle.readers.specs.Links.{block_at}
use Rattle.layout.proofs.Bools.{and_left, and_right}
use Rattle.laws_programs.proofs.Every.{passed_at}
use Rattle.cells.proofs.Order.{Element, good_of}
use Rattle.cells.proofs.Stands.{kind_is, item_is, exact_at_lem}
use Rattle.cells.proofs.Scans.{placed_cut}
use Rattle.readers.proofs.Shows.{Stands, stands}
use Rattle.std.specs.Prelude.{Ok}

-- the value at a place of the stack
pub stack_told : (m : Vm) (H : List Cell) (i : ℕ) (s : List ℕ) → stack_ok m.program.text H m.stack s ≡ true → i < m.stack → stack_value_of m i s ≡ Ok (value_at s i)
unfolding stack_ok stack_value_of value_shown
stack_told m H i s e l =
    let test : ℕ → Bool = λ j. exact_value (kind_at s j) (payload_at s j) && placed_below m.program.text H (length H) (value_at s j) in
    let a = leb m.stack (places 2 s) in let b = every_from m.stack 0 test in
    let z : 0 + i ≡ i = omega arith in
    let q : test i ≡ true = rw z at (passed_at m.stack 0 test (and_right a b e) i l) in
    rw (and_left a b e, lt-ltb _ _ l, and_left (exact_value (kind_at s i) (payload_at s i)) _ q)

module _ (m : Vm) (x : Value) (cells : List ℕ) (e : cells_ok m.program.text m.cells cells ≡ true) where
  abbrev H : List Cell
  H = heap_of m.cells cells

  abbrev room : Bool
  room = leb m.cells (places 2 cells)

  abbrev exact : Bool
  exact = exact_cells m.cells 0 cells

  in_cells : placed_below m.program.text H m.cells x ≡ true → reads m x cells ≡ true
  unfolding cells_ok reads
  in_cells p = rw (and_left room exact (and_left (room && exact) (heap_ok m.program.text H) e), p)

  module _ (placed : placed_below m.program.text H m.cells x ≡ true) (p : ℕ) (at : header_at x ≡ some p) where
    -- the header of a list or struct
    pub header_told : block_header_of m x cells ≡ Ok (head_in H p)
    unfolding block_header_of header_shown
    header_told = rw (in_cells placed, at)

    -- each of its elements
    pub element_told : (i : ℕ) → i < (head_in H p).count → element_of m x i cells ≡ Ok (item_in H (suc p + i))
    unfolding cells_ok element_of element_shown value_shown exact_cell block_at
    element_told i l =
        let text = m.program.text in
        let here : Stands m cells p = stands m x cells p (rw (in_cells placed, at)) in
        let good = good_of text H (and_right (room && exact) (heap_ok text H) e) p here.whole.headed in
        let one : Element text H p (suc p + i) = good.element i l in
        let ends = here.whole.ends in
        let below : suc p + i < m.cells = omega arith in
        let is : item_in H (suc p + i) ≡ value_at cells (suc p + i) = item_is cells m.cells (suc p + i) below one.plain in
        let k : eqb (kind_at cells (suc p + i)) 6 ≡ false = kind_is cells m.cells (suc p + i) below ∙ one.plain in
        let c : exact_cell (kind_at cells (suc p + i)) (payload_at cells (suc p + i)) ≡ true = exact_at_lem m.cells cells
        (and_right room exact (and_left (room && exact) (heap_ok text H) e)) (suc p + i) below in
        let words : exact_value (kind_at cells (suc p + i)) (payload_at cells (suc p + i)) ≡ true = rw k at c in
        let b : placed_below text (heap_of p cells) p (value_at cells (suc p + i)) ≡ true = placed_cut text cells m.cells p (omega arith) (value_at cells (suc p + i)) ∙ (rw is at one.placed) in
        rw (in_cells placed, at, lt-ltb _ _ l, b, words, is)

-- the text of a string or a function reference is copied, where it has room
module _ (m : Vm) (text out : List ℕ) (e : text_ok m.program text ≡ true) (H : List Cell) (b o n : ℕ) where
  pub string_told : placed_below m.program.text H b (v.String o n) ≡ true → text_bytes_of m (v.String o n) text out ≡ put_out (text_at text o n) out
  unfolding text_bytes_of reads_text text_shown if_string placed_below
  string_told p = rw (e, p)

  pub reference_told : placed_below m.program.text H b (v.FunctionReference o n) ≡ true → text_bytes_of m (v.FunctionReference o n) text out ≡ put_out (text_at text o n) out
  unfolding text_bytes_of reads_text text_shown if_string if_reference placed_below
  reference_told p = rw (e, p)
