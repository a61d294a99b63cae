-- What a run judges: each check answers what the definition says.
use mathlib.Core.Path.{◌≡◌, refl, sym, ◌∙◌}
use mathlib.Core.Bool.{Bool, true, false, ◌&&◌, ◌||◌}
use mathlib.Core.List.{List}
use Prim.Native.Nat.{ℕ, ◌*◌, ◌≤◌, ◌<◌, min}
use native.Mathlib.Omega.{arith}
use borrow.Author.Tests.{leb-true, le-leb, lt-leb}
use lib.Dec.{leb, ltb, eqb}
use lib.ListN.{length}
use Rattle.model.specs.declared.Run.{Run}
use Rattle.model.specs.declared.Vm.{Vm}
use Rattle.model.specs.declared.Frame.{Frame}
use Rattle.model.specs.declared.Value.{Value}
use Rattle.model.specs.Values.{places, kind_at, payload_at, value_of, value_at, exact_value}
use Rattle.model.specs.Heap.{Cell, heap_of, heap_ok, exact_cells, placed_below}
use Rattle.model.specs.Stores.{Stores, size, code_word}
use Rattle.model.specs.Orders.{program_ok, cells_ok, stack_ok, last_ok}
use Rattle.model.specs.Machines.{Lent, frame_room, some_last, idle, copy_short, trace_short}
use Rattle.cells.proofs.Stands.{length_heap}
use Rattle.layout.proofs.Bools.{and_left}
use Rattle.laws_programs.proofs.Every.{Judged}
use Rattle.run_ends.specs.Links.{program_lent, values_ok, rest_order, counts_by, part_by}
use Rattle.std.specs.Prelude.{None, Option, Some, is_some}

-- ---- the cells

-- n places are 2 n words
pub words_room : (n : ℕ) (xs : List ℕ) {r : ℕ} → r ≡ places 2 xs → n ≤ r → 2 * n ≤ length xs
unfolding places
words_room n xs e h = omega (arith, e)

module _ (t n : ℕ) (cells : List ℕ) where
  module _ {r : ℕ} (e : r ≡ places 2 cells) where
    pub cells_many : r < n → false ≡ cells_ok t n cells
    unfolding cells_ok
    cells_many h = rw (lt-leb _ _ (rw e at h))

    pub cells_is : n ≤ r → {b : Bool} → b ≡ exact_cells n 0 cells && heap_ok t (heap_of n cells) → b ≡ cells_ok t n cells
    unfolding cells_ok
    cells_is h f = rw (le-leb _ _ (rw e at h)) f

  -- what has been judged lies in its store
  pub cells_fit : {b : Bool} → b ≡ cells_ok t n cells → b ≡ true → 2 * n ≤ length cells
  unfolding cells_ok
  cells_fit e h =
      let a = leb n (places 2 cells) in
      let x = exact_cells n 0 cells in
      words_room n cells refl (leb-true _ _ (and_left a x (and_left (a && x) (heap_ok t (heap_of n cells)) (sym e ∙ h))))

-- ---- the stack and the last result, over n cells

module _ (t n : ℕ) (cells : List ℕ) where
  pub slot_is : (stack : List ℕ) (i : ℕ) {k a : ℕ} {v : Value} {x p : Bool} → k ≡ kind_at stack i → a ≡ payload_at stack i → v ≡ value_of k a → x ≡ exact_value k a → p ≡ placed_below t (heap_of n cells) n v
      → (x && p) ≡ (exact_value (kind_at stack i) (payload_at stack i) && placed_below t (heap_of n cells) (length (heap_of n cells)) (value_at stack i))
  unfolding value_at
  slot_is stack i ek ea ev ex ep = rw (length_heap n cells, ← ek, ← ea, ← ev, ← ex, ← ep)

  pub no_last_lem : {last : Option Value} → last ≡ None → true ≡ last_ok t (heap_of n cells) last
  unfolding last_ok
  no_last_lem e = rw e

  pub some_last_lem : {last : Option Value} {v : Value} → last ≡ Some v → {p : Bool} → p ≡ placed_below t (heap_of n cells) n v → p ≡ last_ok t (heap_of n cells) last
  unfolding last_ok
  some_last_lem e f = rw (e, length_heap n cells) f

pub stack_judged : (t : ℕ) (H : List Cell) (n : ℕ) (stack : List ℕ)
    → Judged (stack_ok t H n stack) n (places 2 stack) (λ i. exact_value (kind_at stack i) (payload_at stack i) && placed_below t H (length H) (value_at stack i))
unfolding stack_ok
stack_judged t H n stack = record { says = refl }

-- ---- cells, a stack and a last result

module _ (t n : ℕ) (cells : List ℕ) (k : ℕ) (stack : List ℕ) (last : Option Value) {a : Bool} (ea : a ≡ cells_ok t n cells) where
  pub not_exact : a ≡ false → false ≡ values_ok t n cells k stack last
  unfolding values_ok
  not_exact h = rw (← ea, h)

  pub values_are : a ≡ true → {b c : Bool} → b ≡ stack_ok t (heap_of n cells) k stack → c ≡ last_ok t (heap_of n cells) last → (b && c) ≡ values_ok t n cells k stack last
  unfolding values_ok
  values_are h eb ec = rw (← ea, h, ← eb, ← ec)

-- ---- all but the frames and the run that is under way

module _ (m : Vm) (s : Stores) (stack cells : List ℕ) {a : Bool} (ea : a ≡ program_ok m.program s) where
  pub not_whole : a ≡ false → false ≡ rest_order m s stack cells
  unfolding rest_order
  not_whole h = rw (← ea, h)

  pub rest_is : a ≡ true → {b : Bool} → b ≡ values_ok m.program.text m.cells cells m.stack stack m.last → b ≡ rest_order m s stack cells
  unfolding rest_order values_ok
  rest_is h eb = rw (← ea, h) eb

-- ---- the run that is under way

pub some_is : (last : Option Value) → is_some last ≡ some_last last
unfolding some_last
some_is None = refl
some_is (Some v) = refl

pub counts_are : (r : Run) (last : Option Value) (cells slots : ℕ) {some : Bool} → some ≡ some_last last
    → (leb r.spent r.given && leb r.returns r.spent && (eqb r.returns 0 || some) && leb r.mark cells && leb r.saved slots) ≡ counts_by r last cells slots
unfolding counts_by
counts_are r last cells slots e = rw e

module _ (m : Vm) (f : Frame) (slots : ℕ) (words cells copy : List ℕ) where
  pub none_is : m.run.on ≡ false → {b : Bool} → b ≡ idle m.run → b ≡ part_by m f slots words cells copy
  unfolding part_by
  none_is off e = rw e (rw off)

  module _ (on : m.run.on ≡ true) {a : Bool} (ea : a ≡ counts_by m.run m.last m.cells slots) where
    pub not_counted : a ≡ false → false ≡ part_by m f slots words cells copy
    unfolding part_by
    not_counted h = rw (← ea, h, on)

    pub part_is : a ≡ true → {b : Bool} → b ≡ values_ok m.program.text m.run.mark cells m.run.saved copy m.last
        → {w n : ℕ} → w ≡ payload_at words f.function → n ≡ size w
        → (b && leb f.entered m.run.spent && ltb f.position n) ≡ part_by m f slots words cells copy
    unfolding part_by code_word
    part_is h eb ew en = rw (← ea, h, ← eb, on, en, ew)

-- ---- 17

-- the room of a store of n words, so many to a place
abbrev pub Room : (per n : ℕ) → ℕ → Type 0
Room k n r = (s : List ℕ) → length s ≡ n → r ≡ places k s

pub copy_short_is : (a c : ℕ) {ra rc : ℕ} → Room 2 a ra → Room 2 c rc → (l : Lent) → length l.stack ≡ a → length l.copy ≡ c → ltb rc ra ≡ copy_short l
unfolding copy_short
copy_short_is a c ha hc l ea ec = rw (ha l.stack ea, hc l.copy ec)

pub trace_short_is : (b d : ℕ) {rb rd : ℕ} → rb ≡ min b 0xFFFF_FFFF → Room 3 d rd → (l : Lent) → length l.frames ≡ b → length l.backtrace ≡ d → ltb rd rb ≡ trace_short l
unfolding trace_short frame_room
trace_short_is b d hb hd l eb ed = rw (hd l.backtrace ed, hb, eb)
