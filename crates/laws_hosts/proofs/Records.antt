-- The record that a call leaves: read back, it is the machine that the entry left.
use mathlib.Core.Path.{◌≡◌, refl}
use mathlib.Core.Bool.{true, ◌&&◌}
use mathlib.Core.List.{List, [], ◌∷◌}
use Prim.Native.Nat.{ℕ, ◌+◌, ◌≤◌, ◌<◌, ◌^◌}
use native.Mathlib.Omega.{arith}
use borrow.Author.Tests.{leb-true}
use lib.Dec.{leb}
use lib.ListN.{length, get_or}
use Rattle.model.specs.declared.Counts.{Counts}
use Rattle.model.specs.declared.Vm.{Vm}
use Rattle.model.specs.declared.Value.{Value}
use Rattle.model.specs.declared.Value.TheVariants as v
use Rattle.model.specs.Basics.{written}
use Rattle.model.specs.Values.{places}
use Rattle.model.specs.Heap.{Cell, heap_of, heap_ok, exact_cells, placed_below}
use Rattle.model.specs.Stores.{Stores}
use Rattle.model.specs.Orders.{cells_ok, last_ok}
use Rattle.model.specs.Machines.{Lent, run_order}
use Rattle.value.specs.Links.{Fine}
use Rattle.value.proofs.Coding.{and_left}
use Rattle.cells.proofs.Order.{list_of, struct_of}
use Rattle.cells.proofs.Stands.{length_heap}
use Rattle.layout.proofs.Parts.{room_2}
use Rattle.laws_programs.proofs.Known.{limited}
use Rattle.laws_runs.proofs.Programs.{parts_of_lem}
use Rattle.laws_runs.proofs.Ordered.{order_of_lem}
use Rattle.embed_words.specs.Coding.{run_in, vm_in, count_words, last_exact, record_ok, RecordOf, FineLast, TypedValue, TypedLast}
use Rattle.demands.specs.Host.{Held}
use Rattle.laws_hosts.specs.Crossed.{held_in}
use Rattle.std.specs.Prelude.{None, Option, Some}

-- ---- a machine in good order has a last result that two words can hold

-- texts and cells are below 2 ^ 32, and so is where a placed value lies
module _ (t : ℕ) (H : List Cell) (texts : t < 2 ^ 32) (cells : length H < 2 ^ 32) where
  value_fine : (x : Value) → placed_below t H (length H) x ≡ true → TypedValue x → Fine x
  unfolding placed_below
  value_fine (v.Scalar x) e k = k
  value_fine (v.Boolean x) e k = tt
  value_fine (v.String o n) e k = let z : o + n ≤ t = leb-true _ _ e in (omega arith, omega arith)
  value_fine (v.FunctionReference o n) e k = let z : o + n ≤ t = leb-true _ _ e in (omega arith, omega arith)
  value_fine (v.List p) e k = let z = (list_of t H (length H) p e).ends in omega arith
  value_fine (v.StructInstance p) e k = let z = (struct_of t H (length H) p e).ends in omega arith

  last_fine : (x : Option Value) → last_ok t H x ≡ true → TypedLast x → FineLast x
  unfolding last_ok
  last_fine None e k = tt
  last_fine (Some x) e k = value_fine x e k

pub order_fine : (m : Vm) (s : Stores) (l : Lent) → run_order m s l ≡ true → TypedLast m.last → FineLast m.last
unfolding cells_ok
order_fine m s l o k =
    let n = m.cells in let cs = l.cells in let t = m.program.text in
    let parts = order_of_lem m s l o in
    let most = (limited m.program (parts_of_lem m.program s parts.program).counts).text in
    let within = leb n (places 2 cs) in let exact = exact_cells n 0 cs in let blocks = heap_ok t (heap_of n cs) in
    let few : n ≤ places 2 cs = leb-true n (places 2 cs) (and_left within exact (and_left (within && exact) blocks parts.cells)) in
    let room = room_2 cs in let many = length_heap n cs in
    last_fine t (heap_of n cs) (omega arith) (omega arith) m.last parts.last k

-- ---- words that are a record

-- with the record of its machine, a host in C holds what h holds
pub record_holds : (h : Held) (w : List ℕ) → RecordOf h.vm w → held_in (record { words = w; stores = h.stores; lent = h.lent }) ≡ h
record_holds h w r = rw r.machine

pub record_long : (w : List ℕ) → record_ok w ≡ true → 17 ≤ length w
unfolding record_ok
record_long w e =
    let long = leb 17 (length w) in let last = last_exact (get_or w 8 0) (get_or w 9 0) in let on = leb (get_or w 10 0) 1 in
    leb-true 17 (length w) (and_left long last (and_left (long && last) on (and_left (long && last && on) (leb (get_or w 16 0) 1) e)))

-- the record with the counts written anew is one as before, of the machine with those counts
abbrev with_program : Counts → Vm → Vm
with_program c m = record { program = c; stack = m.stack; frames = m.frames; cells = m.cells; last = m.last; run = m.run; strict = m.strict }

pub record Recounted (c : Counts) (w : List ℕ) : Type 0 where
  pub machine : vm_in (written w 0 (count_words c)) ≡ with_program c (vm_in w)
  pub taken : record_ok (written w 0 (count_words c)) ≡ record_ok w

pub recounted : (c : Counts) (w : List ℕ) → 17 ≤ length w → Recounted c w
unfolding vm_in run_in record_ok written count_words
recounted c [] h = absurd (let z : ⊥ = omega arith in z)
recounted c (i ∷ []) h = absurd (let z : ⊥ = omega arith in z)
recounted c (i ∷ j ∷ []) h = absurd (let z : ⊥ = omega arith in z)
recounted c (i ∷ j ∷ k ∷ []) h = absurd (let z : ⊥ = omega arith in z)
recounted c (i ∷ j ∷ k ∷ l ∷ []) h = absurd (let z : ⊥ = omega arith in z)
recounted c (i ∷ j ∷ k ∷ l ∷ m ∷ w) h = record { machine = refl; taken = refl }
