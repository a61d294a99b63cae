-- Reading a field.
use mathlib.Core.Path.{◌≡◌, sym, ◌∙◌}
use mathlib.Core.List.{List}
use Prim.Native.Nat.{ℕ, suc, ◌+◌, ◌*◌, ◌<◌, ◌≤◌}
use native.Mathlib.Omega.{arith}
use borrow.Author.Tests.{lt-ltb, le-ltb}
use lib.ListN.{length}
use Rattle.model.specs.declared.Value.{Value}
use Rattle.model.specs.declared.Header.{Header}
use Rattle.model.specs.declared.Fault.TheVariants as f
use Rattle.model.specs.Values.{payload_at, value_at}
use Rattle.model.specs.Heap.{header_of, heap_of, head_in, field_of}
use Rattle.cells.specs.Links.{FieldPre}
use Rattle.cells.proofs.Order.{Whole, struct_of, good_of}
use Rattle.cells.proofs.Stands.{item_is, header_is, header_room}
use Rattle.std.specs.Prelude.{Err, Ok}

module _ (w : List ℕ) (used p : ℕ) (pre : FieldPre w used p) where
  here : Whole (heap_of used w) p used
  here = struct_of pre.texts (heap_of used w) used p pre.placed

  pub head_room : 2 * p + 2 ≤ length w
  head_room = header_room w used p here pre.room

  module _ (h : Header) (he : h ≡ header_of (payload_at w p)) (a : ℕ) where
    head_p : head_in (heap_of used w) p ≡ h
    head_p = header_is w used p here ∙ sym he

    pub field_none : h.count ≤ a → Err f.OutOfRange ≡ field_of (heap_of used w) p a
    unfolding field_of
    field_none l = rw (head_p, le-ltb _ _ l)

    module _ (l : a < h.count) where
      pub field_room : 2 * (p + 1 + a) + 2 ≤ length w
      field_room = let y = pre.room in let z : suc p + h.count ≤ used = rw head_p at here.ends in omega arith

      pub field_got : (u : Value) → u ≡ value_at w (p + 1 + a) → Ok u ≡ field_of (heap_of used w) p a
      unfolding field_of
      field_got u e =
          let z : suc p + h.count ≤ used = rw head_p at here.ends in
          let y : p + 1 + a ≡ suc p + a = omega arith in
          let x = ((good_of pre.texts (heap_of used w) pre.good p here.headed).element a (rw head_p l)).plain in
          rw (head_p, lt-ltb _ _ l, item_is w used (suc p + a) (omega arith) x, ← y, e)
