-- Names in the order that a struct store tells, as the code reads them.
use mathlib.Core.Path.{◌≡◌, ◌∙◌}
use mathlib.Core.Bool.{Bool, ◌&&◌}
use mathlib.Core.List.{List}
use Prim.Native.Nat.{ℕ, ◌<◌}
use lib.Dec.{ltb}
use borrow.Author.Tests.{lt-ltb}
use Rattle.model.specs.Values.{kind_at, payload_at}
use Rattle.model.specs.Equality.{same_bytes}
use Rattle.model.specs.Programs.{before}
use Rattle.model.specs.Stores.{part, struct_word, order_word}
use Rattle.model.specs.Orders.{name_in_order}

-- a place of the order, read in two steps
pub in_order_is : (ss : List ℕ) (i v k w : ℕ) → v ≡ payload_at ss i → k ≡ v → w ≡ kind_at ss k → w ≡ struct_word ss (order_word ss i)
unfolding struct_word order_word
in_order_is ss i v k w ev ek ew = ew ∙ rw (ek, ev)

pub name_here : (ss t : List ℕ) (i w : ℕ) (p : List ℕ) → w ≡ struct_word ss (order_word ss i) → p ≡ part t w → p ≡ name_in_order ss t i
unfolding name_in_order
name_here ss t i w p ew ep = ep ∙ rw ew

-- the name in the middle, compared
pub middle_is : (ss t : List ℕ) (i w : ℕ) (p name : List ℕ) (b : Bool) → w ≡ struct_word ss (order_word ss i) → p ≡ part t w → b ≡ before p name → b ≡ before (name_in_order ss t i) name
middle_is ss t i w p name b ew ep eb = eb ∙ rw (name_here ss t i w p ew ep)

pub stands_is : (ss t : List ℕ) (at n w : ℕ) (p name : List ℕ) (b : Bool) → at < n → w ≡ struct_word ss (order_word ss at) → p ≡ part t w → b ≡ same_bytes name p
    → b ≡ (ltb at n && same_bytes name (name_in_order ss t at))
stands_is ss t at n w p name b h ew ep eb = rw (lt-ltb at n h) (eb ∙ rw (name_here ss t at w p ew ep))
