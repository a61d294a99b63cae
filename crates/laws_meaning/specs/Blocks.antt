-- What a host reads of two lists or structs that mean the same.
use Rattle.std.specs.Prelude.{◌≡◌, List, ℕ, suc, ◌+◌, ◌<◌}
use Rattle.model.specs.Heap.{Cell, item_in, head_in}
use Rattle.laws_meaning.specs.Alike.{Both}

-- at p in H, and at p' in H'
pub record AlikeBlock (t t' : List ℕ) (H H' : List Cell) (p p' : ℕ) : Type 0 where
  -- the same count, struct number and depth
  pub header : head_in H' p' ≡ head_in H p
  -- elements that mean the same
  pub element : (i : ℕ) → i < (head_in H p).count → Both t t' H H' (item_in H (suc p + i)) (item_in H' (suc p' + i))
