-- Names in order: each before the next. A search by halves, and a struct put in.
use Rattle.std.specs.Prelude.{◌≡◌, Bool, true, false, not, ◌&&◌, List, [], ◌∷◌, ℕ, suc, ◌-◌, ◌*◌, ◌≤◌, ◌<◌, set}
use Rattle.model.specs.Programs.{before, among}
use Rattle.model.specs.Stores.{order_word, orders_from}
use Rattle.model.specs.Orders.{name_in_order}
use Rattle.model.specs.Emission.{put_orders}

-- each of n names is before the next
pub record Ascending (n : ℕ) (f : ℕ → List ℕ) : Type 0 where
  pub next : (i : ℕ) → suc i < n → before (f i) (f (suc i)) ≡ true

-- where a search by halves ends: the name below is before t, and the name there is not
pub record Edge (n : ℕ) (f : ℕ → List ℕ) (t : List ℕ) (at : ℕ) : Type 0 where
  pub most : at ≤ n
  pub low : (i : ℕ) → suc i ≡ at → before (f i) t ≡ true
  pub high : at < n → before (f at) t ≡ false

-- the place of t among n names in order: those below are before it, and no other is
pub record Spot (n : ℕ) (f : ℕ → List ℕ) (t : List ℕ) (at : ℕ) : Type 0 where
  pub most : at ≤ n
  pub below : (i : ℕ) → i < at → before (f i) t ≡ true
  pub above : (i : ℕ) → at ≤ i → i < n → before (f i) t ≡ false

-- n struct names stand in order: the second words are numbers of structs, and each name is before the next
pub record InOrder (n : ℕ) (ss t : List ℕ) : Type 0 where
  pub below : (i : ℕ) → i < n → order_word ss i < n
  pub ascending : Ascending n (name_in_order ss t)

-- and this is the place of a name among them
pub record Placed (n at : ℕ) (name ss t : List ℕ) : Type 0 where
  pub order : InOrder n ss t
  pub spot : Spot n (name_in_order ss t) name at

-- the names are all different
unfoldable pub all_different : List (List ℕ) → Bool
all_different [] = true
all_different (n ∷ ns) = not (among n ns) && all_different ns

-- number x put at a place of the order of n numbers: those behind it move up by one
unfoldable pub moved_up : ℕ → ℕ → ℕ → List ℕ → List ℕ
moved_up n at x ss = put_orders at (x ∷ orders_from (n - at) at ss) ss

-- struct n: the word of its name behind the others, its number at a place of the order
unfoldable pub struct_put : ℕ → ℕ → ℕ → List ℕ → List ℕ
struct_put n at w ss = moved_up n at n (set ss (2 * n) w)
