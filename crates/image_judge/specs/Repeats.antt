-- Texts that stand one behind the other, and the first that was there before.
use Rattle.std.specs.Prelude.{◌≡◌, true, false, List, [], ◌∷◌, ◌++◌, ℕ, zero, suc, ◌-◌, ◌≤◌, ◌<◌, length, drop}
use Rattle.model.specs.Numbers.{Step, got, bad}
use Rattle.model.specs.Equality.{same_bytes}
use Rattle.model.specs.Images.{read_text}
use Rattle.model.specs.Stores.{part, struct_word}
use Rattle.laws_names.specs.Sorted.{InOrder}
use Rattle.image_judge.specs.Links.{Good, Bad}
use Rattle.image_judge.specs.declared.repeats.Taken.{Taken}
use Rattle.image_judge.specs.declared.repeats.Chunk.{Chunk}

-- ---- the texts from a place on

abbrev pub text_of : Step (List ℕ) → List ℕ
text_of (got a r) = a
text_of (bad n) = []

abbrev pub left_of : Step (List ℕ) → ℕ
left_of (got a r) = length r
left_of (bad n) = n

-- the text at a place, and the place behind it
unfoldable pub text_from : List ℕ → ℕ → List ℕ
text_from s at = text_of (read_text (drop at s))

unfoldable pub after_text : List ℕ → ℕ → ℕ
after_text s at = length s - left_of (read_text (drop at s))

-- where text i stands, and its bytes
unfoldable pub place_of : List ℕ → ℕ → ℕ → ℕ
place_of s at zero = at
place_of s at (suc i) = after_text s (place_of s at i)

unfoldable pub name_of : List ℕ → ℕ → ℕ → List ℕ
name_of s at i = text_from s (place_of s at i)

unfoldable pub names_to : List ℕ → ℕ → ℕ → List (List ℕ)
names_to s at zero = []
names_to s at (suc i) = names_to s at i ++ (name_of s at i ∷ [])

-- a text stands there
pub record Stands (s : List ℕ) (p : ℕ) : Type 0 where
  pub good : Good read_text s p (after_text s p) (text_from s p)

-- n texts stand one behind the other
pub record Rows (s : List ℕ) (at n : ℕ) : Type 0 where
  pub within : at ≤ length s
  pub each : (i : ℕ) → i < n → Stands s (place_of s at i)

-- r texts stand there, n at most: the next does not
pub record RowsPost (s : List ℕ) (at n r : ℕ) : Type 0 where
  pub most : r ≤ n
  pub rows : Rows s at r
  pub ends : r < n → Bad read_text s (place_of s at r) (place_of s at r)

-- ---- the first that was there before

-- text r is the same as an earlier one
pub record Again (s : List ℕ) (at r : ℕ) : Type 0 where
  pub first : ℕ
  pub earlier : first < r
  pub same : same_bytes (name_of s at r) (name_of s at first) ≡ true

-- of n texts the first r differ, and text r is there again
pub record RepeatPost (s : List ℕ) (at n r : ℕ) : Type 0 where
  pub most : r ≤ n
  pub differ : (i j : ℕ) → j < i → i < r → same_bytes (name_of s at i) (name_of s at j) ≡ false
  pub again : r < n → Again s at r

-- ---- a chunk of them, kept in the order of names as a struct store is, over the image from the chunk's start on

pub record Holds (s : List ℕ) (at n : ℕ) (ss : List ℕ) : Type 0 where
  pub names : (k : ℕ) → k < n → part (drop at s) (struct_word ss k) ≡ name_of s at k
  pub order : InOrder n ss (drop at s)

pub record TakenPost (s : List ℕ) (at n : ℕ) (z : Taken) (ss ss' : List ℕ) : Type 0 where
  pub holds : Holds s at z.count ss'
  pub most : z.count ≤ n
  pub next : z.next ≡ place_of s at z.count
  pub some : 0 < n → 2 ≤ length ss → 0 < z.count
  pub again : z.again ≡ true → (z.count < n) × Again s at z.count

-- the texts from k on, before r, are none of the first k; text r is one of them
pub record LookPost (s : List ℕ) (at n k r : ℕ) : Type 0 where
  pub least : k ≤ r
  pub most : r ≤ n
  pub differ : (i j : ℕ) → j < k → k ≤ i → i < r → same_bytes (name_of s at i) (name_of s at j) ≡ false
  pub again : r < n → Again s at r

pub record ChunkPost (s : List ℕ) (at n : ℕ) (z : Chunk) : Type 0 where
  pub some : 0 < n → 0 < z.count
  pub few : z.count ≤ n
  pub next : z.next ≡ place_of s at z.count
  pub most : z.repeat ≤ n
  pub differ : (i j : ℕ) → j < z.count → j < i → i < z.repeat → same_bytes (name_of s at i) (name_of s at j) ≡ false
  pub again : z.repeat < n → Again s at z.repeat
