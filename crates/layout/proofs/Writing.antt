-- A store written from a place on, number by number.
use mathlib.Core.Path.{◌≡◌, refl, sym, ◌∙◌}
use mathlib.Core.List.{List, [], ◌∷◌, ◌++◌}
use Prim.Native.Nat.{ℕ, suc, ◌+◌, ◌*◌, ◌≤◌, ◌<◌}
use native.Mathlib.Omega.{arith}
use native.Mathlib.Numerals.{add-one}
use lib.ListN.{length, get_or, set, take, length-set}
use lib.Seq.{take-suc, take_all, length-take-le, length-sets, lt-length-set}
use borrow.Rule.Slice.PartMut.{put_mid}
use Rattle.std.proofs.lemmas.List.Edits.{sets-eq}
use Rattle.std.proofs.lemmas.Slice.{put_mid-paste}
use Rattle.model.specs.Values.{put_words}
use Rattle.model.specs.Emission.{written}

pub length_written : (d : List ℕ) (at : ℕ) (l : List ℕ) → length (written d at l) ≡ length d
unfolding written
length_written d at l = length-sets d at l

-- one number more
pub written_more : (d : List ℕ) (at : ℕ) (l : List ℕ) (x : ℕ) → written d at (l ++ (x ∷ [])) ≡ set (written d at l) (at + length l) x
unfolding written
written_more d at [] x = let z : at + 0 ≡ at = omega arith in rw z
written_more d at (y ∷ l) x = let z : at + suc (length l) ≡ suc at + length l = omega arith in rw z (written_more (set d at y) (suc at) l x)

-- the first i numbers of l stand in t
pub record Writing (d : List ℕ) (at : ℕ) (l t : List ℕ) (i : ℕ) : Type 0 where
  pub within : i ≤ length l
  pub same : length t ≡ length d
  pub means : t ≡ written d at (take i l)

pub nothing_yet : (d : List ℕ) (at : ℕ) (l : List ℕ) → Writing d at l d 0
unfolding written
nothing_yet d at l = record { within = omega arith; same = refl; means = refl }

module _ {d : List ℕ} {at : ℕ} {l t : List ℕ} {i : ℕ} (h : Writing d at l t i) where
  pub another : (x : ℕ) → x ≡ get_or l i 0 → i < length l → Writing d at l (set t (at + i) x) (i + 1)
  another x e g =
      let m : length (take i l) ≡ i = length-take-le i l h.within in
      record {
        within = omega arith;
        same = length-set t (at + i) x ∙ h.same;
        means = sym (rw (add-one, take-suc l i 0 g, written_more, m, ← e, ← h.means));
      }

  pub whole : length l ≤ i → t ≡ written d at l
  whole g = h.means ∙ rw (take_all i l g)

-- a part of the store overwritten: k is how many words it has, m is what it holds then
pub overwritten : (d : List ℕ) (at k : ℕ) (l m : List ℕ) → at + length l ≤ length d → k ≡ length l → m ≡ l → put_mid at k d m ≡ written d at l
unfolding written
overwritten d at k l m h e f = let n : length l ≤ length l = omega arith in put_mid-paste at k d m l (length l) f (sym e) refl ∙ rw (take_all (length l) l n) (sym (sets-eq l d at h))

pub length_words : (s : List ℕ) (i a b : ℕ) → length (put_words s i a b) ≡ length s
unfolding put_words
length_words s i a b = length-set (set s (2 * i) a) (2 * i + 1) b ∙ length-set s (2 * i) a

pub second_fits : (s : List ℕ) (i a : ℕ) → 2 * i + 2 ≤ length s → 2 * i + 1 < length (set s (2 * i) a)
second_fits s i a h = lt-length-set s (2 * i) a (omega arith)
