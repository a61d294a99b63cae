-- A verdict says that texts agree exactly where they are equal.
use mathlib.Core.Path.{◌≡◌, refl}
use mathlib.Core.Bool.{true, false}
use mathlib.Core.List.{List, [], ◌∷◌}
use Prim.Native.Nat.{ℕ}
use lib.Dec.{eqb}
use lib.ListN.{take}
use borrow.Author.Tests.{eqb-true, eq-eqb}
use Rattle.model.specs.declared.Counts.{Counts}
use Rattle.model.specs.Equality.{same_bytes}
use Rattle.model.specs.Stores.{Stores}
use Rattle.model.specs.Loading.{save_of}
use Rattle.model.specs.Reports.{runner_text, lister_text}
use Rattle.layout.proofs.Bools.{apart, and_left, and_right}
use Rattle.replay_judge.specs.Compared.{load_text, read_of, back_to, saving_of, compared_at, compare_of, verdict_of}
use Rattle.std.specs.Prelude.{Err, Ok, Result}
use Rattle.model.specs.declared.Refusal.{Refusal}

same_is : (a b : List ℕ) → same_bytes a b ≡ true → a ≡ b
unfolding same_bytes
same_is [] [] e = refl
same_is [] (y ∷ ys) e = apart false e refl
same_is (x ∷ xs) [] e = apart false e refl
same_is (x ∷ xs) (y ∷ ys) e =
    let h : x ≡ y = eqb-true _ _ (and_left (eqb x y) (same_bytes xs ys) e) in
    let k = same_is xs ys (and_right (eqb x y) (same_bytes xs ys) e) in
    rw (h, k)

same_self : (a : List ℕ) → same_bytes a a ≡ true
unfolding same_bytes
same_self [] = refl
same_self (x ∷ xs) = rw (eq-eqb x x refl) (same_self xs)

same_so : (a b : List ℕ) → a ≡ b → same_bytes a b ≡ true
same_so a b e = rw e (same_self b)

-- bytes were written, and they are the image
pub record Back (image : List ℕ) (told : Result ℕ Refusal) (out : List ℕ) : Type 0 where
  pub count : ℕ
  pub number : told ≡ Ok count
  pub bytes : take count out ≡ image

back_is : (image : List ℕ) (told : Result ℕ Refusal) (out : List ℕ) → back_to image told out ≡ true → Back image told out
unfolding back_to
back_is image (Ok n) out e = record { count = n; number = refl; bytes = same_is _ _ e }
back_is image (Err r) out e = apart false e refl

back_so : (image : List ℕ) (told : Result ℕ Refusal) (out : List ℕ) → Back image told out → back_to image told out ≡ true
unfolding back_to
back_so image told out b = rw b.number (same_so _ _ b.bytes)

-- what was loaded was saved as the image
abbrev pub Kept : List ℕ → Result Counts Refusal → Stores → List ℕ → Type 0
Kept image answer s saved = (c : Counts) → answer ≡ Ok c → Back image (save_of c s saved).answer (save_of c s saved).out

saved_is : (image : List ℕ) (answer : Result Counts Refusal) (s : Stores) (saved : List ℕ) → (saving_of image answer s saved).agrees ≡ true → Kept image answer s saved
unfolding saving_of
saved_is image answer s saved e c h = back_is _ _ _ (rw h at e)

saved_so : (image : List ℕ) (answer : Result Counts Refusal) (s : Stores) (saved : List ℕ) → Kept image answer s saved → (saving_of image answer s saved).agrees ≡ true
unfolding saving_of
saved_so image (Ok c) s saved h = back_so _ _ _ (h c refl)
saved_so image (Err e) s saved h = refl

module _ (image loading : List ℕ) (s : Stores) (saved : List ℕ) where
  pub loading_is : (compare_of image loading s saved).loading ≡ true → load_text (read_of image s).answer ≡ loading
  unfolding compare_of compared_at
  loading_is e = same_is _ _ e

  pub loading_so : load_text (read_of image s).answer ≡ loading → (compare_of image loading s saved).loading ≡ true
  unfolding compare_of compared_at
  loading_so e = same_so _ _ e

  pub saving_is : (compare_of image loading s saved).saving ≡ true → Kept image (read_of image s).answer (read_of image s).stores saved
  unfolding compare_of compared_at
  saving_is e = saved_is image (read_of image s).answer (read_of image s).stores saved e

  pub saving_so : Kept image (read_of image s).answer (read_of image s).stores saved → (compare_of image loading s saved).saving ≡ true
  unfolding compare_of compared_at
  saving_so h = saved_so image (read_of image s).answer (read_of image s).stores saved h

module _ (image loading running listing : List ℕ) where
  pub running_is : (verdict_of image loading running listing).running ≡ true → runner_text image ≡ running
  unfolding verdict_of
  running_is e = same_is _ _ e

  pub running_so : runner_text image ≡ running → (verdict_of image loading running listing).running ≡ true
  unfolding verdict_of
  running_so e = same_so _ _ e

  pub listing_is : (verdict_of image loading running listing).listing ≡ true → lister_text image ≡ listing
  unfolding verdict_of
  listing_is e = same_is _ _ e

  pub listing_so : lister_text image ≡ listing → (verdict_of image loading running listing).listing ≡ true
  unfolding verdict_of
  listing_so e = same_so _ _ e
