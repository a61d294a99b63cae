-- Stores that are written one piece behind another.
use mathlib.Core.Path.{◌≡◌, refl, sym, ap, ◌∙◌}
use mathlib.Core.List.{List, [], ◌∷◌, ◌++◌, append_assoc, append-nil}
use Prim.Native.Nat.{ℕ, zero, suc, ◌+◌, ◌*◌, ◌≤◌}
use native.Mathlib.Omega.{arith}
use lib.ListN.{length, set, take, length-set}
use lib.Seq.{sets, set_out}
use Rattle.model.specs.Values.{put_words}
use Rattle.model.specs.Images.{joined}
use Rattle.model.specs.Emission.{written}
use Rattle.layout.proofs.Writing.{length_written}

-- ---- what is joined of one more

pub joined_more : {A : Type 0} (f : A → List ℕ) (l : List A) (a : A) → joined f (l ++ (a ∷ [])) ≡ joined f l ++ f a
unfolding joined
joined_more f [] a = append-nil (f a)
joined_more f (x ∷ l) a = ap (λ (y : List ℕ). f x ++ y) (joined_more f l a) ∙ sym (append_assoc (f x) (joined f l) (f a))

sets_append : (l : List ℕ) (i : ℕ) (x y : List ℕ) → sets (sets l i x) (i + length x) y ≡ sets l i (x ++ y)
sets_append l i [] y = let z : i + 0 ≡ i = omega arith in rw z
sets_append l i (a ∷ x) y = let z : i + suc (length x) ≡ suc i + length x = omega arith in rw z (sets_append (set l i a) (suc i) x y)

pub written_behind : (l : List ℕ) (i j : ℕ) (x y : List ℕ) → j ≡ i + length x → written (written l i x) j y ≡ written l i (x ++ y)
unfolding written
written_behind l i j x y e = rw e (sets_append l i x y)

pub written_none : (l : List ℕ) (i : ℕ) → l ≡ written l i []
unfolding written
written_none l i = refl

pub written_one : (l : List ℕ) (i a : ℕ) → set l i a ≡ written l i (a ∷ [])
unfolding written
written_one l i a = refl

pub written_two : (l : List ℕ) (i a b : ℕ) → put_words l i a b ≡ written l (2 * i) (a ∷ b ∷ [])
unfolding written put_words
written_two l i a b = let z : 2 * i + 1 ≡ suc (2 * i) = omega arith in rw z

-- past the end nothing is written
pub written_past : (l : List ℕ) (i : ℕ) (x : List ℕ) → length l ≤ i → l ≡ written l i x
unfolding written
written_past l i [] h = refl
written_past l i (a ∷ x) h = written_past l (suc i) x (omega arith) ∙ ap (λ (z : List ℕ). sets z (suc i) x) (sym (set_out l i a h))

-- the first k numbers are all that is written, where no more fit
pub written_first : (k : ℕ) (l : List ℕ) (i : ℕ) (x : List ℕ) → length l ≤ i + k → written l i (take k x) ≡ written l i x
unfolding written
written_first zero l i x h = written_past l i x (omega arith)
written_first (suc k) l i [] h = refl
written_first (suc k) l i (a ∷ x) h = let z : length (set l i a) ≡ length l = length-set l i a in written_first k (set l i a) (suc i) x (omega arith)

-- a store that was written keeps its length
pub kept_length : (l l₀ : List ℕ) (i : ℕ) (x : List ℕ) → l ≡ written l₀ i x → length l ≡ length l₀
kept_length l l₀ i x e = ap length e ∙ length_written l₀ i x

-- one piece more
pub more_written : (l₀ l l' : List ℕ) (i j : ℕ) (x y : List ℕ) → l ≡ written l₀ i x → j ≡ i + length x → l' ≡ written l j y → l' ≡ written l₀ i (x ++ y)
more_written l₀ l l' i j x y e p q = q ∙ ap (λ (z : List ℕ). written z j y) e ∙ written_behind l₀ i j x y p

pub more_joined : {A : Type 0} (f : A → List ℕ) (done : List A) (a : A) (l₀ l l' : List ℕ) (i j : ℕ) → l ≡ written l₀ i (joined f done) → j ≡ i + length (joined f done)
    → l' ≡ written l j (f a) → l' ≡ written l₀ i (joined f (done ++ (a ∷ [])))
more_joined f done a l₀ l l' i j e p q = more_written l₀ l l' i j (joined f done) (f a) e p q ∙ ap (written l₀ i) (sym (joined_more f done a))
