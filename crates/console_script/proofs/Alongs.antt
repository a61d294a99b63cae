-- A function applied along a slice, place by place.
--     along-on              one number more
--     along-end             no number is left
--     along-stays           what each number leaves as it is
use mathlib.Core.Path.{◌≡◌, refl}
use mathlib.Core.List.{List, [], ◌∷◌}
use Prim.Native.Nat.{ℕ, ◌+◌, ◌<◌, ◌≤◌}
use native.Mathlib.Numerals.{add-one}
use lib.ListN.{length, drop, get_or, drop_of_length-le}
use lib.Seq.{drop-cons}
use Rattle.console_script.specs.Words.{along}

module _ {A : Type 0} (f : A → ℕ → A) (s : List ℕ) {a b : A} (i : ℕ) (e : a ≡ along f b (drop i s)) where
  pub along_on : i < length s → {x : A} → x ≡ f b (get_or s i 0) → a ≡ along f x (drop (i + 1) s)
  unfolding along
  along_on l q = rw (add-one, q, e, drop-cons s i 0)

  pub along_end : length s ≤ i → b ≡ a
  unfolding along
  along_end l = rw (e, drop_of_length-le s l)

pub along_stays : {A : Type 0} (f : A → ℕ → A) (a : A) → ((x : ℕ) → f a x ≡ a) → (s : List ℕ) → along f a s ≡ a
unfolding along
along_stays f a h [] = refl
along_stays f a h (x ∷ s) = rw (h x) (along_stays f a h s)
