-- Where the first number is that a test takes, and the words of a line.
use mathlib.Core.Path.{◌≡◌}
use mathlib.Core.Bool.{Bool, true, false}
use mathlib.Core.List.{List}
use Prim.Native.Nat.{ℕ, suc, ◌+◌, ◌-◌, ◌<◌, ◌≤◌}
use native.Mathlib.Numerals.{add-one}
use native.Mathlib.Omega.{arith}
use lib.ListN.{length, drop, get_or, drop_of_length-le}
use lib.Seq.{drop-cons}
use Rattle.console_script.specs.Words.{before, next_of, next_word, cut_of, word_at, words_from}

module _ (t : ℕ → Bool) (s : List ℕ) (i : ℕ) where
  -- past one that it does not take
  pub next_on : i < length s → t (get_or s i 0) ≡ false → i + before t (drop i s) ≡ (i + 1) + before t (drop (i + 1) s)
  unfolding before
  next_on l q = rw (add-one, drop-cons s i 0, q) (omega arith)

  pub next_here : i < length s → t (get_or s i 0) ≡ true → i ≡ i + before t (drop i s)
  unfolding before
  next_here l q = rw (drop-cons s i 0, q) (omega arith)

  pub next_end : length s ≤ i → i ≡ i + before t (drop i s)
  unfolding before
  next_end l = rw (drop_of_length-le s l) (omega arith)

-- a word further
pub word_on : (s : List ℕ) (k i at : ℕ) {y z : ℕ} → i < k → y ≡ next_of s 32 at → z ≡ next_word s y → word_at s (k - i) at ≡ word_at s (k - (i + 1)) z
unfolding word_at
word_on s k i at l p q = let e : k - i ≡ suc (k - (i + 1)) = omega arith in rw (e, q, p)

-- no word is left
pub words_end : (s : List ℕ) (k i at : ℕ) {w : ℕ} {r : List ℕ} → k ≤ i → w ≡ next_word s 0 → word_at s k w ≡ word_at s (k - i) at → r ≡ cut_of s at (length s) → r ≡ words_from s k
unfolding word_at words_from
words_end s k i at l p e q = let z : k - i ≡ 0 = omega arith in rw (← p, e, z) q
