-- Words, parts and bytes.
use mathlib.Core.Path.{◌≡◌, refl, sym, ◌∙◌}
use mathlib.Core.List.{List, [], ◌∷◌}
use Prim.Native.Nat.{ℕ, zero, suc, ◌+◌, ◌-◌, ◌*◌, ◌/◌, ◌≤◌, ◌<◌, ◌^◌, min}
use native.Mathlib.Omega.{arith}
use native.Mathlib.Nat.{min-eq_left, min-eq_right, min-le_left, min-le_right}
use lib.Dec.{eqb, leb}
use lib.ListN.{length, get_or, take, drop, length-drop, drop_of_length-le, get_or-eq_default}
use lib.Seq.{take_all, take-nil}
use borrow.Author.Tests.{leb-true, leb-false}
use Rattle.std.specs.Cmp.Lexicographic.{pointwise}
use Rattle.model.specs.Values.{places, most_places, kind_at, payload_at, text_at}
use Rattle.model.specs.Equality.{same_bytes}
use Rattle.model.specs.Stores.{start, size, pack, part, code_word, code_end}
use Rattle.model.specs.Orders.{code_start}
use Rattle.layout.proofs.Bools.{either_way}

-- ---- rooms

pub room_is : (w n r : ℕ) → 1 ≤ w → r ≡ min (n / w) most_places → (s : List ℕ) → length s ≡ n → r ≡ places w s
unfolding places
room_is zero n r h e s l = absurd (let y : ⊥ = omega arith in y)
room_is (suc w) n r h e s l = rw l e

-- as many words as places hold
pub room_1 : (s : List ℕ) → (places 1 s ≤ length s) × (places 1 s ≤ 0xFFFF_FFFF)
unfolding places
room_1 s = (let h : min (length s / 1) 0xFFFF_FFFF ≤ length s / 1 = min-le_left _ _ in omega arith, min-le_right _ _)

pub room_2 : (s : List ℕ) → (2 * places 2 s ≤ length s) × (places 2 s ≤ 0xFFFF_FFFF)
unfolding places
room_2 s = (let h : min (length s / 2) 0xFFFF_FFFF ≤ length s / 2 = min-le_left _ _ in omega arith, min-le_right _ _)

-- what fits in so many places
pub one_word : (k : ℕ) (s : List ℕ) → k ≤ places 1 s → (k ≤ length s) × (k < 2 ^ 32)
one_word k s h = let x = room_1 s in (omega arith, omega arith)

pub two_words : (k : ℕ) (s : List ℕ) → k ≤ places 2 s → 2 * k ≤ length s
two_words k s h = let x = room_2 s in omega arith

pub places_same : (w : ℕ) (a b : List ℕ) → length a ≡ length b → places w a ≡ places w b
unfolding places
places_same zero a b e = refl
places_same (suc w) a b e = rw e

-- ---- words

pub start_pack : (o n : ℕ) → o < 2 ^ 32 → start (pack o n) ≡ o
unfolding start pack
start_pack o n h = omega arith

pub size_pack : (o n : ℕ) → o < 2 ^ 32 → size (pack o n) ≡ n
unfolding size pack
size_pack o n h = omega arith

pub past : (s : List ℕ) (i : ℕ) → length s ≤ i → 0 ≡ get_or s i 0
past s i h = sym (get_or-eq_default s 0 h)

pub past_0 : (s : List ℕ) (i : ℕ) → length s / 2 < i → 0 ≡ kind_at s i
unfolding kind_at
past_0 s i h = sym (get_or-eq_default s 0 (omega arith))

pub past_1 : (s : List ℕ) (i : ℕ) → length s / 2 < i → 0 ≡ payload_at s i
unfolding payload_at
past_1 s i h = sym (get_or-eq_default s 0 (omega arith))

pub end_is : (fs : List ℕ) (i w a b : ℕ) → w ≡ payload_at fs i → a ≡ start w → b ≡ size w → a + b ≡ code_end fs i
unfolding code_end code_word
end_is fs i w a b e f g = rw (f, g, e)

-- where the code of function i starts, by the test of the code
pub starts_0 : (fs : List ℕ) (i : ℕ) → i < 2 → 0 ≡ code_start fs i
unfolding code_start
starts_0 fs zero h = refl
starts_0 fs (suc zero) h = refl
starts_0 fs (suc (suc i)) h = absurd (let y : ⊥ = omega arith in y)

pub starts_behind : (fs : List ℕ) (i r : ℕ) → 2 ≤ i → r ≡ code_end fs (i - 1) → r ≡ code_start fs i
unfolding code_start
starts_behind fs zero r h e = absurd (let y : ⊥ = omega arith in y)
starts_behind fs (suc zero) r h e = absurd (let y : ⊥ = omega arith in y)
starts_behind fs (suc (suc i)) r h e = let z : suc (suc i) - 1 ≡ suc i = omega arith in e ∙ rw z

-- ---- parts

part_inside : (t : List ℕ) (o n : ℕ) → o ≤ length t → take (min (o + n) (length t) - o) (drop o t) ≡ take n (drop o t)
part_inside t o n h = either_way (leb (o + n) (length t))
    (λ e. let l : o + n ≤ length t = leb-true _ _ e in let z : min (o + n) (length t) - o ≡ n = rw (min-eq_left l) (omega arith) in rw z)
    (λ e.
    let l : length t < o + n = leb-false _ _ e in
    let m : length t ≤ o + n = omega arith in
    let d : length (drop o t) ≡ length t - o = length-drop o t in
    let z : min (o + n) (length t) - o ≡ length t - o = rw (min-eq_right m) in
    rw z (take_all (length t - o) (drop o t) (omega arith) ∙ sym (take_all n (drop o t) (omega arith))))

-- a part cut to the store is the part
pub part_is : (t : List ℕ) (w o n from to : ℕ) → o ≡ start w → n ≡ size w → from ≡ min o (length t) → to ≡ min (from + n) (length t) → take (to - from) (drop from t) ≡ part t w
unfolding part text_at
part_is t w o n from to eo en ef et =
    rw (← eo, ← en, et) (either_way (leb o (length t))
    (λ e. let l : o ≤ length t = leb-true _ _ e in let z : from ≡ o = ef ∙ min-eq_left l in rw z (part_inside t o n l))
    (λ e.
    let l : length t < o = leb-false _ _ e in
    let m : length t ≤ o = omega arith in
    let k : length t ≤ length t = omega arith in
    let z : from ≡ length t = ef ∙ min-eq_right m in
    let d : drop (length t) t ≡ [] = drop_of_length-le t k in
    let g : drop o t ≡ [] = drop_of_length-le t m in
    rw (z, d, g) (take-nil (min (length t + n) (length t) - length t) ∙ sym (take-nil n))))

-- ---- bytes

pub pointwise_same : (a b : List ℕ) → pointwise eqb a b ≡ same_bytes a b
unfolding same_bytes
pointwise_same [] [] = refl
pointwise_same [] (y ∷ ys) = refl
pointwise_same (x ∷ xs) [] = refl
pointwise_same (x ∷ xs) (y ∷ ys) = rw (pointwise_same xs ys)
