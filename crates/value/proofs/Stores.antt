-- What stands in a store after a write, and the lists of values and cells that stand there.
use mathlib.Core.Path.{◌≡◌, refl, ap, ◌∙◌}
use mathlib.Core.Bool.{true, false}
use mathlib.Core.List.{List, [], ◌∷◌, ◌++◌, reverse, reverse-cons}
use Prim.Native.Nat.{ℕ, zero, suc, ◌+◌, ◌-◌, ◌*◌, ◌<◌, ◌≤◌}
use native.Mathlib.Omega.{arith}
use lib.Dec.{eqb}
use lib.ListN.{length, get_or, set, take, drop, length-set}
use lib.Seq.{get_or-set_same, get_or-set_other}
use Rattle.model.specs.declared.Value.{Value}
use Rattle.model.specs.Values.{kind, payload, kind_at, payload_at, value_at, put_words, vals, values_from}
use Rattle.model.specs.Heap.{Cell, item, head, header_of, cell_of, cell_kind, cell_payload, cell_at, put_cell, cells_from, heap_of}
use Rattle.value.specs.Links.{FineCell, PayloadOf, Written, Fine, put_value}
use Rattle.value.proofs.Coding.{words_value, words_cell}

-- ---- two words are written

module _ (s : List ℕ) (i k a : ℕ) where
  pub length_words : length (put_words s i k a) ≡ length s
  unfolding put_words
  length_words = simp length-set

  -- at their place
  module _ (h : 2 * i + 2 ≤ length s) where
    pub kind_same : kind_at (put_words s i k a) i ≡ k
    unfolding kind_at put_words
    kind_same = get_or-set_other (set s (2 * i) k) (2 * i + 1) (2 * i) a 0 (λ e. omega arith) ∙ get_or-set_same s (2 * i) k 0 (omega arith)

    pub payload_same : payload_at (put_words s i k a) i ≡ a
    unfolding payload_at put_words
    payload_same = get_or-set_same (set s (2 * i) k) (2 * i + 1) a 0 (simp length-set (omega arith))

  -- at every other place
  module _ (j : ℕ) (n : j ≡ i → ⊥) where
    pub kind_other : kind_at (put_words s i k a) j ≡ kind_at s j
    unfolding kind_at put_words
    kind_other =
        get_or-set_other (set s (2 * i) k) (2 * i + 1) (2 * j) a 0 (λ e. n (omega arith))
        ∙ get_or-set_other s (2 * i) (2 * j) k 0 (λ e. n (omega arith))

    pub payload_other : payload_at (put_words s i k a) j ≡ payload_at s j
    unfolding payload_at put_words
    payload_other =
        get_or-set_other (set s (2 * i) k) (2 * i + 1) (2 * j + 1) a 0 (λ e. n (omega arith))
        ∙ get_or-set_other s (2 * i) (2 * j + 1) k 0 (λ e. n (omega arith))

    pub value_other : value_at (put_words s i k a) j ≡ value_at s j
    unfolding value_at
    value_other = rw (kind_other, payload_other)

    pub cell_other : cell_at (put_words s i k a) j ≡ cell_at s j
    unfolding cell_at
    cell_other = rw (kind_other, payload_other)

-- ---- a value or a cell is written

module _ (s : List ℕ) (i : ℕ) (h : 2 * i + 2 ≤ length s) where
  pub value_same : (x : Value) → Fine x → value_at (put_value s i x) i ≡ x
  unfolding value_at put_value
  value_same x f = rw (kind_same s i (kind x) (payload x) h, payload_same s i (kind x) (payload x) h) (words_value x f)

  pub cell_same : (x : Cell) → FineCell x → cell_at (put_cell s i x) i ≡ x
  unfolding cell_at put_cell
  cell_same x f =
      rw (kind_same s i (cell_kind x) (cell_payload x) h, payload_same s i (cell_kind x) (cell_payload x) h) (words_cell x f)

-- a cell by its kind
module _ (s : List ℕ) (i : ℕ) where
  pub cell_header : eqb (kind_at s i) 6 ≡ true → cell_at s i ≡ head (header_of (payload_at s i))
  unfolding cell_at cell_of
  cell_header e = rw e

  pub cell_item : eqb (kind_at s i) 6 ≡ false → cell_at s i ≡ item (value_at s i)
  unfolding cell_at cell_of value_at
  cell_item e = rw e

-- what `write_value` stores
pub wrote : {s : List ℕ} {i : ℕ} {x : Value} {t : List ℕ} (k a : ℕ) → k ≡ kind x → PayloadOf x a → t ≡ put_words s i k a → Written s i (item x) t
unfolding put_cell
wrote k a e p g = record { stored = rw (← e, ← p.is) g; fine = p.fine }

-- ---- the answers of f at i to i + n - 1, in order

from : {A : Type 0} → (ℕ → A) → ℕ → ℕ → List A
from f zero i = []
from f (suc n) i = f i ∷ from f n (suc i)

module _ {A : Type 0} (f : ℕ → A) where
  length_from : (n i : ℕ) → length (from f n i) ≡ n
  unfolding from
  length_from zero i = refl
  length_from (suc n) i = ap suc (length_from n (suc i))

  get_d_from : (n i j : ℕ) (d : A) → j < n → get_or (from f n i) j d ≡ f (i + j)
  unfolding from
  get_d_from zero i j d h = absurd (let z : ⊥ = omega arith in z)
  get_d_from (suc n) i zero d h = let z : i + 0 ≡ i = omega arith in rw z
  get_d_from (suc n) i (suc j) d h = let z : i + suc j ≡ suc i + j = omega arith in rw z (get_d_from n (suc i) j d (omega arith))

  from_more : (n i : ℕ) → from f (suc n) i ≡ from f n i ++ f (i + n) ∷ []
  unfolding from
  from_more zero i = let z : i + 0 ≡ i = omega arith in rw z
  from_more (suc n) i = let z : i + suc n ≡ suc i + n = omega arith in ap (λ (l : List A). f i ∷ l) (rw z (from_more n (suc i)))

  from_same : (g : ℕ → A) (n i : ℕ) → ((j : ℕ) → i ≤ j → j < i + n → g j ≡ f j) → from g n i ≡ from f n i
  unfolding from
  from_same g zero i e = refl
  from_same g (suc n) i e = rw (e i (omega arith) (omega arith), from_same g n (suc i) (λ j a b. e j (omega arith) (omega arith)))

-- ---- the values and the cells at i to i + n - 1

values_from_lem : (n i : ℕ) (s : List ℕ) → values_from n i s ≡ from (value_at s) n i
unfolding values_from from
values_from_lem zero i s = refl
values_from_lem (suc n) i s = ap (λ (l : List Value). value_at s i ∷ l) (values_from_lem n (suc i) s)

cells_from_lem : (n i : ℕ) (s : List ℕ) → cells_from n i s ≡ from (cell_at s) n i
unfolding cells_from from
cells_from_lem zero i s = refl
cells_from_lem (suc n) i s = ap (λ (l : List Cell). cell_at s i ∷ l) (cells_from_lem n (suc i) s)

module _ (n i : ℕ) (s : List ℕ) where
  pub length_values : length (values_from n i s) ≡ n
  length_values = rw (values_from_lem n i s) (length_from (value_at s) n i)

  pub length_cells : length (cells_from n i s) ≡ n
  length_cells = rw (cells_from_lem n i s) (length_from (cell_at s) n i)

  pub get_d_values : (j : ℕ) (d : Value) → j < n → get_or (values_from n i s) j d ≡ value_at s (i + j)
  get_d_values j d h = rw (values_from_lem n i s) (get_d_from (value_at s) n i j d h)

  pub get_d_cells : (j : ℕ) (d : Cell) → j < n → get_or (cells_from n i s) j d ≡ cell_at s (i + j)
  get_d_cells j d h = rw (cells_from_lem n i s) (get_d_from (cell_at s) n i j d h)

  pub values_more : values_from (suc n) i s ≡ values_from n i s ++ value_at s (i + n) ∷ []
  values_more = rw (values_from_lem (suc n) i s, values_from_lem n i s) (from_more (value_at s) n i)

  pub cells_more : cells_from (suc n) i s ≡ cells_from n i s ++ cell_at s (i + n) ∷ []
  cells_more = rw (cells_from_lem (suc n) i s, cells_from_lem n i s) (from_more (cell_at s) n i)

  -- a write behind them changes none
  module _ (p k a : ℕ) (h : i + n ≤ p) where
    pub cells_before : cells_from n i (put_words s p k a) ≡ cells_from n i s
    cells_before =
        rw (cells_from_lem n i (put_words s p k a), cells_from_lem n i s)
        (from_same (cell_at s) (cell_at (put_words s p k a)) n i (λ j x y. cell_other s p k a j (λ e. omega arith)))

-- ---- a stack

pub length_vals : (n : ℕ) (s : List ℕ) → length (vals n s) ≡ n
unfolding vals
length_vals zero s = refl
length_vals (suc n) s = ap suc (length_vals n s)

-- the stack without its k top values
pub vals_drop : (k n : ℕ) (s : List ℕ) → drop k (vals n s) ≡ vals (n - k) s
unfolding vals
vals_drop zero n s = let z : n - 0 ≡ n = omega arith in rw z
vals_drop (suc k) zero s = let z : 0 - suc k ≡ 0 = omega arith in rw z
vals_drop (suc k) (suc n) s = let z : suc n - suc k ≡ n - k = omega arith in rw z (vals_drop k n s)

-- the value at j, counted from the top
pub vals_at : (n : ℕ) (s : List ℕ) (j : ℕ) (d : Value) → j < n → get_or (vals n s) j d ≡ value_at s (n - suc j)
unfolding vals
vals_at zero s j d h = absurd (let z : ⊥ = omega arith in z)
vals_at (suc n) s zero d h = let z : suc n - 1 ≡ n = omega arith in rw z
vals_at (suc n) s (suc j) d h = let z : suc n - suc (suc j) ≡ n - suc j = omega arith in rw z (vals_at n s j d (omega arith))

-- slot i, counted from the bottom
pub vals_slot : (n : ℕ) (s : List ℕ) (i : ℕ) (d : Value) → i < n → get_or (vals n s) (n - suc i) d ≡ value_at s i
vals_slot n s i d h = vals_at n s (n - suc i) d (omega arith) ∙ ap (value_at s) (let z : n - suc (n - suc i) ≡ i = omega arith in z)

-- the k values on top, the lowest first
pub vals_upward : (k n : ℕ) (s : List ℕ) → k ≤ n → reverse (take k (vals n s)) ≡ values_from k (n - k) s
unfolding vals values_from
vals_upward zero n s h = refl
vals_upward (suc k) zero s h = absurd (let z : ⊥ = omega arith in z)
vals_upward (suc k) (suc n) s h =
    let z : suc n - suc k ≡ n - k = omega arith in
    let e : n - k + k ≡ n = omega arith in
    reverse-cons (value_at s n) (take k (vals n s))
    ∙ rw (vals_upward k n s (omega arith), z, values_more k (n - k) s, e)

-- a write above the stack does not change it
pub vals_below : (n : ℕ) (s : List ℕ) (i k a : ℕ) → n ≤ i → vals n (put_words s i k a) ≡ vals n s
unfolding vals
vals_below zero s i k a h = refl
vals_below (suc n) s i k a h = rw (value_other s i k a n (λ e. omega arith), vals_below n s i k a (omega arith))

-- a push
pub vals_push : (n : ℕ) (s : List ℕ) (x : Value) → 2 * n + 2 ≤ length s → Fine x → vals (suc n) (put_value s n x) ≡ x ∷ vals n s
unfolding vals put_value
vals_push n s x h f = rw (vals_below n s n (kind x) (payload x) (omega arith)) (ap (λ (y : Value). y ∷ vals n s) (value_same s n h x f))

-- a cell is taken
pub heap_push : (n : ℕ) (s : List ℕ) (x : Cell) → 2 * n + 2 ≤ length s → FineCell x → heap_of (suc n) (put_cell s n x) ≡ heap_of n s ++ x ∷ []
unfolding heap_of put_cell
heap_push n s x h f =
    cells_more n 0 (put_cell s n x)
    ∙ (let z : 0 + n ≡ n = omega arith in rw (z, cells_before n 0 s n (cell_kind x) (cell_payload x) (omega arith), cell_same s n h x f))

-- ---- the same of what a write ensures

module _ {s : List ℕ} {i : ℕ} {x : Cell} {t : List ℕ} (w : Written s i x t) where
  pub stored_words : t ≡ put_words s i (cell_kind x) (cell_payload x)
  unfolding put_cell
  stored_words = w.stored

  pub written_length : length t ≡ length s
  written_length = rw stored_words (length_words s i (cell_kind x) (cell_payload x))

pub pushed : {s : List ℕ} {n : ℕ} {x : Value} {t : List ℕ} → Written s n (item x) t → 2 * n + 2 ≤ length s → vals (suc n) t ≡ x ∷ vals n s
unfolding put_cell put_value
pushed {s} {n} {x} w h = rw w.stored (vals_push n s x h w.fine)

pub taken : {s : List ℕ} {n : ℕ} {x : Cell} {t : List ℕ} → Written s n x t → 2 * n + 2 ≤ length s → heap_of (suc n) t ≡ heap_of n s ++ x ∷ []
taken {s} {n} {x} w h = rw w.stored (heap_push n s x h w.fine)
