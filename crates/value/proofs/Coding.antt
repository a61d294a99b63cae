-- What a kind and a payload stand for, the words of a value and of a cell, and which words are exact.
use Rattle.std.specs.Prelude.{if◌then◌else◌}
use mathlib.Core.Path.{◌≡◌, refl, sym, ap, subst}
use mathlib.Core.Bool.{Bool, true, false}
pub use mathlib.Mathlib.Data.Bool.Basic.{and_elim_left as and_left, and_elim_right as and_right}
use Prim.Native.Nat.{ℕ, ◌+◌, ◌*◌, ◌%◌, ◌/◌, ◌<◌, ◌^◌}
use native.Mathlib.Nat.{mod-eq_of_lt}
use native.Mathlib.Omega.{arith}
use borrow.Author.Tests.{eq-eqb, ne_eqb, eqb-true}
use lib.Dec.{T, eqb}
use lib.Ieee.{binary64}
use lib.Ieee.Bits.{of_bits-to_bits}
use Rattle.model.specs.declared.Value.{Value}
use Rattle.model.specs.declared.Value.TheVariants as v
use Rattle.model.specs.declared.Header.{Header}
use Rattle.model.specs.Values.{value_of, kind, payload, exact_value}
use Rattle.model.specs.Heap.{Cell, item, head, header_of, cell_of, cell_kind, cell_payload, exact_cell}
use Rattle.value.specs.Links.{FineCell, PayloadOf, Fine}

-- ---- the arms of `value_of` and `payload_of`

-- none of the kinds 0 to 4
abbrev pub Other : ℕ → Type 0
Other k = ((((Unit × (k ≡ 0 → ⊥)) × (k ≡ 1 → ⊥)) × (k ≡ 2 → ⊥)) × (k ≡ 3 → ⊥)) × (k ≡ 4 → ⊥)

pub other_kind : (k a : ℕ) → Other k → v.StructInstance (a % 0x1_0000_0000) ≡ value_of k a
unfolding value_of
other_kind k a n =
    rw (ne_eqb k 0 n.0.0.0.0.1, ne_eqb k 1 n.0.0.0.1, ne_eqb k 2 n.0.0.1, ne_eqb k 3 n.0.1, ne_eqb k 4 n.1)

pub payload_is : {x y : Value} {r : ℕ} → x ≡ y → r ≡ payload y → Fine y → PayloadOf x r
payload_is e p f = record { is = rw e p; fine = rw e f }

pub told : {b : Bool} → b ≡ true → T b
told e = subst T (sym e) tt

-- ---- the words of a value stand for it

low : (o n : ℕ) → o < 2 ^ 32 → (o + 0x1_0000_0000 * n) % 0x1_0000_0000 ≡ o
low o n h = omega arith

high : (o n : ℕ) → o < 2 ^ 32 → (o + 0x1_0000_0000 * n) / 0x1_0000_0000 ≡ n
high o n h = omega arith

pub words_value : (x : Value) → Fine x → value_of (kind x) (payload x) ≡ x
unfolding value_of
words_value (v.Scalar x) f = ap v.Scalar (of_bits-to_bits binary64 x f)
words_value (v.Boolean true) f = refl
words_value (v.Boolean false) f = refl
words_value (v.String o n) f = rw (low o n f.0, high o n f.0)
words_value (v.FunctionReference o n) f = rw (low o n f.0, high o n f.0)
words_value (v.List p) f = rw (mod-eq_of_lt f)
words_value (v.StructInstance p) f = rw (mod-eq_of_lt f)

-- ---- exact words of a value

-- exact words are those of their value
module _ (k a : ℕ) (e : exact_value k a ≡ true) where
  pub exact_kind : k ≡ kind (value_of k a)
  unfolding exact_value
  exact_kind = eqb-true _ _ (and_left _ _ e)

  pub exact_payload : a ≡ payload (value_of k a)
  unfolding exact_value
  exact_payload = eqb-true _ _ (and_right (eqb k (kind (value_of k a))) _ e)

pub words_exact : (x : Value) → Fine x → exact_value (kind x) (payload x) ≡ true
unfolding exact_value
words_exact x f = rw (words_value x f, eq-eqb (kind x) (kind x) refl, eq-eqb (payload x) (payload x) refl)

-- the two ways out of `exact_value`
module _ (k a : ℕ) {x : Value} {n : ℕ} (e : x ≡ value_of k a) (f : n ≡ kind x) where
  pub exact_same : {p : ℕ} → k ≡ n → p ≡ payload x → eqb a p ≡ exact_value k a
  unfolding exact_value
  exact_same h g = rw (← e, ← f, eq-eqb k n h, g)

  pub exact_differs : (k ≡ n → ⊥) → false ≡ exact_value k a
  unfolding exact_value
  exact_differs h = rw (← e, ← f, ne_eqb k n h)

-- ---- the words of a cell stand for it

no_header : (x : Value) → eqb (kind x) 6 ≡ false
no_header (v.Scalar x) = refl
no_header (v.Boolean x) = refl
no_header (v.String o n) = refl
no_header (v.FunctionReference o n) = refl
no_header (v.List p) = refl
no_header (v.StructInstance p) = refl

module _ (c n d : ℕ) (hc : c < 0x1_0000) (hn : n < 0x1_0000) where
  count_part : (c + 0x1_0000 * n + 0x1_0000_0000 * d) % 0x1_0000 ≡ c
  count_part = omega arith

  number_part : (c + 0x1_0000 * n + 0x1_0000_0000 * d) / 0x1_0000 % 0x1_0000 ≡ n
  number_part = omega arith

  depth_part : (c + 0x1_0000 * n + 0x1_0000_0000 * d) / 0x1_0000_0000 ≡ d
  depth_part = omega arith

pub words_header : (h : Header) → FineCell (head h) → header_of (cell_payload (head h)) ≡ h
unfolding header_of
words_header h f =
    let c = h.count in let n = h.number in let d = h.depth in
    simp (count_part c n d f.0 f.1, number_part c n d f.0 f.1, depth_part c n d f.0 f.1)

pub words_cell : (x : Cell) → FineCell x → cell_of (cell_kind x) (cell_payload x) ≡ x
unfolding cell_of
words_cell (item x) f = rw (no_header x, words_value x f)
words_cell (head h) f = ap head (words_header h f)

-- ---- exact words of a cell

pub cell_exact : (x : Cell) → FineCell x → exact_cell (cell_kind x) (cell_payload x) ≡ true
unfolding exact_cell
cell_exact (item x) f = rw (no_header x) (words_exact x f)
cell_exact (head h) f = refl

-- a header's words are always exact
header_words : (a : ℕ) → a ≡ cell_payload (head (header_of a))
unfolding header_of
header_words a = omega arith

-- exact words are those of their cell
exact_if : (k a : ℕ) (b : Bool) → eqb k 6 ≡ b → (if b then true else exact_value k a) ≡ true
    → (k ≡ cell_kind (if b then head (header_of a) else item (value_of k a))) × (a ≡ cell_payload (if b then head (header_of a) else item (value_of k a)))
exact_if k a true h e = (eqb-true k 6 h, header_words a)
exact_if k a false h e = (exact_kind k a e, exact_payload k a e)

module _ (k a : ℕ) (e : exact_cell k a ≡ true) where
  pub exact_cell_kind : k ≡ cell_kind (cell_of k a)
  unfolding exact_cell cell_of
  exact_cell_kind = (exact_if k a (eqb k 6) refl e).0

  pub exact_cell_payload : a ≡ cell_payload (cell_of k a)
  unfolding exact_cell cell_of
  exact_cell_payload = (exact_if k a (eqb k 6) refl e).1

-- the two ways out of `exact_cell`
module _ (k a : ℕ) {b : Bool} (e : b ≡ eqb k 6) where
  pub exact_header : b ≡ true → true ≡ exact_cell k a
  unfolding exact_cell
  exact_header h = rw (← e, h)

  pub exact_item : {r : Bool} → b ≡ false → r ≡ exact_value k a → r ≡ exact_cell k a
  unfolding exact_cell
  exact_item h f = rw (← e, h) f
