-- The table of names has those of the model's table, each in a row of its own.
use mathlib.Core.Path.{◌≡◌, refl, sym, ap, ◌∙◌}
use mathlib.Core.Bool.{Bool, true, ◌&&◌, not}
use mathlib.Core.List.{List, [], ◌∷◌, ◌++◌}
use Prim.Native.Nat.{ℕ, zero, suc, ◌+◌, ◌-◌, ◌*◌, ◌≤◌, ◌<◌}
use native.Mathlib.Nat.{lt_of_not-le}
use native.Mathlib.Omega.{arith}
use lib.Dec.{T, leb, leb→le, eqb, eqb_refl, T_not}
use lib.Ieee.Fits.{and_l, and_r}
use lib.ListN.{length, get_or, length-append, replicate, length-replicate, get_or-replicate, get_or-append, get_or-eq_default}
use lib.Seq.{get_or-append-add}
use Rattle.model.specs.Basics.{ascii}
use Rattle.model.specs.Opcodes.{Opcode, opcodes, opcode_at}

-- a name fits its row, and has no space
abbrev solid : List ℕ → Bool
solid [] = true
solid (x ∷ n) = not (eqb x 32) && solid n

abbrev good : List ℕ → Bool
good n = leb (length n) 19 && solid n

abbrev all_good : List Opcode → Bool
all_good [] = true
all_good (o ∷ l) = good o.name && all_good l

good_at : (l : List Opcode) (d : Opcode) (b : ℕ) → T (all_good l) → T (good d.name) → T (good (get_or l b d).name)
good_at [] d b t h = h
good_at (o ∷ l) d zero t h = and_l (good o.name) (all_good l) t
good_at (o ∷ l) d (suc b) t h = good_at l d b (and_r (good o.name) (all_good l) t) h

-- the letters of a good name, and spaces past them
short : (n : List ℕ) → T (good n) → length n ≤ 19
short n t = leb→le (length n) 19 (and_l (leb (length n) 19) (solid n) t)

ends : (n : List ℕ) (i : ℕ) → T (solid n) → get_or n i 32 ≡ 32 → length n ≤ i
ends [] i t e = omega arith
ends (x ∷ n) zero t e = absurd (T_not (eqb x 32) (and_l (not (eqb x 32)) (solid n) t) (rw e (eqb_refl 32)))
ends (x ∷ n) (suc i) t e = let z : length n ≤ i = ends n i (and_r (not (eqb x 32)) (solid n) t) e in omega arith

goes_on_lem : (n : List ℕ) (i : ℕ) → (get_or n i 32 ≡ 32 → ⊥) → i < length n
goes_on_lem n i h = lt_of_not-le (λ (l : length n ≤ i). h (get_or-eq_default n 32 l))

-- a row of the table, and the rows of a list of opcodes
abbrev row : List ℕ → List ℕ
row n = n ++ replicate (19 - length n) 32

abbrev pub rows : List Opcode → List ℕ
rows [] = []
rows (o ∷ l) = row o.name ++ rows l

row_length : (n : List ℕ) → T (good n) → length (row n) ≡ 19
row_length n t =
    let l : length n ≤ 19 = short n t in
    simp (length-append, length-replicate) (omega arith)

-- a name and spaces behind it
pub row_at : (n : List ℕ) (k d i : ℕ) → i < length n + k → get_or (n ++ replicate k 32) i d ≡ get_or n i 32
row_at [] k d i h = get_or-replicate k i 32 d (omega arith)
row_at (x ∷ n) k d zero h = refl
row_at (x ∷ n) k d (suc i) h = row_at n k d i (omega arith)

rows_at : (l : List Opcode) (o : Opcode) (b i d : ℕ) → T (all_good l) → b < length l → i < 19 → get_or (rows l) (19 * b + i) d ≡ get_or (get_or l b o).name i 32
rows_at [] o b i d t h k = absurd (let z : ⊥ = omega arith in z)
rows_at (p ∷ l) o zero i d t h k =
    let w : length (row p.name) ≡ 19 = row_length p.name (and_l (good p.name) (all_good l) t) in
    let e : 19 * 0 + i ≡ i = omega arith in
    rw e (get_or-append (row p.name) (rows l) d i (omega arith) ∙ row_at p.name (19 - length p.name) d i (omega arith))
rows_at (p ∷ l) o (suc b) i d t h k =
    let w : length (row p.name) ≡ 19 = row_length p.name (and_l (good p.name) (all_good l) t) in
    let e : 19 * suc b + i ≡ length (row p.name) + (19 * b + i) = omega arith in
    rw e (get_or-append-add (row p.name) (rows l) (19 * b + i) d ∙ rows_at l o b i d (and_r (good p.name) (all_good l) t) (omega arith) k)

module _ (b i : ℕ) where
  abbrev name : List ℕ
  name = (opcode_at b).name

  good_name : T (good name)
  unfolding ascii opcodes opcode_at
  good_name = good_at opcodes _ b tt tt

  -- `name_byte`: past the table, past a row, and a letter of a row
  pub no_name : 38 ≤ b → ◌≡◌ {A = ℕ} 32 (get_or name i 32)
  unfolding ascii opcodes opcode_at
  no_name h = sym (ap (λ (o : Opcode). get_or o.name i 32) (get_or-eq_default opcodes _ h))

  pub past_row : 19 ≤ i → ◌≡◌ {A = ℕ} 32 (get_or name i 32)
  past_row h =
      let l : length name ≤ 19 = short name good_name in
      sym (get_or-eq_default name 32 {n = i} (omega arith))

  pub letter : (d : ℕ) → b < 38 → i < 19 → get_or (rows opcodes) (19 * b + i) d ≡ get_or name i 32
  unfolding ascii opcodes opcode_at
  letter d h k = rows_at opcodes _ b i d tt h k

  -- `name_len`: x is the letter at a place that the name reaches
  module _ (x : ℕ) (e : x ≡ get_or name i 32) where
    pub at_space : i ≤ length name → x ≡ 32 → i ≡ length name
    at_space h z =
        let l : length name ≤ i = ends name i (and_r (leb (length name) 19) (solid name) good_name) (sym e ∙ z) in
        omega arith

    pub at_letter : (x ≡ 32 → ⊥) → i + 1 ≤ length name
    at_letter z = let l : i < length name = goes_on_lem name i (λ w. z (e ∙ w)) in omega arith

  pub full : i ≤ length name → 19 ≤ i → 19 ≡ length name
  full h k = let l : length name ≤ 19 = short name good_name in omega arith
