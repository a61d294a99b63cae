-- Where a path comes: to an instruction of the walk or to the code's end, if rules 1 and 5 hold of the code.
use Rattle.std.specs.Prelude.{if◌then◌else◌}
use mathlib.Core.Path.{◌≡◌, refl, sym, ap, ◌∙◌}
use mathlib.Core.Bool.{Bool, true, false, not, ◌&&◌, ◌||◌}
use mathlib.Core.List.{List, [], ◌∷◌}
use mathlib.Core.Logic.{◌⊎◌, inl, inr, ⊎_elim}
use Prim.Native.Nat.{ℕ, zero, suc, ◌+◌, ◌-◌, ◌*◌, ◌≤◌, ◌<◌}
use native.Mathlib.Nat.{eq-or-lt_of_le}
use native.Mathlib.Omega.{arith}
use borrow.Author.Tests.{lt-ltb, ltb-true, leb-true, eqb-true}
use lib.Dec.{ltb, eqb}
use lib.ListN.{length}
use Rattle.model.specs.Opcodes.{operands}
use Rattle.model.specs.Programs.{behind, opcode_in, next_in, stands_for, stands}
use Rattle.check_rules.specs.Rules.{is_carried, whole_at, jump_at, is_jump, target_at, is_in, lands, every, Path, starts, goes, leaps}

pub not_both : {b : Bool} → b ≡ true → b ≡ false → ⊥
not_both p q = let z : ◌≡◌ {A = ℕ} 0 1 = cc in omega arith

-- ---- tests that are joined

pub and_left : (a b : Bool) → (a && b) ≡ true → a ≡ true
and_left true b e = refl
and_left false b e = e

and_right : (a b : Bool) → (a && b) ≡ true → b ≡ true
and_right true b e = e
and_right false b e = absurd (not_both e refl)

or_either : (a b : Bool) → (a || b) ≡ true → (a ≡ true) ⊎ (b ≡ true)
or_either true b e = inl refl
or_either false b e = inr e

-- ---- the walk

-- the walk from 0 on comes to i
data Walk (code : List ℕ) : ℕ → Type 0 where
  first : Walk code 0
  next : {i : ℕ} → Walk code i → i < length code → Walk code (next_in code i)

pub behind_is : (i n : ℕ) → behind i n ≡ i + 1 + 2 * n
unfolding behind
behind_is i n = omega arith

-- the test holds wherever the walk from i on stands
record Rest (test : ℕ → Bool) (code : List ℕ) (i : ℕ) : Type 0 where
  pub left : ℕ
  pub enough : length code ≤ i + left
  pub kept : every test (stands_for left code i) ≡ true

module _ (test : ℕ → Bool) (code : List ℕ) where
  -- the first of them is i itself
  stands_here : (n i : ℕ) → i < length code → every test (stands_for (suc n) code i) ≡ (test i && every test (stands_for n code (next_in code i)))
  unfolding every stands_for
  stands_here n i lt = rw (lt-ltb _ _ lt)

  module _ {i : ℕ} (lt : i < length code) (r : Rest test code i) where
    here_and_behind : (test i && every test (stands_for (r.left - 1) code (next_in code i))) ≡ true
    here_and_behind =
        let z = r.enough in
        let some : r.left ≡ suc (r.left - 1) = omega arith in
        sym (stands_here (r.left - 1) i lt) ∙ sym (ap (λ (n : ℕ). every test (stands_for n code i)) some) ∙ r.kept

    rest_here : test i ≡ true
    rest_here = and_left _ _ here_and_behind

    rest_next : Rest test code (next_in code i)
    rest_next =
        let z = r.enough in
        let b = behind_is i (operands (opcode_in code i)) in
        record { left = r.left - 1; enough = omega arith; kept = and_right (test i) _ here_and_behind }

  module _ (all : every test (stands code) ≡ true) where
    walk_rest : {i : ℕ} → Walk code i → Rest test code i
    unfolding stands
    walk_rest first = record { left = length code; enough = omega arith; kept = all }
    walk_rest (next w lt) = rest_next lt (walk_rest w)

    -- what holds of every instruction holds of each where the walk comes
    every_at : {i : ℕ} → Walk code i → i < length code → test i ≡ true
    every_at w lt = rest_here lt (walk_rest w)

-- an instruction of the walk, or the end
data Place (code : List ℕ) : ℕ → Type 0 where
  instruction : {i : ℕ} → Walk code i → i < length code → Place code i
  end : Place code (length code)

place_within : {code : List ℕ} {i : ℕ} → Place code i → i ≤ length code
place_within (instruction w lt) = omega arith
place_within end = omega arith

module _ (code : List ℕ) where
  walk_place : {i : ℕ} → Walk code i → i ≤ length code → Place code i
  walk_place {i} w l = ⊎_elim (λ e. rw e end) (λ lt. instruction w lt) (eq-or-lt_of_le l)

  -- a position among those where the walk from i on stands: i itself, or one behind it
  among_first : {j i : ℕ} → Walk code i → (rest : List ℕ) → (Walk code (next_in code i) → is_in j rest ≡ true → Place code j)
      → (b : Bool) → ltb i (length code) ≡ b → is_in j (if b then i ∷ rest else []) ≡ true → Place code j
  unfolding is_in
  among_first {j} {i} w rest k true t e =
      let lt = ltb-true _ _ t in
      ⊎_elim (λ s. rw (eqb-true j i s) (instruction w lt)) (k (next w lt)) (or_either (eqb j i) _ e)
  among_first w rest k false t e = absurd (not_both e refl)

  among : {j : ℕ} (n i : ℕ) → Walk code i → is_in j (stands_for n code i) ≡ true → Place code j
  unfolding is_in stands_for
  among zero i w e = absurd (not_both e refl)
  among (suc n) i w e = among_first w (stands_for n code (next_in code i)) (among n (next_in code i)) (ltb i (length code)) refl e

  lands_place : (main : Bool) (j : ℕ) → lands main code j ≡ true → Place code j
  unfolding lands stands
  lands_place main j e =
      ⊎_elim (among (length code) 0 first) (λ z. rw (eqb-true j (length code) (and_right main _ z)) end)
      (or_either (is_in j (stands code)) _ e)

-- ---- paths

module _ (main : Bool) (code : List ℕ) (whole : every (whole_at code) (stands code) ≡ true) (landing : every (jump_at main code) (stands code) ≡ true) where
  -- an instruction of the walk is all there
  walk_whole : {i : ℕ} → Walk code i → i < length code → next_in code i ≤ length code
  unfolding whole_at
  walk_whole {i} w lt = leb-true _ _ (and_right (is_carried (opcode_in code i).what) _ (every_at (whole_at code) code whole w lt))

  walk_lands : {i : ℕ} → Walk code i → i < length code → is_jump code i ≡ true → Place code (target_at code i)
  unfolding jump_at
  walk_lands {i} w lt j =
      ⊎_elim (λ z. absurd (not_both z (rw j))) (lands_place code main (target_at code i))
      (or_either (not (is_jump code i)) _ (every_at (jump_at main code) code landing w lt))

  place_whole : {i : ℕ} → Place code i → i < length code → next_in code i ≤ length code
  place_whole (instruction w l) lt = walk_whole w lt
  place_whole end lt = absurd (omega arith)

  place_on : {i : ℕ} → Place code i → i < length code → Place code (next_in code i)
  place_on (instruction w l) lt = walk_place code (next w lt) (walk_whole w lt)
  place_on end lt = absurd (omega arith)

  place_leap : {i : ℕ} → Place code i → i < length code → is_jump code i ≡ true → Place code (target_at code i)
  place_leap (instruction w l) lt j = walk_lands w lt j
  place_leap end lt j = absurd (omega arith)

  -- a path comes to an instruction of the walk or to the end
  path_place : {count i h : ℕ} → Path main count code i h → Place code i
  path_place starts = walk_place code first (omega arith)
  path_place (goes p lt on) = place_on (path_place p) lt
  path_place (leaps p lt j) = place_leap (path_place p) lt j

  -- THE LAWS: it never leaves the code, and an instruction that it comes to is all there
  pub path_within : {count i h : ℕ} → Path main count code i h → i ≤ length code
  path_within p = place_within (path_place p)

  pub path_whole : {count i h : ℕ} → Path main count code i h → i < length code → next_in code i ≤ length code
  path_whole p lt = place_whole (path_place p) lt
