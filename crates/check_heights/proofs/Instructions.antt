-- What the code reads of an instruction is what the rules say of it.
use mathlib.Core.Path.{◌≡◌, ◌∙◌}
use mathlib.Core.Bool.{Bool, true, not, ◌&&◌, ◌||◌}
use mathlib.Core.List.{List, [], ◌∷◌}
use Prim.Native.Nat.{ℕ, zero, suc, ◌+◌, ◌-◌, ◌≤◌}
use native.Mathlib.Omega.{arith}
use borrow.Author.Tests.{leb-true}
use lib.Dec.{T, leb, ltb, leb→le}
use lib.Ieee.Fits.{and_l, and_r}
use lib.ListN.{get_or}
use Rattle.model.specs.Basics.{ascii}
use Rattle.model.specs.Opcodes.{Opcode, operands, popped, opcodes, opcode_at}
use Rattle.model.specs.Programs.{opcode_in, next_in}
use Rattle.check_rules.specs.Rules.{get_local, is_at, first_at, second_at, target_at, suffices, height_after, Path, starts, goes, leaps}
use Rattle.check_heights.specs.Links.{popped_at, height_limit, AfterPost}
use Rattle.check_heights.proofs.Walks.{and_left, behind_is}

-- ---- operands

module _ (code : List ℕ) (i : ℕ) where
  pub popped_is : {a b r : ℕ} → a ≡ first_at code i → b ≡ second_at code i → r ≡ popped (opcode_in code i) a b → r ≡ popped_at code i
  unfolding popped_at
  popped_is {a} {b} p q e = e ∙ rw (p, q)

  -- ---- what suffices, and the height behind

  pub suffices_is : {takes slot : ℕ} (h : ℕ) → takes ≡ popped_at code i → slot ≡ first_at code i
      → (leb takes h && (not (is_at get_local code i) || ltb slot h)) ≡ suffices code i h
  unfolding suffices popped_at
  suffices_is h p q = rw (p, q)

  pub pops_within : {takes h : ℕ} → takes ≡ popped_at code i → suffices code i h ≡ true → takes ≤ h
  unfolding suffices popped_at
  pops_within p e = rw p (leb-true _ _ (and_left _ _ e))

  pub height_is : {takes gives h : ℕ} → takes ≡ popped_at code i → gives ≡ (opcode_in code i).pushes → gives ≤ 1 → h ≤ height_limit → AfterPost code i h (h - takes + gives)
  unfolding height_after popped_at
  height_is p q g l = record { is = rw (p, q); low = omega arith }

  -- ---- where it goes

  pub target_is : {next offset : ℕ} → next ≡ next_in code i → offset ≡ first_at code i → next + offset ≡ target_at code i
  target_is p q = rw (p, q)

-- ---- an instruction adds one at most to the height

abbrev pushes_few : List Opcode → Bool
pushes_few [] = true
pushes_few (c ∷ cs) = leb c.pushes 1 && pushes_few cs

few_at : (cs : List Opcode) (d : Opcode) (b : ℕ) → T (pushes_few cs) → d.pushes ≤ 1 → (get_or cs b d).pushes ≤ 1
few_at [] d b t h = h
few_at (c ∷ cs) d zero t h = leb→le _ _ (and_l (leb c.pushes 1) _ t)
few_at (c ∷ cs) d (suc b) t h = few_at cs d b (and_r (leb c.pushes 1) _ t) h

pushes_one : (b : ℕ) → (opcode_at b).pushes ≤ 1
unfolding ascii opcodes opcode_at
pushes_one b = few_at opcodes _ b tt (omega arith)

one_more : (code : List ℕ) (i h : ℕ) → height_after code i h ≤ suc h
unfolding height_after
one_more code i h = let z = pushes_one (get_or code i 0) in omega arith

-- THE LAW: a path has at most the arguments and a value for each byte that it has passed
pub path_low : {main : Bool} {count : ℕ} {code : List ℕ} {i h : ℕ} → Path main count code i h → h ≤ count + i
path_low starts = omega arith
path_low {code = code} (goes {i} {h} p lt on) =
    let z = path_low p in let y = one_more code i h in let b = behind_is i (operands (opcode_in code i)) in omega arith
path_low {code = code} (leaps {i} {h} p lt j) =
    let z = path_low p in let y = one_more code i h in let b = behind_is i (operands (opcode_in code i)) in omega arith
