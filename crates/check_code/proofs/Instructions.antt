-- An instruction: its operands, and the position behind it.
use mathlib.Core.Path.{◌≡◌, sym}
use mathlib.Core.Bool.{Bool, true, ◌&&◌}
use mathlib.Core.List.{List, [], ◌∷◌}
use Prim.Native.Nat.{ℕ, zero, suc, ◌+◌, ◌-◌, ◌*◌, ◌≤◌, ◌<◌}
use native.Mathlib.Omega.{arith}
use native.Mathlib.Numerals.{add-one}
use lib.Dec.{T, leb, leb→le}
use lib.Ieee.Fits.{and_l, and_r}
use lib.ListN.{length, get_or, get_or-eq_default}
use Rattle.model.specs.Basics.{ascii}
use Rattle.model.specs.Opcodes.{Opcode, operands, opcodes, opcode_at}
use Rattle.model.specs.Programs.{word_at, behind, opcode_in, next_in}
use Rattle.check_rules.specs.Rules.{first_at, second_at}

-- past the code a byte is 0
pub no_byte : (code : List ℕ) {i : ℕ} → length code ≤ i → ◌≡◌ {A = ℕ} 0 (get_or code i 0)
no_byte code h = sym (get_or-eq_default code 0 h)

pub word_is : (code : List ℕ) (i : ℕ) {low high : ℕ} → low ≡ get_or code i 0 → high ≡ get_or code (i + 1) 0 → low + 256 * high ≡ word_at code i
unfolding word_at
word_is code i e f = rw (e, f, add-one)

-- the operands stand behind the opcode
module _ (code : List ℕ) (i : ℕ) {x : ℕ} where
  pub first_is : x ≡ word_at code (i + 1) → x ≡ first_at code i
  first_is e = rw (← add-one) e

  pub second_is : x ≡ word_at code (i + 1 + 2) → x ≡ second_at code i
  second_is e = rw (← add-one i) e

-- an opcode has three operands or fewer

abbrev few : Opcode → Bool
few o = leb (operands o) 3

abbrev all_few : List Opcode → Bool
all_few [] = true
all_few (o ∷ os) = few o && all_few os

few_at : (os : List Opcode) (d : Opcode) → T (few d) → T (all_few os) → (b : ℕ) → T (few (get_or os b d))
few_at [] d h t b = h
few_at (o ∷ os) d h t zero = and_l (few o) (all_few os) t
few_at (o ∷ os) d h t (suc b) = few_at os d h (and_r (few o) (all_few os) t) b

few_operands : (b : ℕ) → operands (opcode_at b) ≤ 3
unfolding ascii operands opcodes opcode_at
few_operands b = leb→le _ 3 (few_at opcodes _ tt tt b)

pub at_most_three : (b : ℕ) {n : ℕ} → n ≡ operands (opcode_at b) → n ≤ 3
at_most_three b e = rw e (few_operands b)

-- the position behind an instruction, as the code counts it
pub next_is : (code : List ℕ) (i : ℕ) {n : ℕ} → n ≡ operands (opcode_in code i) → i + 1 + 2 * n ≡ next_in code i
unfolding behind
next_is code i e = omega arith

pub further_on : (code : List ℕ) (i : ℕ) → i < next_in code i
unfolding behind
further_on code i = omega arith

-- a loop over the instructions ends
pub nearer : (code : List ℕ) (i : ℕ) → i < length code → {j : ℕ} → j ≡ next_in code i → length code - j < length code - i
nearer code i h e = let z = further_on code i in omega arith
