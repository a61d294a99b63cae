-- From an instruction to its arm, and from an opcode to its instruction.
use mathlib.Core.Path.{◌≡◌, sym, ap, ◌∙◌}
use mathlib.Core.Bool.{Bool, true, false}
use mathlib.Core.Logic.{◌⊎◌, inl, inr}
use mathlib.Core.List.{List, [], ◌∷◌}
use Prim.Native.Nat.{ℕ, suc, ◌+◌, ◌*◌}
use native.Mathlib.Omega.{arith}
use lib.ListN.{get_or}
use denote.Enum.Declared.{tag_of}
use types.Run.{OneOf, miss}
use borrow.Enum.Known.{lives_at}
use Rattle.model.specs.contracts.Op.{enum, the_type}
use Rattle.model.specs.declared.Op.{Op}
use Rattle.model.specs.declared.Op.TheVariants as op
use Rattle.model.specs.Programs.{word_at}
use Rattle.model.specs.Steps.{World, State, Outcome, equal_step, exec_of}
use Rattle.run_arms.specs.declared.Fixed.{Fixed}
use Rattle.run_arms.specs.declared.Going.{Going}
use Rattle.run_arms.specs.declared.Answer.{Answer}
use Rattle.run_arms.specs.Links.{Around, state_of, ArmPost, BlockPost, CellsWithin, verdict_by}
use Rattle.run_blocks.proofs.Cellwise.{same_block, arm_block, equal_is, not_equal_is}

-- two bytes are a word
pub word_is : (code : List ℕ) (i : ℕ) {j a b r : ℕ} → j ≡ i + 1 → a ≡ get_or code i 0 → b ≡ get_or code j 0 → r ≡ a + 256 * b → r ≡ word_at code i
unfolding word_at
word_is code i {j} e p q h = let z : j ≡ suc i = omega arith in rw (h, p, q, z)

-- the two equalities
pub equalities : (o : Op) → OneOf (7 ∷ 8 ∷ []) (tag_of the_type o) → (o ≡ op.Equal) ⊎ (o ≡ op.NotEqual)
equalities o (inl e) = inl (lives_at enum o 7 e).1
equalities o (inr e) = inr (lives_at enum o 8 e).1

pub not_both : {o : Op} → o ≡ op.Equal → o ≡ op.NotEqual → ⊥
not_both e d = let z : ◌≡◌ {A = ℕ} 7 8 = ap (tag_of the_type) (sym e ∙ d) in omega arith

pub not_other : (o : Op) → o ≡ op.NotEqual → OneOf (0 ∷ 1 ∷ 2 ∷ 3 ∷ 4 ∷ 5 ∷ 6 ∷ 7 ∷ 9 ∷ 10 ∷ 11 ∷ 12 ∷ 13 ∷ 14 ∷ 15 ∷ 16 ∷ 17 ∷ 18 ∷ 19 ∷ []) (tag_of the_type o) → ⊥
not_other o e h = miss (0 ∷ 1 ∷ 2 ∷ 3 ∷ 4 ∷ 5 ∷ 6 ∷ 7 ∷ 9 ∷ 10 ∷ 11 ∷ 12 ∷ 13 ∷ 14 ∷ 15 ∷ 16 ∷ 17 ∷ 18 ∷ 19 ∷ []) 8 tt (rw e at h)

pub equality_is : (w : World) (a b : ℕ) {o : Op} → (o ≡ op.Equal) ⊎ (o ≡ op.NotEqual) → {not : Bool} → (o ≡ op.Equal → not ≡ false) × (o ≡ op.NotEqual → not ≡ true)
    → (st : State) → exec_of w o a b st ≡ equal_step (verdict_by not) w st
unfolding exec_of
equality_is w a b (inl e) h st = rw (e, h.0 e) (equal_is w st)
equality_is w a b (inr e) h st = rw (e, h.1 e) (not_equal_is w st)

module _ (w : World) (a b : ℕ) {o p : Op} {rule : State → Outcome} {k : Fixed} {g : Going} {s x : List ℕ} {r : Answer} {t : List ℕ} (e : o ≡ p)
    (d : (ar : Around) → exec_of w p a b (state_of k g s x ar) ≡ rule (state_of k g s x ar)) where
  -- the instruction is p, whose arm is lent the cells
  pub by_block : {y : List ℕ} → BlockPost rule k g s x r t y → BlockPost (exec_of w o a b) k g s x r t y
  by_block q = same_block (λ ar. rw e (d ar)) q

  -- or is not
  pub by_arm : CellsWithin g x → ArmPost rule k g s r t → BlockPost (exec_of w o a b) k g s x r t x
  by_arm c q = by_block (arm_block c q)
