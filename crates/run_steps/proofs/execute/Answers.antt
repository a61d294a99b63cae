-- `run_steps::execute` meets its contract: each instruction goes to its arm.
use mathlib.Core.Path.{refl}
use borrow.Author.Rules.{rules}
use Rattle.model.specs.Steps.{exec_of}
use Rattle.layout.specs.Links.{names_lent}
use Rattle.run_arms.specs.Links.{connective}
use Rattle.run_blocks.proofs.Cellwise.{same_block}
use Rattle.run_steps.proofs.Dispatch.{by_arm, by_block, equalities, equality_is}
use Rattle.run_steps.proofs.execute.Goals as goal

pub returns-in-LoadConstant : goal.returns-in-LoadConstant
unfolding exec_of
returns-in-LoadConstant c =
    λ w l. by_arm w _ _ c.in-LoadConstant.is (λ ar. refl) c.requires.1.0.cells
    (c.load_constant.ensures w l.suits l.values)

pub returns-in-GetLocal : goal.returns-in-GetLocal
unfolding exec_of
returns-in-GetLocal c =
    λ w l. by_arm w _ _ c.in-GetLocal.is (λ ar. refl) c.requires.1.0.cells
    (c.get_slot.ensures w l.suits)

pub returns-in-GetUpvalue : goal.returns-in-GetUpvalue
unfolding exec_of
returns-in-GetUpvalue c =
    λ w l. by_arm w _ _ c.in-GetUpvalue.is (λ ar. refl) c.requires.1.0.cells
    (c.get_slot-in-GetUpvalue.ensures w l.suits)

pub returns-in-GetLastResult : goal.returns-in-GetLastResult
unfolding exec_of
returns-in-GetLastResult c =
    λ w l. by_arm w _ _ c.in-GetLastResult.is (λ ar. refl) c.requires.1.0.cells
    (c.get_last_result.ensures w l.suits)

pub returns-in-Negate : goal.returns-in-Negate
unfolding exec_of
returns-in-Negate c = search (rules, by_arm)

pub returns-in-Arithmetic : goal.returns-in-Arithmetic
unfolding exec_of
returns-in-Arithmetic c =
    λ w l. by_arm w _ _ c.in-Arithmetic.is (λ ar. refl) c.requires.1.0.cells
    (c.arithmetic.ensures w l.suits)

pub returns-in-Ordering : goal.returns-in-Ordering
unfolding exec_of
returns-in-Ordering c = search (rules, by_arm)

pub returns-in-Equal : goal.returns-in-Equal
unfolding names_lent
returns-in-Equal c =
    λ w l. same_block
    (λ ar. equality_is w c.args.a c.args.b (equalities c.args.o (search rules))
    c.is_not_equal-not.ensures _) (c.equal.ensures w l.named.text)

pub returns-in-LogicalAnd : goal.returns-in-LogicalAnd
unfolding exec_of connective
returns-in-LogicalAnd c = search (rules, by_arm)

pub returns-in-LogicalOr : goal.returns-in-LogicalOr
unfolding exec_of connective
returns-in-LogicalOr c = search (rules, by_arm)

pub returns-in-LogicalNeg : goal.returns-in-LogicalNeg
unfolding exec_of
returns-in-LogicalNeg c = search (rules, by_arm)

pub returns-in-JumpIfFalse : goal.returns-in-JumpIfFalse
unfolding exec_of
returns-in-JumpIfFalse c = search (rules, by_arm)

pub returns-in-Jump : goal.returns-in-Jump
unfolding exec_of
returns-in-Jump c = search (rules, by_arm)

pub returns-in-Call : goal.returns-in-Call
unfolding exec_of
returns-in-Call c =
    λ w l. by_arm w _ _ c.in-Call.is (λ ar. refl)
    c.requires.1.0.cells (c.call.ensures w l.suits)

pub returns-in-CallCallable : goal.returns-in-CallCallable
unfolding exec_of
returns-in-CallCallable c =
    λ w l. by_arm w _ _ c.in-CallCallable.is (λ ar. refl)
    c.requires.1.0.cells
    (c.call_callable.ensures w l.rest l.suits l.named)

pub returns-in-BuildStructInstance : goal.returns-in-BuildStructInstance
unfolding exec_of
returns-in-BuildStructInstance c =
    λ w l. by_block w _ _ c.in-BuildStructInstance.is (λ ar. refl)
    (c.build_struct.ensures w l.suits l.cell_room)

pub returns-in-AccessStructField : goal.returns-in-AccessStructField
unfolding exec_of
returns-in-AccessStructField c = search (rules, by_block)

pub returns-in-BuildList : goal.returns-in-BuildList
unfolding exec_of
returns-in-BuildList c =
    λ w l. by_block w _ _ c.in-BuildList.is (λ ar. refl)
    (c.build_list.ensures w l.suits l.cell_room)

pub returns-in-Return : goal.returns-in-Return
unfolding exec_of
returns-in-Return c = search (rules, by_arm)
