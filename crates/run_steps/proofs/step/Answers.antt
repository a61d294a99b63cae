-- `run_steps::step` meets its contract: each way out of the code is one of the rule.
use mathlib.Core.Path.{refl, sym, ◌∙◌}
use native.Mathlib.Omega.{arith}
use Rattle.model.specs.Steps.{decoded_then}
use Rattle.run_steps.proofs.Stepping.{read_few, code_short, blocks_at, base_fits, unpaid, unread, cut_short, carried}
use Rattle.run_steps.proofs.step.Goals as goal

pub returns-then-k-spent : goal.returns-then-k-spent
returns-then-k-spent c = λ w ar at. unpaid at c.if-k-spent.true

pub overflow_mul-behind : goal.overflow_mul-behind
overflow_mul-behind c = omega (arith, read_few _ c.operands.ensures)

pub overflow_add-behind : goal.overflow_add-behind
overflow_add-behind c = omega (arith, read_few _ c.operands.ensures, code_short c.requires.0.2, c.requires.1)

pub returns-then-code-behind : goal.returns-then-code-behind
returns-then-code-behind c =
    λ w ar at. cut_short at c.if-k-spent.false refl (sym c.in-Carried.is ∙ c.decode.ensures)
    c.operands.ensures c.if-code-behind.true

pub execute-requires : goal.execute-requires
execute-requires c =
    let at = c.requires.0.2 in (
      (c.requires.0.0, at.lent),
      (
        blocks_at at _ _ c.if-k-spent.false,
        (omega (arith, code_short at), base_fits at, c.operands_at-operands.ensures.1.0, c.operands_at-operands.ensures.1.1),
      ),
    )

pub returns-in-Unknown : goal.returns-in-Unknown
unfolding decoded_then
returns-in-Unknown c =
    λ w ar at. unread at c.if-k-spent.false refl
    (sym c.in-Unknown.is ∙ c.decode.ensures) refl (λ st h p. refl)

pub returns-in-NotCarried : goal.returns-in-NotCarried
unfolding decoded_then
returns-in-NotCarried c =
    λ w ar at. unread at c.if-k-spent.false refl
    (sym c.in-NotCarried.is ∙ c.decode.ensures) refl (λ st h p. refl)

pub returns-else-code-behind : goal.returns-else-code-behind
returns-else-code-behind c =
    λ w ar at. carried at c.if-k-spent.false refl (sym c.in-Carried.is ∙ c.decode.ensures)
    c.operands.ensures c.if-code-behind.false c.operands_at-operands.ensures.0.0
    c.operands_at-operands.ensures.0.1 (c.execute.ensures w at.lent)
