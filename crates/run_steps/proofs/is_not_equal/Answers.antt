-- `run_steps::is_not_equal` meets its contract: no instruction is both equalities.
use mathlib.Core.Path.{refl}
use borrow.Author.Rules.{rules}
use Rattle.run_steps.proofs.Dispatch.{not_both, not_other}
use Rattle.run_steps.proofs.is_not_equal.Goals as goal

pub returns-in-NotEqual : goal.returns-in-NotEqual
returns-in-NotEqual c = (λ e. absurd (not_both e c.in-NotEqual.is), λ e. refl)

pub returns-in_default : goal.returns-in_default
returns-in_default c = (λ e. refl, λ e. absurd (search (rules, not_other)))
