use Rattle.std.proofs.Common.{refl, sym, ◌∙◌}
use Rattle.console_script.specs.Words.{with_digit}
use Rattle.console_script.proofs.Alongs.{along_on, along_stays}
use Rattle.console_script.proofs.number.Goals as goal

pub returns-in_err-n : goal.returns-in_err-n
unfolding with_digit
returns-in_err-n c =
    rw c.from_residual.ensures
    (sym (along_on _ _ _ c.loop-b.invariant c.loop-b-test.true c.in_err-n.ensures ∙ along_stays _ _ (λ x. refl) _))
