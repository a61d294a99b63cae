-- `replay_judge::runs` meets its contract.
use native.Mathlib.Omega.{arith}
use Rattle.report.proofs.Lists.{bytes_of}
use Rattle.report.proofs.Fits.{runner_fits}
use Rattle.replay_judge.proofs.Answers.{told}
use Rattle.replay_judge.proofs.runs.Goals as goal

pub returns : goal.returns
returns c =
    told 32768 _ _ (omega arith)
    (runner_fits _
    (bytes_of _ (λ i. omega (arith, c.type_inv.image i))))
    c.run_image-n.ensures _ c.same_front.ensures
