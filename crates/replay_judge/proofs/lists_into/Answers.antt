-- `replay_judge::lists_into` meets its contract.
use native.Mathlib.Omega.{arith}
use Rattle.report.proofs.Lists.{bytes_of}
use Rattle.report.proofs.Fits.{lister_fits}
use Rattle.replay_judge.proofs.Answers.{told_into}
use Rattle.replay_judge.proofs.lists_into.Goals as goal

pub returns : goal.returns
returns c =
    told_into 524288 _ _ c.args.out.now (omega arith) (omega arith)
    (lister_fits _
    (bytes_of _ (λ i. omega (arith, c.type_inv.image i))))
    c.list_image-n.ensures _ c.same_front.ensures
