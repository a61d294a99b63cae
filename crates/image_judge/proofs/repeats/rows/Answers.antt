-- `image_judge::repeats::rows` meets its contract.
use Rattle.image_judge.proofs.Repeating.{rowing_start, rowing_within, rowing_next}
use Rattle.std.proofs.Common.{rules}
use Rattle.image_judge.proofs.repeats.rows.Goals as goal

pub loop-i-init : goal.loop-i-init
loop-i-init c = rowing_start _ _ _ c.requires

pub read_text-requires : goal.read_text-requires
read_text-requires c = rowing_within _ _ _ _ _ c.loop-i.invariant

pub loop-i-preserved : goal.loop-i-preserved
loop-i-preserved c = search (rules, rowing_next)
