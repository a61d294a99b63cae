-- `run_arms::pushes::get_slot` meets its contract.
use Rattle.run_arms.proofs.Rules.{no_slot, slot}
use Rattle.run_arms.proofs.Posts.{gets_slot, missing, found}
use Rattle.run_arms.proofs.pushes.get_slot.Goals as goal

pub returns-then-g-i : goal.returns-then-g-i
returns-then-g-i c = λ u d. missing c.requires d (gets_slot u _) (λ x ar. no_slot _ _ _ c.if-g-i.true)

pub returns : goal.returns
returns c =
    λ u d. found c.requires d (gets_slot u _) (λ x ar. slot _ _ _ c.if-g-i.false c.read_value-v.ensures)
    (c.push.ensures u d)
