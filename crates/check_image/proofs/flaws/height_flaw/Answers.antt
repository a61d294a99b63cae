-- `height_flaw`: an image, within the limits.
use Rattle.check_image.proofs.Seeking.{no_image, over_limits, flaw_ready}
use borrow.Author.Rules.{rules}
use Rattle.check_image.proofs.flaws.height_flaw.Goals as goal

pub returns-then-not-within_limits : goal.returns-then-not-within_limits
returns-then-not-within_limits c = search (rules, over_limits)

pub flaw_alone-requires : goal.flaw_alone-requires
flaw_alone-requires c = search (rules, flaw_ready)

pub returns-in_default : goal.returns-in_default
returns-in_default c = search (rules, no_image)
