-- `run_arms::frames::enters` meets its contract.
use borrow.Author.Rules.{rules}
use Rattle.run_arms.proofs.Posts.{few, no_frame_lem, enters}
use Rattle.run_arms.proofs.frames.enters.Goals as goal

pub returns-then-sp-n : goal.returns-then-sp-n
returns-then-sp-n c = search (rules, few)

pub returns-then-k-count : goal.returns-then-k-count
returns-then-k-count c = search (rules, no_frame_lem)

pub returns : goal.returns
returns c = search (rules, enters)
