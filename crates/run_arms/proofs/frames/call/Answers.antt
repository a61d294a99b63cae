-- `run_arms::frames::call` meets its contract.
use borrow.Author.Rules.{rules}
use Rattle.run_arms.proofs.Posts.{no_number_lem, calls}
use Rattle.run_arms.proofs.frames.call.Goals as goal

pub returns-then-k-i : goal.returns-then-k-i
returns-then-k-i c = search (rules, no_number_lem)

pub returns : goal.returns
returns c = λ u d. calls c.requires d _ _ c.if-k-i.false (c.enters.ensures u d)
