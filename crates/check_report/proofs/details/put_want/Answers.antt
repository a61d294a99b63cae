-- `put_want`: the slot, or what is popped.
use Rattle.model.specs.Basics.{ascii}
use Rattle.check_report.proofs.Saying.{slot_put, pops_put}
use mathlib.Core.Path.{refl}
use borrow.Author.Rules.{rules}
use Rattle.check_report.proofs.details.put_want.Goals as goal

pub returns-then-b-eq-GET_LOCAL : goal.returns-then-b-eq-GET_LOCAL
unfolding ascii
returns-then-b-eq-GET_LOCAL c = search (rules, slot_put)

pub returns : goal.returns
unfolding ascii
returns c =
    pops_put _ _ refl c.first_at-first.ensures c.if-b-eq-GET_LOCAL.false c.second_at-second.ensures
    c.popped-takes.ensures c.put_count-2.ensures
