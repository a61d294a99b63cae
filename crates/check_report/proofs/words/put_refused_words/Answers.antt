-- `put_refused_words`: by the refusal.
use borrow.Author.Rules.{rules}
use Rattle.model.specs.Basics.{ascii}
use Rattle.check_report.proofs.Lines.{broken_told, few_places, too_short, past_limits}
use Rattle.check_report.proofs.words.put_refused_words.Goals as goal

pub returns-in-BrokenImage : goal.returns-in-BrokenImage
returns-in-BrokenImage c = search (rules, broken_told)

pub returns-in-ResultTooShort : goal.returns-in-ResultTooShort
unfolding ascii
returns-in-ResultTooShort c = search (rules, few_places)

pub returns-in-StoreFull : goal.returns-in-StoreFull
unfolding ascii
returns-in-StoreFull c = search (rules, too_short)

pub returns-in_default : goal.returns-in_default
unfolding ascii
returns-in_default c =
    past_limits _ _ c.in_default.not-BrokenImage c.in_default.not-ResultTooShort c.in_default.not-StoreFull c.put_text-in_default.ensures
