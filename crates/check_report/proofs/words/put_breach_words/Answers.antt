-- `put_breach_words`: the function, what is said of it, and how it breaks the rule.
use borrow.Author.Rules.{rules}
use Rattle.model.specs.Basics.{ascii}
use Rattle.check_report.proofs.Lines.{breach_words_lem}
use Rattle.check_report.proofs.words.put_breach_words.Goals as goal

pub returns : goal.returns
unfolding ascii
returns c = search (rules, breach_words_lem)
