-- `put_broken_words`: the offset between two texts, and what is said of the item.
use borrow.Author.Rules.{rules}
use Rattle.model.specs.Basics.{ascii}
use Rattle.check_report.proofs.Lines.{broken_words_lem}
use Rattle.check_report.proofs.words.put_broken_words.Goals as goal

pub returns : goal.returns
unfolding ascii
returns c = search (rules, broken_words_lem)
