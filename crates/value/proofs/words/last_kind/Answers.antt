-- `value::words::last_kind` meets its contract.
use borrow.Author.Rules.{rules}
use Rattle.value.proofs.Lasts.{kind_none, kind_some}
use Rattle.value.proofs.words.last_kind.Goals as goal

pub returns-in-None : goal.returns-in-None
returns-in-None c = kind_none c.in-None.is

pub returns-in-Some : goal.returns-in-Some
returns-in-Some c = search (rules, kind_some)
