use borrow.Author.Rules.{rules}
use Rattle.readers.proofs.Shows.{text_disorder, text_taken, bytes_shown, no_bytes}
use Rattle.readers.proofs.text_bytes.Goals as goal

pub returns-then-not-text_ok : goal.returns-then-not-text_ok
returns-then-not-text_ok c = search (rules, text_disorder)

pub put_text-requires : goal.put_text-requires
put_text-requires c = search (rules, text_taken)

pub returns-in-String : goal.returns-in-String
returns-in-String c = search (rules, bytes_shown)

pub returns-in_default : goal.returns-in_default
returns-in_default c = no_bytes _ _ _ _ c.text_ok.ensures c.if-not-text_ok.false c.in_default.not-String c.in_default.not-FunctionReference
