-- `code_part`: the code, and the runs behind it.
use borrow.Author.Rules.{rules}
use Rattle.image_items.proofs.Seeking.{code_here_lem, code_cut, places_broken, places_here_lem, places_over}
use Rattle.image_items.proofs.code_part.Goals as goal

pub returns-then-code-o : goal.returns-then-code-o
returns-then-code-o c = search (rules, code_here_lem)

pub returns-then-image-code : goal.returns-then-image-code
returns-then-image-code c = search (rules, code_cut)

pub returns-in_default : goal.returns-in_default
returns-in_default c = search (rules, places_broken)

pub returns-then-o-next : goal.returns-then-o-next
returns-then-o-next c = search (rules, places_here_lem)

pub returns : goal.returns
returns c = search (rules, places_over)
