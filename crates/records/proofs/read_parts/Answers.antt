-- `records::read_parts`: by how many bytes came.
use borrow.Author.Rules.{rules}
use Rattle.records.proofs.Read.{no_room, cut_short, came_whole}
use Rattle.records.proofs.read_parts.Goals as goal

pub returns-then-body-n : goal.returns-then-body-n
returns-then-body-n g c = search (rules, no_room)

pub returns-then-read_full-n : goal.returns-then-read_full-n
returns-then-read_full-n g c = search (cut_short, rules)

pub returns : goal.returns
returns g c = search (came_whole, rules)
