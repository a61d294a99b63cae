-- `keeps_at`: by the rule.
use borrow.Author.Rules.{rules}
use Rattle.check_places.proofs.Tests.{by_whole, by_numbers, by_calls, by_jumps, by_counts, by_heights}
use Rattle.check_places.proofs.keeps_at.Goals as goal

pub returns-in-Instructions : goal.returns-in-Instructions
returns-in-Instructions c = search (rules, by_whole)

pub returns-in-Numbers : goal.returns-in-Numbers
returns-in-Numbers c = search (rules, by_numbers)

pub returns-in-Calls : goal.returns-in-Calls
returns-in-Calls c = search (rules, by_calls)

pub returns-in-Counts : goal.returns-in-Counts
returns-in-Counts c = search (rules, by_counts)

pub returns-in-Jumps : goal.returns-in-Jumps
returns-in-Jumps c = search (rules, by_jumps)

pub returns-in-Heights : goal.returns-in-Heights
returns-in-Heights c = search (rules, by_heights)
