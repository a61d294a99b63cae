-- `entry`: a first Call, one that passes the same count, and one that passes another.
use borrow.Author.Rules.{rules}
use Rattle.check_code.proofs.Entries.{first_call_lem, same_count, another_count}
use Rattle.check_code.proofs.entry.Goals as goal

pub returns-then-v-eq0 : goal.returns-then-v-eq0
returns-then-v-eq0 c = search (rules, first_call_lem)

pub returns-then-v-told : goal.returns-then-v-told
returns-then-v-told c = search (rules, same_count)

pub returns : goal.returns
returns c = search (rules, another_count)
