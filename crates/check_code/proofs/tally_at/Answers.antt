-- `tally_at`: a Call changes the entry of the function that it names, and no other.
use borrow.Author.Rules.{rules}
use Rattle.check_code.proofs.Entries.{nothing_to_enter, a_call_entered}
use Rattle.check_code.proofs.tally_at.Goals as goal

pub returns-then-b-eq-CALL : goal.returns-then-b-eq-CALL
returns-then-b-eq-CALL c = search (rules, a_call_entered)

pub returns-else-b-eq-CALL : goal.returns-else-b-eq-CALL
returns-else-b-eq-CALL c = search (rules, nothing_to_enter)
