-- `put_part`: a text for each item.
use borrow.Author.Rules.{rules}
use native.Mathlib.Omega.{arith}
use Rattle.model.specs.Basics.{ascii}
use Rattle.check_report.specs.Details.{part_words}
use Rattle.check_report.proofs.Saying.{part_is, count_is, nowhere_is}
use Rattle.check_report.proofs.items.put_part.Goals as goal

pub returns-in-Count : goal.returns-in-Count
returns-in-Count c = search (rules, count_is)

pub returns-in-Kind : goal.returns-in-Kind
unfolding part_words ascii
returns-in-Kind c = part_is c.in-Kind.is (omega arith) c.put_count.ensures

pub returns-in-Value : goal.returns-in-Value
unfolding part_words ascii
returns-in-Value c = part_is c.in-Value.is (omega arith) c.put_count-in-Value.ensures

pub returns-in-Struct : goal.returns-in-Struct
unfolding part_words ascii
returns-in-Struct c = part_is c.in-Struct.is (omega arith) c.put_count-in-Struct.ensures

pub returns-in-Name : goal.returns-in-Name
unfolding part_words ascii
returns-in-Name c = part_is c.in-Name.is (omega arith) c.put_count-in-Name.ensures

pub returns-in-Length : goal.returns-in-Length
unfolding part_words ascii
returns-in-Length c = part_is c.in-Length.is (omega arith) c.put_count-in-Length.ensures

pub returns-in-Code : goal.returns-in-Code
unfolding part_words ascii
returns-in-Code c = part_is c.in-Code.is (omega arith) c.put_count-in-Code.ensures

pub returns-in-Places : goal.returns-in-Places
unfolding part_words ascii
returns-in-Places c = part_is c.in-Places.is (omega arith) c.put_count-in-Places.ensures

pub returns-in-Behind : goal.returns-in-Behind
unfolding part_words ascii
returns-in-Behind c = part_is c.in-Behind.is (omega arith) c.put_text.ensures

pub returns-in-Nowhere : goal.returns-in-Nowhere
returns-in-Nowhere c = search (rules, nowhere_is)
