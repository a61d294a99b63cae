-- `put_row`: a text for each row.
use native.Mathlib.Omega.{arith}
use Rattle.model.specs.Basics.{ascii}
use Rattle.check_report.specs.Details.{row_words}
use Rattle.check_report.proofs.Saying.{row_is}
use Rattle.check_report.proofs.items.put_row.Goals as goal

pub returns-in-Constants : goal.returns-in-Constants
unfolding row_words ascii
returns-in-Constants c = row_is c.in-Constants.is (omega arith) c.put_text.ensures

pub returns-in-Structs : goal.returns-in-Structs
unfolding row_words ascii
returns-in-Structs c = row_is c.in-Structs.is (omega arith) c.put_text-in-Structs.ensures

pub returns-in-Functions : goal.returns-in-Functions
unfolding row_words ascii
returns-in-Functions c = row_is c.in-Functions.is (omega arith) c.put_text-in-Functions.ensures
