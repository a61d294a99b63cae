-- `put_value`: a text for each kind.
use borrow.Author.Rules.{rules}
use Rattle.model.specs.Basics.{ascii}
use Rattle.report_lines.proofs.Pieces.{scalar_is, true_is, false_is, string_is, reference_is, list_is, instance_is}
use Rattle.report_lines.proofs.values.put_value.Goals as goal

pub returns-in-Boolean-true : goal.returns-in-Boolean-true
unfolding ascii
returns-in-Boolean-true c = search (rules, true_is)

pub returns-in-Scalar : goal.returns-in-Scalar
unfolding ascii
returns-in-Scalar c = search (rules, scalar_is)

pub returns-in-Boolean-false : goal.returns-in-Boolean-false
unfolding ascii
returns-in-Boolean-false c = search (rules, false_is)

pub returns-in-String : goal.returns-in-String
unfolding ascii
returns-in-String c = search (rules, string_is)

pub returns-in-FunctionReference : goal.returns-in-FunctionReference
unfolding ascii
returns-in-FunctionReference c = search (rules, reference_is)

pub returns-in-List : goal.returns-in-List
unfolding ascii
returns-in-List c = search (rules, list_is)

pub returns-in-StructInstance : goal.returns-in-StructInstance
unfolding ascii
returns-in-StructInstance c = search (rules, instance_is)
