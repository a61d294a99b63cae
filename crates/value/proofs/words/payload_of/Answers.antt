-- `value::words::payload_of` meets its contract.
use mathlib.Core.Path.{refl}
use borrow.Author.Rules.{rules}
use Rattle.value.proofs.Coding.{payload_is, told}
use Rattle.value.proofs.words.payload_of.Goals as goal

pub returns-in-Scalar : goal.returns-in-Scalar
returns-in-Scalar c = search (rules, payload_is, told)

pub returns-in-Boolean : goal.returns-in-Boolean
returns-in-Boolean c = payload_is c.in-Boolean.is refl tt

pub returns-in-String : goal.returns-in-String
returns-in-String c = search (rules, payload_is)

pub returns-in-FunctionReference : goal.returns-in-FunctionReference
returns-in-FunctionReference c = search (rules, payload_is)

pub returns-in-List : goal.returns-in-List
returns-in-List c = search (rules, payload_is)

pub returns-in-StructInstance : goal.returns-in-StructInstance
returns-in-StructInstance c = search (rules, payload_is)
