-- `value::words::value_of` meets its contract.
use mathlib.Core.Path.{ap}
use borrow.Author.Rules.{rules}
use Rattle.model.specs.declared.Value.TheVariants as v
use Rattle.model.specs.Values.{value_of}
use Rattle.value.proofs.Coding.{other_kind}
use Rattle.value.proofs.words.value_of.Goals as goal

pub returns-in-0 : goal.returns-in-0
unfolding value_of
returns-in-0 c = rw c.in-0.is (ap v.Scalar c.of_word.ensures)

pub returns-in-1 : goal.returns-in-1
unfolding value_of
returns-in-1 c = search rules

pub returns-in-2 : goal.returns-in-2
unfolding value_of
returns-in-2 c = search rules

pub returns-in-3 : goal.returns-in-3
unfolding value_of
returns-in-3 c = search rules

pub returns-in-4 : goal.returns-in-4
unfolding value_of
returns-in-4 c = search rules

pub returns-in_default : goal.returns-in_default
returns-in_default c = other_kind _ _ c.in_default.in_default-own.rest
