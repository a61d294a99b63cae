-- `cells::compare` meets its contract.
use borrow.Author.Rules.{rules}
use Rattle.cells.proofs.Pairs.{scalars, scalar_other, booleans, boolean_other, strings_inside, strings, string_other, references_inside, references, reference_other, two_lists, list_other, two_structs, struct_other}
use Rattle.cells.proofs.compare.Goals as goal

pub same_text-requires : goal.same_text-requires
same_text-requires c = strings_inside c.args.text.now _ _ _ _ c.in-String.is c.requires _ _ c.in-String-b.is

pub same_text-requires-in-FunctionReference-b : goal.same_text-requires-in-FunctionReference-b
same_text-requires-in-FunctionReference-b c = references_inside c.args.text.now _ _ _ _ c.in-FunctionReference.is c.requires _ _ c.in-FunctionReference-b.is

pub returns-in-Scalar-b : goal.returns-in-Scalar-b
returns-in-Scalar-b c = search (rules, scalars)

pub returns-in_default : goal.returns-in_default
returns-in_default c = search (rules, scalar_other)

pub returns-in-Boolean-b : goal.returns-in-Boolean-b
returns-in-Boolean-b c = search (rules, booleans)

pub returns-in_default-b : goal.returns-in_default-b
returns-in_default-b c = search (rules, boolean_other)

pub returns-in-String-b : goal.returns-in-String-b
returns-in-String-b c = search (rules, strings)

pub returns-in_default-b-2 : goal.returns-in_default-b-2
returns-in_default-b-2 c = search (rules, string_other)

pub returns-in-FunctionReference-b : goal.returns-in-FunctionReference-b
returns-in-FunctionReference-b c = search (rules, references)

pub returns-in_default-b-3 : goal.returns-in_default-b-3
returns-in_default-b-3 c = search (rules, reference_other)

pub returns-in-List-b : goal.returns-in-List-b
returns-in-List-b c = search (rules, two_lists)

pub returns-in_default-b-4 : goal.returns-in_default-b-4
returns-in_default-b-4 c = search (rules, list_other)

pub returns-in-StructInstance-b : goal.returns-in-StructInstance-b
returns-in-StructInstance-b c = search (rules, two_structs)

pub returns-in_default-b-5 : goal.returns-in_default-b-5
returns-in_default-b-5 c = search (rules, struct_other)
