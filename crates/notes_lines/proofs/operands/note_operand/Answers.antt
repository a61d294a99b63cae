-- `note_operand`: by what it names.
use Rattle.model.specs.Basics.{ascii}
use Rattle.notes_lines.proofs.Named.{names_constant, names_function, names_struct, names_offset, names_none}
use borrow.Author.Rules.{rules}
use Rattle.notes_lines.proofs.operands.note_operand.Goals as goal

pub returns-in-Constant : goal.returns-in-Constant
returns-in-Constant c = search (rules, names_constant)

pub returns-in-Function : goal.returns-in-Function
unfolding ascii
returns-in-Function c = search (rules, names_function)

pub returns-in-Struct : goal.returns-in-Struct
unfolding ascii
returns-in-Struct c = search (rules, names_struct)

pub returns-in-Offset : goal.returns-in-Offset
returns-in-Offset c = search (rules, names_offset)

pub returns-in-Slot : goal.returns-in-Slot
returns-in-Slot c = search (rules, names_none)
