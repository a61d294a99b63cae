-- `first_names`: at all numbers of an arm the table has the arm's kind.
use Rattle.std.proofs.Common.{List, [], ◌∷◌, ℕ, arith}
use Rattle.model.specs.Basics.{ascii}
use Rattle.model.specs.Opcodes.{opcodes, opcode_at}
use Rattle.opcode.proofs.Counts.{in_range_lem}
use Rattle.opcode.proofs.Naming.{named, names_it}
use Rattle.opcode.proofs.first_names.Goals as goal

-- the arms with keys, the last first
abbrev arms : List (List ℕ)
arms = (35 ∷ []) ∷ (34 ∷ []) ∷ (31 ∷ 36 ∷ []) ∷ (28 ∷ []) ∷ (0 ∷ []) ∷ []

pub returns-in-26 : goal.returns-in-26
unfolding ascii opcodes opcode_at
returns-in-26 c = names_it 6 (in_range_lem (named 0) arms 26 2 tt _ c.in-26.in_default-own.rest (omega arith) (omega arith))

pub returns-in_default-2 : goal.returns-in_default-2
unfolding ascii opcodes opcode_at
returns-in_default-2 c = names_it 7 (in_range_lem (named 0) arms 5 21 tt _ c.in_default.in_default-own.rest (omega arith) (omega arith))

pub returns-in_default-3 : goal.returns-in_default-3
unfolding ascii opcodes opcode_at
returns-in_default-3 c = names_it 7 (in_range_lem (named 0) arms 28 228 tt _ c.in_default.in_default-own.rest (omega arith) (omega arith))
