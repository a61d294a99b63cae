-- [listing], [step] What a listing and a step say of the walk over instructions.
use Rattle.std.specs.Prelude.{List, [], ◌∷◌, ◌++◌, ℕ, suc, ◌+◌}
use Rattle.model.specs.declared.Op.{Op}
use Rattle.model.specs.Images.{joined}
use Rattle.model.specs.Programs.{Function, word_at, next_in, stands}
use Rattle.model.specs.Listings.{line_of, header_line}
use Rattle.model.specs.Steps.{World, State, Outcome, at, position, paid, code_of, exec_of}

-- one line for each position where the walk stands, in the walk's order
unfoldable pub shown_code : List ℕ → List ℕ
shown_code code = joined (line_of code) (stands code)

-- each function under its header
unfoldable pub shown_from : ℕ → List Function → List ℕ
shown_from i [] = []
shown_from i (f ∷ fs) = header_line i f.name ++ (shown_code f.code ++ shown_from (suc i) fs)

-- a step of the carried opcode p: for one unit, with its operands, and standing where the walk stands next
unfoldable pub walked : World → Op → State → Outcome
walked w p s =
    exec_of w p (word_at (code_of w s) (suc (position s))) (word_at (code_of w s) (suc (position s) + 2))
    (at (next_in (code_of w s) (position s)) (paid 1 s))
