-- The lines of a script: behind a line fewer are left.
use Rattle.std.specs.Prelude.{Some}
use Prim.Native.Nat.{ℕ, ◌+◌, ◌<◌}
use mathlib.Core.List.{List}
use native.Mathlib.Omega.{arith}
use lib.ListN.{length}
use lib.Dec.{eqb, leb}
use borrow.Author.Tests.{eqb-false}
use Rattle.layout.proofs.Bools.{either_way}
use Rattle.console_script.specs.declared.Line.{Line}
use Rattle.console_script.specs.Lines.{lines_left}
use Rattle.console_script.specs.Words.{next_line}

-- what is left of a script falls from line to line
pub fewer_left : (s : List ℕ) (l : Line) → lines_left (next_line s l) < lines_left (Some l)
unfolding lines_left next_line
fewer_left s l =
    either_way (eqb l.left 0) (λ e. rw e (omega arith))
    (λ e. either_way (leb (length s) l.end) (λ f. rw (e, f) (omega arith))
    (λ f. either_way (leb (length s) (l.end + 1)) (λ g. rw (e, f, g) (omega arith)) (λ g. rw (e, f, g) (omega (arith, eqb-false l.left 0 e)))))
