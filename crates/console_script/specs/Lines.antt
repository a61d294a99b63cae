-- How many lines of a script there can still be: none where there is no next one.
use Rattle.std.specs.Prelude.{ℕ, suc, Option, Some, None}
use Rattle.console_script.specs.declared.Line.{Line}

unfoldable pub lines_left : Option Line → ℕ
lines_left None = 0
lines_left (Some l) = suc l.left
