-- `header_at`: a header, a value, or no cell.
use mathlib.Core.Path.{sym, ◌∙◌}
use borrow.Author.Rules.{rules}
use Rattle.report_lines.proofs.Pieces.{past_cells, header_there, no_header}
use Rattle.report_lines.proofs.values.header_at.Goals as goal

pub returns-then-is_header : goal.returns-then-is_header
returns-then-is_header c =
    header_there _ _ _ c.if-p-used.true _ c.read_header.ensures
    (sym c.is_header.ensures ∙ c.if-is_header.true)

pub returns : goal.returns
returns c = search (rules, past_cells, no_header)
