-- `put_listed`: a line ends with its newline.
use native.Mathlib.Omega.{arith}
use lib.ListN.{get_or}
use Rattle.notes_lines.proofs.Named.{at_most_3}
use Rattle.notes_lines.proofs.Whole.{newline_there, listed_is}
use borrow.Author.Rules.{rules}
use Rattle.notes_lines.proofs.put_listed.Goals as goal

pub write_line-behind-requires : goal.write_line-behind-requires
write_line-behind-requires c =
    let code = c.args.code.now in
    let i = c.args.i in
    let few = at_most_3 (get_or code i 0) (omega (arith, c.shared_slice_known-1.given i)) in
    (omega arith, omega arith, omega arith)

pub overflow_sub-result : goal.overflow_sub-result
overflow_sub-result c = search (rules, newline_there)

pub returns : goal.returns
returns c = listed_is _ _ c.write_line-behind.ensures (omega (arith, c.shared_slice_known-1.given c.args.i))
