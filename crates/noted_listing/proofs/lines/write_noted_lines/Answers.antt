-- `write_noted_lines`: an instruction a turn.
use native.Mathlib.Omega.{arith}
use borrow.Author.Rules.{rules}
use Rattle.printing.proofs.Puts.{kept}
use Rattle.listing.proofs.Turns.{first_turn, last_turn, unknown, cut_short, next_turn, whole_instruction}
use Rattle.noted_listing.proofs.Lent.{line_takes}
use Rattle.noted_listing.proofs.lines.write_noted_lines.Goals as goal

pub loop-i-init : goal.loop-i-init
loop-i-init c = first_turn _ _ _ _ _

pub enum_told-1 : goal.enum_told-1
enum_told-1 c = (search rules)

pub shape_of-out-in-Unknown : goal.shape_of-out-in-Unknown
shape_of-out-in-Unknown c = search (rules, kept)

pub returns-in-Unknown : goal.returns-in-Unknown
returns-in-Unknown c = search (rules, unknown)

pub shape_of-out-then-left-n : goal.shape_of-out-then-left-n
shape_of-out-then-left-n c = search (rules, kept)

pub returns-then-left-n : goal.returns-then-left-n
returns-then-left-n c = search (rules, cut_short)

pub write_noted_line-next-requires : goal.write_noted_line-next-requires
write_noted_line-next-requires c =
    let count = c.operands-n.ensures in
    let reads =
    whole_instruction c.args.code.now c.loop-i.i count in
    (omega arith, omega arith, omega arith, omega arith)

pub loop-i-preserved : goal.loop-i-preserved
loop-i-preserved c =
    next_turn c.loop-i.invariant c.loop-i-test.true _ c.decode.ensures (search rules) _
    c.operands-n.ensures c.if-left-n.false c.write_noted_line-next.ensures (line_takes _)

pub shape_of-out : goal.shape_of-out
shape_of-out c = kept c.loop-i.invariant.so_far.put

pub returns : goal.returns
returns c = last_turn c.loop-i.invariant c.loop-i-test.false
