-- `write_lines`: an instruction a turn.
use native.Mathlib.Omega.{arith}
use borrow.Author.Rules.{rules}
use Rattle.printing.proofs.Puts.{kept}
use Rattle.listing.proofs.Turns.{first_turn, last_turn, unknown, cut_short, next_turn, line_takes, whole_instruction}
use Rattle.listing.proofs.lines.write_lines.Goals as goal

pub loop-i-init : goal.loop-i-init
loop-i-init c = first_turn _ _ _ _ _

pub shape_of-out-in-Unknown : goal.shape_of-out-in-Unknown
shape_of-out-in-Unknown c = search (rules, kept)

pub returns-in-Unknown : goal.returns-in-Unknown
returns-in-Unknown c = search (rules, unknown)

pub shape_of-out-then-left-n : goal.shape_of-out-then-left-n
shape_of-out-then-left-n c = search (rules, kept)

pub returns-then-left-n : goal.returns-then-left-n
returns-then-left-n c = cut_short c.loop-i.invariant c.loop-i-test.true _ c.decode.ensures c.in_default.not-Unknown _ c.operands-n.ensures c.if-left-n.true

pub write_line-next-requires : goal.write_line-next-requires
write_line-next-requires c =
    let reads =
    whole_instruction c.args.code.now c.loop-i.i c.operands-n.ensures in
    (omega arith, omega arith, omega arith)

pub loop-i-preserved : goal.loop-i-preserved
loop-i-preserved c =
    next_turn c.loop-i.invariant c.loop-i-test.true _ c.decode.ensures c.in_default.not-Unknown _
    c.operands-n.ensures c.if-left-n.false c.write_line-next.ensures
    (line_takes _ _ c.operands-n.ensures)

pub shape_of-out : goal.shape_of-out
shape_of-out c = kept c.loop-i.invariant.so_far.put

pub returns : goal.returns
returns c = last_turn c.loop-i.invariant c.loop-i-test.false
