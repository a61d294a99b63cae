-- `image_judge::check_structs` meets its contract.
use Rattle.image_judge.proofs.Passes.{counted_at, names_start, names_none, names_end, names_bad, names_seen, names_step}
use Rattle.std.proofs.Common.{rules}
use Rattle.image_judge.proofs.check_structs.Goals as goal

pub returns-in_default : goal.returns-in_default
returns-in_default c = search (rules, names_none)

pub loop-i-init : goal.loop-i-init
loop-i-init c =
    names_start _ _ _ _
    (counted_at _ _ _ c.read_number.ensures _ _ _ c.in-Some.is c.wide-count.ensures).within

pub returns-in_default-read_text : goal.returns-in_default-read_text
returns-in_default-read_text c = search (rules, names_bad, counted_at)

pub returns-then-i-repeat : goal.returns-then-i-repeat
returns-then-i-repeat c =
    names_seen _ _ _ _
    (counted_at _ _ _ c.read_number.ensures _ _ _ c.in-Some.is c.wide-count.ensures) _ _
    c.rows-whole.ensures c.first_repeat-repeat.ensures _ _ _ c.loop-i.invariant c.loop-i-test.true
    _ c.read_text.ensures _ _ c.in-Some-read_text.is c.if-i-repeat.true

pub loop-i-preserved : goal.loop-i-preserved
loop-i-preserved c =
    names_step _ _ _ _
    (counted_at _ _ _ c.read_number.ensures _ _ _ c.in-Some.is c.wide-count.ensures) _ _
    c.rows-whole.ensures c.first_repeat-repeat.ensures _ _ _ c.loop-i.invariant c.loop-i-test.true
    _ c.read_text.ensures _ _ c.in-Some-read_text.is c.if-i-repeat.false

pub returns : goal.returns
returns c = search (rules, names_end, counted_at)
