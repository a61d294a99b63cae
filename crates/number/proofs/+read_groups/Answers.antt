-- `read_groups`: each way through it answers as the rule does.
use Rattle.std.proofs.Common.{arith, ◌<◌, ◌^◌}
use Rattle.number.proofs.Reading.{no_byte, end_small, end_large, last, broken, padded, joined, fits}
use Rattle.number.proofs.+read_groups.Goals as goal

pub returns-then-src-at : goal.returns-then-src-at
returns-then-src-at t c = no_byte _ _ _ c.if-src-at.true

pub returns-then-x-lt16 : goal.returns-then-x-lt16
returns-then-x-lt16 t c = end_small _ _ _ c.if-src-at.false _ c.from-x.ensures c.if-left-eq0.true c.if-x-lt16.true

pub returns-then-left-eq0 : goal.returns-then-left-eq0
returns-then-left-eq0 t c = end_large _ _ _ c.if-src-at.false _ c.from-x.ensures c.if-left-eq0.true c.if-x-lt16.false

pub returns-then-x-lt128 : goal.returns-then-x-lt128
returns-then-x-lt128 t c = last _ _ _ c.if-src-at.false _ c.from-x.ensures c.if-left-eq0.false c.if-x-lt128.true

pub returns-in_default : goal.returns-in_default
returns-in_default t c =
    broken _ _ _ c.if-src-at.false _ c.from-x.ensures c.if-left-eq0.false c.if-x-lt128.false _ c.read_groups-others.ensures c.in_default.is

-- a group in front of others, which the sum's bounds use too
pub returns-then-rest-gt0 : goal.returns-then-rest-gt0
returns-then-rest-gt0 t c =
    joined _ _ _ c.if-src-at.false _ c.from-x.ensures c.if-left-eq0.false c.if-x-lt128.false _ c.read_groups-others.ensures _ _ c.in-Some.is
    (omega (arith, c.type_inv.src c.args.at)) c.if-rest-gt0.true

pub overflow_mul-result : goal.overflow_mul-result
overflow_mul-result t c = let h : _ < 2 ^ 32 = fits _ _ _ _ _ c.requires (returns-then-rest-gt0 t c) in omega arith

pub overflow_add-result : goal.overflow_add-result
overflow_add-result t c = let h : _ < 2 ^ 32 = fits _ _ _ _ _ c.requires (returns-then-rest-gt0 t c) in omega arith

pub returns : goal.returns
returns t c =
    padded _ _ _ c.if-src-at.false _ c.from-x.ensures c.if-left-eq0.false c.if-x-lt128.false _ c.read_groups-others.ensures _ _ c.in-Some.is c.if-rest-gt0.false
