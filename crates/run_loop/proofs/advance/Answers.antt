-- `advance`: the steps inside the function whose code is found by the test.
use borrow.Author.Rules.{rules}
use Rattle.run_loop.proofs.Turning.{in_main, in_other, coded_as, taken_count}
use Rattle.run_loop.proofs.advance.Goals as goal

pub slice_bounds-taken-end : goal.slice_bounds-taken-end
slice_bounds-taken-end c = search (rules, taken_count)

pub exec-requires : goal.exec-requires
exec-requires c = (
  c.requires.0.0,
  c.requires.0.1,
  coded_as (in_main _ _ _ _ c.second-word.ensures c.if-i-eq0.true c.part-code.ensures)
      c.requires.0.2,
)

pub returns-then-i-eq0 : goal.returns-then-i-eq0
returns-then-i-eq0 c =
    λ w ar at. c.exec.ensures w ar
    (coded_as (in_main _ _ _ _ c.second-word.ensures c.if-i-eq0.true c.part-code.ensures) at)

pub exec-requires-2 : goal.exec-requires-2
exec-requires-2 c = (
  c.requires.0.0,
  c.requires.0.1,
  coded_as (in_other _ _ _ _ c.second-word.ensures c.if-i-eq0.false c.part-code-2.ensures)
      c.requires.0.2,
)

pub returns : goal.returns
returns c =
    λ w ar at. c.exec-2.ensures w ar
    (coded_as (in_other _ _ _ _ c.second-word.ensures c.if-i-eq0.false c.part-code-2.ensures) at)
