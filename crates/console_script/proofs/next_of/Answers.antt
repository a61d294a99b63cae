use Rattle.std.proofs.Common.{◌≡◌, arith, sym, ◌∙◌}
use borrow.Author.Tests.{eq-eqb, ne_eqb}
use Rattle.console_script.specs.Words.{next_of}
use Rattle.console_script.proofs.Nexts.{next_on, next_here, next_end}
use Rattle.console_script.proofs.next_of.Goals as goal

pub returns-then-s-i : goal.returns-then-s-i
unfolding next_of
returns-then-s-i c = next_here _ _ _ c.loop-i-test.true (eq-eqb _ _ c.if-s-i.true) ∙ sym c.loop-i.invariant.0

pub loop-i-preserved : goal.loop-i-preserved
unfolding next_of
loop-i-preserved c = (
  c.loop-i.invariant.0 ∙ next_on _ _ _ c.loop-i-test.true (ne_eqb _ _ c.if-s-i.false),
  omega arith,
)

pub returns : goal.returns
unfolding next_of
returns c =
    let e : c.max.result ≡ c.loop-i.i = omega arith in
    rw e (next_end _ _ _ c.loop-i-test.false ∙ sym c.loop-i.invariant.0)
