use Rattle.std.proofs.Common.{◌≡◌, not, arith, sym, ap, ◌∙◌}
use borrow.Author.Tests.{eq-eqb, ne_eqb}
use Rattle.console_script.specs.Words.{next_word}
use Rattle.console_script.proofs.Nexts.{next_on, next_here, next_end}
use Rattle.console_script.proofs.next_word.Goals as goal

pub returns-then-s-i-ne32 : goal.returns-then-s-i-ne32
unfolding next_word
returns-then-s-i-ne32 c = next_here _ _ _ c.loop-i-test.true (ap not (ne_eqb _ _ c.if-s-i-ne32.true)) ∙ sym c.loop-i.invariant.0

pub loop-i-preserved : goal.loop-i-preserved
unfolding next_word
loop-i-preserved c = (
  c.loop-i.invariant.0 ∙ next_on _ _ _ c.loop-i-test.true (ap not (eq-eqb _ _ c.if-s-i-ne32.false)),
  omega arith,
)

pub returns : goal.returns
unfolding next_word
returns c =
    let e : c.max.result ≡ c.loop-i.i = omega arith in
    rw e (next_end _ _ _ c.loop-i-test.false ∙ sym c.loop-i.invariant.0)
