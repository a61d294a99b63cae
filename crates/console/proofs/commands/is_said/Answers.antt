use borrow.Author.Tests.{eq-eqb, ne_eqb}
use Rattle.console.specs.Asks.{is_said}
use Rattle.console.proofs.commands.is_said.Goals as goal

pub returns-then-what-eq0 : goal.returns-then-what-eq0
unfolding is_said
returns-then-what-eq0 c = rw (eq-eqb _ _ c.if-what-eq0.true)

pub returns : goal.returns
unfolding is_said
returns c = rw (ne_eqb _ _ c.if-what-eq0.false)
