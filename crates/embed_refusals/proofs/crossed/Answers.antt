-- `embed_refusals::crossed` meets its contract.
use Rattle.std.proofs.Common.{rules}
use Rattle.embed_words.specs.Coding.{crossed}
use Rattle.embed_refusals.proofs.Refusals.{among_is}
use Rattle.embed_refusals.proofs.crossed.Goals as goal
use Rattle.embed_refusals.proofs.crossed.Goals.{else-why-eq17-via-then-why-eq17+else-contains, else-why-eq17-via-else-why-eq17}

pub returns-then-contains : goal.returns-then-contains
unfolding crossed
returns-then-contains c = let first = among_is c.args.firsts.now c.args.own c.contains.ensures.value in search rules

pub returns : goal.returns
unfolding crossed
returns c =
    elim c.else-why-eq17.branch [
      | else-why-eq17-via-then-why-eq17+else-contains w ↦ let late = among_is c.args.firsts.now c.args.own w.contains.ensures.value in search rules
      | else-why-eq17-via-else-why-eq17 w ↦ search rules
    ]
