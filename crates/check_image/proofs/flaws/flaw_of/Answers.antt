-- `flaw_of`: rules 4, 1 and 5, and then the heights.
use Rattle.check_image.specs.Flaws.{counts_differ}
use Rattle.check_image.proofs.Seeking.{cut_code, astray, may_be_asked, it_answers}
use borrow.Author.Rules.{rules}
use Rattle.check_image.proofs.flaws.flaw_of.Goals as goal

pub returns-then-entry-eq1 : goal.returns-then-entry-eq1
returns-then-entry-eq1 c = search (rules, counts_differ)

pub returns-then-not-whole : goal.returns-then-not-whole
returns-then-not-whole c = search (rules, cut_code)

pub returns-then-not-jumps : goal.returns-then-not-jumps
returns-then-not-jumps c = search (rules, astray)

pub flaw_in-requires : goal.flaw_in-requires
flaw_in-requires c =
    may_be_asked c.args.table.now _ c.whole.ensures (search rules) c.jumps.ensures
    (search rules) c.requires.0 c.requires.1 c.requires.2 c.taken_with.ensures
    c.jumps.auto.marks

pub returns : goal.returns
returns c = it_answers c.if-entry-eq1.false c.taken_with.ensures c.flaw_in.ensures
