-- `keep_links`: rules 4 and 5.
use borrow.Author.Rules.{rules}
use mathlib.Core.Path.{ap, ◌∙◌}
use Prim.Native.Nat.{ℕ}
use native.Mathlib.Omega.{arith}
use lib.ListN.{length, length-replicate}
use Rattle.check_rules.specs.Rules.{rule_number}
use Rattle.check_image.proofs.Judged.{few_functions, jumps_tell}
use Rattle.check_image.proofs.Findings.{counts_stop, counts_go_on, links_told}
use Rattle.check_image.proofs.passes.keep_links.Goals as goal

pub lowest_count-differing-requires : goal.lowest_count-differing-requires
lowest_count-differing-requires c =
    let few = few_functions c.requires.0 in
    let room = c.tally_all.auto.counts ∙ ap length c.requires.2 ∙ length-replicate {A = ℕ} 65536 0 in
    omega arith

pub returns-then-differing-z : goal.returns-then-differing-z
returns-then-differing-z c = search (rules, counts_stop)

pub keep_rule-requires-clause-earlier : goal.keep_rule-requires-clause-earlier
unfolding rule_number
keep_rule-requires-clause-earlier c =
    counts_go_on _ _ c.requires.0 c.requires.1 c.tally_all.ensures c.lowest_count-differing.ensures c.if-differing-z.false

pub keep_rule-requires-clause-meaning : goal.keep_rule-requires-clause-meaning
keep_rule-requires-clause-meaning c = λ main code marks b after k. jumps_tell _ _ _ _ k

pub returns : goal.returns
unfolding rule_number
returns c =
    links_told _ _ c.requires.0 c.requires.1 c.tally_all.ensures c.lowest_count-differing.ensures c.if-differing-z.false
    c.keep_rule.ensures (c.tally_all.auto.counts ∙ ap length c.requires.2 ∙ length-replicate {A = ℕ} 65536 0)
