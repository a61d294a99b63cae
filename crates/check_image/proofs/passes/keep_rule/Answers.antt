-- `keep_rule`: a function a turn.
use borrow.Author.Rules.{rules}
use Rattle.check_image.proofs.Judged.{first_look, all_keep, code_fits, broken_by_one, kept_by_one}
use Rattle.check_image.proofs.Findings.{stops_here, goes_on_lem}
use Rattle.check_image.proofs.passes.keep_rule.Goals as goal

pub loop-f-init : goal.loop-f-init
loop-f-init g c = first_look _ _ _ _

pub keeps-requires : goal.keeps-requires
keeps-requires g c =
    c.requires.callable _ _ _ (code_fits c.loop-f.invariant c.loop-f-test.true c.code_at-c.ensures c.requires.ready c.requires.room)

pub returns-then-not-keeps : goal.returns-then-not-keeps
returns-then-not-keeps g c =
    let k = c.requires.meaning _ _ _ _ _ c.keeps.ensures in
    let low = broken_by_one c.loop-f.invariant c.loop-f-test.true c.code_at-c.ensures k c.requires.ready (search rules) in
    stops_here _ _ c.requires.ready _ c.requires.earlier low c.loop-f-test.true

pub loop-f-preserved : goal.loop-f-preserved
loop-f-preserved g c =
    let k = c.requires.meaning _ _ _ _ _ c.keeps.ensures in
    kept_by_one c.loop-f.invariant c.loop-f-test.true c.code_at-c.ensures k (search rules) c.keeps.auto.arg4

pub returns : goal.returns
returns g c =
    goes_on_lem _ _ c.requires.ready _ c.requires.earlier (all_keep c.loop-f.invariant c.requires.ready c.loop-f-test.false)
