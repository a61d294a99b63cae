-- `frames::backtrace::traceable` meets its contract.
use Rattle.std.proofs.Common.{rules, ◌≡◌, ◌∙◌, sym, take, true, false}
use Rattle.std.proofs.lemmas.Iterator.{cases_from_all, YieldsList-from_slice}
use Rattle.frames.specs.Links.{trace_good, inside_good}
use Rattle.frames.proofs.Traces.{judged_callers}
use Rattle.frames.proofs.backtrace.traceable.Goals as goal

pub returns-then-inside_ok : goal.returns-then-inside_ok
unfolding trace_good
returns-then-inside_ok c =
    rw (sym c.inside_ok.ensures ∙ c.if-inside_ok.true) (
    judged_callers _ _ c.args.callers _ c.requires (
    cases_from_all _ _ _ (λ f. inside_good c.args.functions.now f ≡ true) (λ f. inside_good c.args.functions.now f ≡ false) c.all.ensures.ran
    (YieldsList-from_slice (take c.args.callers c.args.frames.now) cc) (λ x q k. search rules) (λ x q k. search rules)
    )
    )

pub returns-else-inside_ok : goal.returns-else-inside_ok
unfolding trace_good
returns-else-inside_ok c = rw c.inside_ok.ensures (rw (sym c.inside_ok.ensures ∙ c.if-inside_ok.false))
