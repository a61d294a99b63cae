-- `put_function`: the name, where the rule is broken, and the two Calls.
use mathlib.Core.Path.{◌∙◌}
use Rattle.model.specs.Basics.{ascii}
use Rattle.check_report.proofs.Saying.{code_fits, function_none, function_put}
use borrow.Author.Rules.{rules}
use Rattle.check_report.proofs.details.put_function.Goals as goal

pub first_place-i-requires : goal.first_place-i-requires
first_place-i-requires c =
    code_fits c.args.c c.args.functions.now c.args.text.now _ _ c.args.f
    c.code_of-code.ensures c.requires.0 c.requires.1

pub shape_of-out-then-f-c : goal.shape_of-out-then-f-c
shape_of-out-then-f-c c =
    c.put_counts.auto.out ∙ c.put_place-place.auto.out ∙
    c.put_text-close.auto.out ∙ c.put_name_at-name.auto.out ∙ c.put_text-open.auto.out

pub returns-then-f-c : goal.returns-then-f-c
unfolding ascii
returns-then-f-c c =
    function_put _ _ _ _ _ _ c.if-f-c.true c.code_of-code.ensures c.first_place-i.ensures
    c.put_text-open.ensures c.put_name_at-name.ensures c.put_text-close.ensures
    c.put_place-place.ensures c.put_counts.ensures

pub returns : goal.returns
returns c = search (rules, function_none)
