-- `code_at`: the head, and the runs behind the code.
use native.Mathlib.Omega.{arith}
use borrow.Author.Rules.{rules}
use Rattle.image_judge.proofs.Functions.{head_is}
use Rattle.image_codes.proofs.Places.{no_head, no_runs, function_found}
use Rattle.image_codes.proofs.code_at.Goals as goal

pub returns-in_default : goal.returns-in_default
returns-in_default c = search (rules, no_head)

pub overflow_add-from : goal.overflow_add-from
overflow_add-from c =
    let inside = (head_is _ _ _ _ c.read_head.ensures _ c.in-Ok.is).code in
    omega arith

pub check_runs-requires : goal.check_runs-requires
check_runs-requires c = (head_is _ _ _ _ c.read_head.ensures _ c.in-Ok.is).code

pub returns-in_default-check_runs : goal.returns-in_default-check_runs
returns-in_default-check_runs c =
    no_runs _ _ _ c.requires _ c.read_head.ensures _ c.in-Ok.is _
    c.check_runs.ensures c.in_default-check_runs.is

pub returns : goal.returns
returns c =
    function_found _ _ _ c.requires _ c.read_head.ensures _ c.in-Ok.is _
    c.check_runs.ensures c.in-Ok-check_runs.is
