-- `image_judge::read_run` meets its contract.
use Rattle.image_judge.proofs.Runs.{run_none, run_zero, run_long, run_no_place, run_again, run_read}
use Rattle.std.proofs.Common.{rules}
use Rattle.image_judge.proofs.read_run.Goals as goal

pub returns-in_default : goal.returns-in_default
returns-in_default c = search (rules, run_none)

pub returns-then-bytes-eq0 : goal.returns-then-bytes-eq0
returns-then-bytes-eq0 c = search (rules, run_zero)

pub returns-then-left-bytes : goal.returns-then-left-bytes
returns-then-left-bytes c = search (rules, run_long)

pub returns-in_default-read_number : goal.returns-in_default-read_number
returns-in_default-read_number c = search (rules, run_no_place)

pub returns-then-before-wide : goal.returns-then-before-wide
returns-then-before-wide c = search (rules, run_again)

pub returns : goal.returns
returns c = search (rules, run_read)
