-- `run_steps::byte_at` meets its contract: past the code there is no byte.
use mathlib.Core.Path.{sym}
use native.Mathlib.Omega.{arith}
use lib.ListN.{get_or-eq_default}
use Rattle.run_steps.proofs.byte_at.Goals as goal

pub returns : goal.returns
returns c = sym (get_or-eq_default c.args.code.now _ {n = c.args.i} (omega arith))
