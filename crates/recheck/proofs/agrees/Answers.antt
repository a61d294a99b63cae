-- `recheck::agrees`: the facts fit, and are compared.
use native.Mathlib.Omega.{arith}
use Rattle.recheck.proofs.Parts.{facts_length, facts_agree}
use Rattle.recheck.proofs.agrees.Goals as goal

pub slice_bounds-same_bytes-end : goal.slice_bounds-same_bytes-end
slice_bounds-same_bytes-end c = facts_length c.check_facts-n.ensures (omega arith)

pub returns : goal.returns
returns c = facts_agree c.check_facts-n.ensures (omega arith) _ _ c.same_bytes.ensures
