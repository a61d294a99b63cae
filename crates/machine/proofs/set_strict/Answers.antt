-- `machine::set_strict` meets its contract.
use Rattle.model.specs.Machines.{set_strict}
use Rattle.run_ends.specs.Links.{set_by}
use Rattle.machine.proofs.set_strict.Goals as goal

pub returns : goal.returns
unfolding set_strict set_by
returns c = λ backtrace. rw (← c.order-good.ensures backtrace) c.set_to.ensures
