-- `chaffwheel_set_strict`: what is no record is refused, else the setting is changed in the record's machine.
use Rattle.std.proofs.Common.{[]}
use Rattle.model.specs.declared.Vm.{Vm}
use Rattle.model.specs.Machines.{set_strict}
use Rattle.run_ends.specs.Links.{program_lent}
use Rattle.machine.specs.Links.{run_lent}
use Rattle.embed.proofs.Through.{change_through, change_refused}
use Rattle.embed.proofs.chaffwheel_set_strict.Goals as goal

pub returns-then-good : goal.returns-then-good
returns-then-good c =
    λ trace. change_through
    (λ (m : Vm). set_strict c.args.strict m
    (program_lent c.args.structs.now c.args.constants.now c.args.functions.now c.args.text.now
    c.args.main.now c.args.main_places.now c.args.other.now c.args.other_places.now)
    (run_lent c.args.stack.now c.args.cells.now c.args.frames.now c.args.copy.now trace)) _ _ c.record_ok-good.ensures
    c.if-good.true _ c.vm_of-m.ensures _ (c.set_strict-changed.ensures trace) _ (c.tell_changed.ensures [])

pub returns : goal.returns
returns c =
    λ trace. change_refused
    (λ (m : Vm). set_strict c.args.strict m
    (program_lent c.args.structs.now c.args.constants.now c.args.functions.now c.args.text.now
    c.args.main.now c.args.main_places.now c.args.other.now c.args.other_places.now)
    (run_lent c.args.stack.now c.args.cells.now c.args.frames.now c.args.copy.now trace)) _ _ c.record_ok-good.ensures
    c.if-good.false
