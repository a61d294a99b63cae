-- Changing the setting: the machine is as it was but for that, and good order does not ask about it.
use Rattle.std.specs.Prelude.{if◌then◌else◌, Err, Ok, Result}
use mathlib.Core.Path.{◌≡◌, refl}
use mathlib.Core.Bool.{Bool}
use Rattle.model.specs.declared.Vm.{Vm}
use Rattle.model.specs.Stores.{Stores}
use Rattle.model.specs.Machines.{Lent, machine_order, under_order, part_order, run_order, set_strict}
use Rattle.model.specs.declared.Refusal.{Refusal}
use Rattle.model.specs.declared.Refusal.TheVariants as why

abbrev pub strictly : Bool → Vm → Vm
strictly b m = record { program = m.program; stack = m.stack; frames = m.frames; cells = m.cells; last = m.last; run = m.run; strict = b }

-- what is answered, by what is judged
abbrev pub set_by : (strict inOrder running : Bool) → Vm → Result Vm Refusal
set_by b inOrder running m = if inOrder then (if running then Err why.RunUnderWay else Ok (strictly b m)) else Err why.NotInOrder

module _ (b : Bool) (m : Vm) where
  pub set_is : (s : Stores) (l : Lent) → set_strict b m s l ≡ set_by b (run_order m s l) m.run.on m
  unfolding set_strict
  set_is s l = refl

  pub order_strictly : (s : Stores) (l : Lent) → run_order (strictly b m) s l ≡ run_order m s l
  unfolding run_order machine_order part_order under_order
  order_strictly s l = refl
