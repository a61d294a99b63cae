-- Demand 4: no second answer fits.
use Rattle.std.specs.Prelude.{◌≡◌, Result}
use Rattle.model.specs.declared.Vm.{Vm}
use Rattle.model.specs.Machines.{Lent}
use Rattle.demands.specs.Host.{vm_after}
use Rattle.demands.specs.Agree.{LentAlike}
use Rattle.model.specs.declared.Halt.{Halt}
use Rattle.model.specs.declared.Refusal.{Refusal}

-- of two outcomes of one call of a run of m: the same result, whole; the same copy and backtrace store, whole; stack, cells and frames the same below the counts.
-- What is left open: slots of stack, cells and frames past the counts.
pub record SameRun (m : Vm) (r q : Result Halt Refusal) (l k : Lent) : Type 0 where
  pub result : r ≡ q
  pub copy : l.copy ≡ k.copy
  pub backtrace : l.backtrace ≡ k.backtrace
  pub lent : LentAlike (vm_after m r) l k
