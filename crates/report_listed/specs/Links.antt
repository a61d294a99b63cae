-- What can be listed.
use Rattle.std.specs.Prelude.{◌≡◌, true, Err, Ok, Result}
use Rattle.model.specs.Stores.{Stores}
use Rattle.model.specs.Loading.{list_order}
use Rattle.model.specs.declared.Counts.{Counts}
use Rattle.model.specs.declared.Refusal.{Refusal}

-- a program that was loaded can be listed
abbrev pub Listable : Result Counts Refusal → Stores → Type 0
Listable (Ok c) s = list_order c s ≡ true
Listable (Err e) s = Unit
