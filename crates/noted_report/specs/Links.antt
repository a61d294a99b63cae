-- What of an answer of loading can be listed with notes.
use Rattle.std.specs.Prelude.{◌≡◌, true, Err, Ok, Result}
use Rattle.model.specs.Stores.{Stores}
use Rattle.model.specs.Orders.{program_ok}
use Rattle.model.specs.declared.Counts.{Counts}
use Rattle.model.specs.declared.Refusal.{Refusal}

-- a program that was loaded is in good order
abbrev pub Notable : Result Counts Refusal → Stores → Type 0
Notable (Ok c) s = program_ok c s ≡ true
Notable (Err e) s = Unit
