-- The stores of a program as one value.
use Rattle.model.specs.Stores.{Stores, stores_of}
use Rattle.console_script.specs.declared.stores.Program.{Program}

abbrev pub stored : Program → Stores
stored p = stores_of p.constants p.structs p.functions p.text p.main p.main_places p.other p.other_places
