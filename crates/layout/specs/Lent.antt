-- The stores of a program that a host lends.
use Rattle.std.specs.Prelude.{List, ℕ}
use Rattle.model.specs.Stores.{Stores}
use Rattle.layout.specs.declared.lent.ProgramStores.{ProgramStores}

-- a program's stores
unfoldable pub program_lent : (structs constants functions text main main_places other other_places : List ℕ) → Stores
program_lent ss cs fs t m mp o op = record {
  constants = cs;
  structs = ss;
  functions = fs;
  text = t;
  main = m;
  main_places = mp;
  other = o;
  other_places = op;
}

-- what the lent stores hold
abbrev pub stores_in : ProgramStores → Stores
stores_in p = program_lent p.structs.now p.constants.now p.functions.now p.text.now p.main.now p.main_places.now p.other.now p.other_places.now
