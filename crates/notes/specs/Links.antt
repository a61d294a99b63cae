-- What is known from the stores that the notes are lent, and all stores of a program.
use Rattle.std.specs.Prelude.{List, ℕ}
use Rattle.model.specs.declared.Counts.{Counts}
use Rattle.model.specs.Stores.{Stores, constants_from, structs_from}
use Rattle.layout.specs.declared.lent.ProgramStores.{ProgramStores}
use Rattle.notes.specs.Notes.{Known}

-- constants, structs and functions with their text; a function's name lies in its store as a struct's does
unfoldable pub known_in : Counts → (constants structs functions text : List ℕ) → Known
known_in c cs ss fs t = record {
  constants = constants_from c.constants 0 cs t;
  structs = structs_from c.structs 0 ss t;
  functions = structs_from c.functions 0 fs t;
}

-- the same, of the lent stores of a program
abbrev pub known_from : Counts → ProgramStores → Known
known_from c p = known_in c p.constants.now p.structs.now p.functions.now p.text.now

unfoldable pub program_lent : (constants structs functions text main main_places other other_places : List ℕ) → Stores
program_lent cs ss fs t m mp o op = record { constants = cs; structs = ss; functions = fs; text = t; main = m; main_places = mp; other = o; other_places = op }
