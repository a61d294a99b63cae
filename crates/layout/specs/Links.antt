-- The stores that an entry is lent, over any rest; the one fact of an entry; and the good order of a whole program.
use Rattle.std.specs.Prelude.{◌≡◌, Bool, List, ℕ, length, Result}
use Rattle.model.specs.declared.Counts.{Counts}
use Rattle.model.specs.Stores.{Stores}
use Rattle.model.specs.Orders.{program_ok}
use Rattle.model.specs.Emission.{Res}
use Rattle.model.specs.declared.Refusal.{Refusal}

-- the answer and the stores are those of the definition
pub record Is (want : Res) (r : Result (Counts × ℕ) Refusal) (s : Stores) : Type 0 where
  pub means : record { answer = r; stores = s } ≡ want

-- functions, main with its places, the others with theirs
unfoldable pub code_lent : Stores → List ℕ → List ℕ → List ℕ → List ℕ → List ℕ → Stores
code_lent rest fs m mp o op = record {
  constants = rest.constants;
  structs = rest.structs;
  functions = fs;
  text = rest.text;
  main = m;
  main_places = mp;
  other = o;
  other_places = op;
}

-- functions, and the code of main and of the others
unfoldable pub bytes_lent : Stores → List ℕ → List ℕ → List ℕ → Stores
bytes_lent rest fs m o = code_lent rest fs m rest.main_places o rest.other_places

-- functions and text
unfoldable pub names_lent : Stores → List ℕ → List ℕ → Stores
names_lent rest fs t = record {
  constants = rest.constants;
  structs = rest.structs;
  functions = fs;
  text = t;
  main = rest.main;
  main_places = rest.main_places;
  other = rest.other;
  other_places = rest.other_places;
}

-- constants and text
unfoldable pub constants_lent : Stores → List ℕ → List ℕ → Stores
constants_lent rest cs t = record {
  constants = cs;
  structs = rest.structs;
  functions = rest.functions;
  text = t;
  main = rest.main;
  main_places = rest.main_places;
  other = rest.other;
  other_places = rest.other_places;
}

-- struct names and text
unfoldable pub structs_lent : Stores → List ℕ → List ℕ → Stores
structs_lent rest ss t = record {
  constants = rest.constants;
  structs = ss;
  functions = rest.functions;
  text = t;
  main = rest.main;
  main_places = rest.main_places;
  other = rest.other;
  other_places = rest.other_places;
}

-- the good order of a whole program: whatever the code and place stores hold, which are of these lengths
pub record WholeIs (c : Counts) (cs ss fs t : List ℕ) (main main_places other other_places : ℕ) (r : Bool) : Type 0 where
  pub is : (s : Stores) → s.constants ≡ cs → s.structs ≡ ss → s.functions ≡ fs → s.text ≡ t
      → length s.main ≡ main → length s.main_places ≡ main_places → length s.other ≡ other → length s.other_places ≡ other_places
      → r ≡ program_ok c s
