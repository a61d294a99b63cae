-- [stores] How a program lies in the stores that a host lends.
use Rattle.std.specs.Prelude.{Bool, not, List, [], ◌∷◌, ℕ, zero, suc, ◌+◌, ◌*◌, ◌/◌, ◌%◌, eqb, take, if◌then◌else◌}
use Rattle.model.specs.declared.Counts.{Counts}
use Rattle.model.specs.Values.{text_at, kind_at, payload_at, values_from}
use Rattle.model.specs.Programs.{Constant, scalar, boolean, string, reference, Function, Program}
use Rattle.model.specs.Steps.{World}

-- constants: two words to a place, the kind and the payload. structs: two words, the name, and a number of the order of names. functions: two words, the
-- name and the code. text, main and other (code): bytes. mainPlaces and otherPlaces: the place of each byte of code.
pub record Stores : Type 0 where
  pub constants : List ℕ
  pub structs : List ℕ
  pub functions : List ℕ
  pub text : List ℕ
  pub main : List ℕ
  pub main_places : List ℕ
  pub other : List ℕ
  pub other_places : List ℕ

-- ---- one store, or one function's two stores, anew

abbrev pub stores_of : (constants structs functions text main main_places other other_places : List ℕ) → Stores
stores_of cs ss fs t m mp o op = record { constants = cs; structs = ss; functions = fs; text = t; main = m; main_places = mp; other = o; other_places = op }

abbrev pub with_constants : List ℕ → Stores → Stores
with_constants cs s = stores_of cs s.structs s.functions s.text s.main s.main_places s.other s.other_places

abbrev pub with_structs : List ℕ → Stores → Stores
with_structs ss s = stores_of s.constants ss s.functions s.text s.main s.main_places s.other s.other_places

abbrev pub with_functions : List ℕ → Stores → Stores
with_functions fs s = stores_of s.constants s.structs fs s.text s.main s.main_places s.other s.other_places

abbrev pub with_text : List ℕ → Stores → Stores
with_text t s = stores_of s.constants s.structs s.functions t s.main s.main_places s.other s.other_places

abbrev pub with_main : List ℕ → List ℕ → Stores → Stores
with_main code places s = stores_of s.constants s.structs s.functions s.text code places s.other s.other_places

abbrev pub with_other : List ℕ → List ℕ → Stores → Stores
with_other code places s = stores_of s.constants s.structs s.functions s.text s.main s.main_places code places

-- the stores of the function that is being emitted
unfoldable pub code_here : Counts → Stores → List ℕ
code_here c s = if eqb c.current 0 then s.main else s.other

unfoldable pub places_here : Counts → Stores → List ℕ
places_here c s = if eqb c.current 0 then s.main_places else s.other_places

unfoldable pub with_code : Counts → List ℕ → List ℕ → Stores → Stores
with_code c code places s = if eqb c.current 0 then with_main code places s else with_other code places s

-- ---- words

-- a word names a part of a store: where it starts and how long it is
unfoldable pub start : ℕ → ℕ
start w = w % 0x1_0000_0000

unfoldable pub size : ℕ → ℕ
size w = w / 0x1_0000_0000

unfoldable pub pack : ℕ → ℕ → ℕ
pack o n = o + 0x1_0000_0000 * n

unfoldable pub part : List ℕ → ℕ → List ℕ
part s w = text_at s (start w) (size w)

-- the name of struct i; and the number of the struct whose name stands at i in the order of names
unfoldable pub struct_word : List ℕ → ℕ → ℕ
struct_word ss i = kind_at ss i

unfoldable pub order_word : List ℕ → ℕ → ℕ
order_word ss i = payload_at ss i

-- the name and the code of function i

unfoldable pub name_word : List ℕ → ℕ → ℕ
name_word fs i = kind_at fs i

unfoldable pub code_word : List ℕ → ℕ → ℕ
code_word fs i = payload_at fs i

-- where the code of function i ends in its store
unfoldable pub code_end : List ℕ → ℕ → ℕ
code_end fs i = start (code_word fs i) + size (code_word fs i)

-- ---- the program that counts and stores stand for

unfoldable pub constant_in : List ℕ → ℕ → ℕ → Constant
constant_in t k a =
    if eqb k 0 then scalar a else
    (if eqb k 1 then boolean (not (eqb a 0)) else
    (if eqb k 2 then string (part t a) else
    reference (part t a)))

unfoldable pub constants_from : ℕ → ℕ → List ℕ → List ℕ → List Constant
constants_from zero i cs t = []
constants_from (suc n) i cs t = constant_in t (kind_at cs i) (payload_at cs i) ∷ constants_from n (suc i) cs t

unfoldable pub structs_from : ℕ → ℕ → List ℕ → List ℕ → List (List ℕ)
structs_from zero i ss t = []
structs_from (suc n) i ss t = part t (struct_word ss i) ∷ structs_from n (suc i) ss t

-- the n numbers from i on, in the order of names
unfoldable pub orders_from : ℕ → ℕ → List ℕ → List ℕ
orders_from zero i ss = []
orders_from (suc n) i ss = order_word ss i ∷ orders_from n (suc i) ss

-- main and the others have separate code stores
unfoldable pub function_in : Stores → ℕ → Function
function_in s i = record {
  name = part s.text (name_word s.functions i);
  code = part (if eqb i 0 then s.main else s.other) (code_word s.functions i);
  places = part (if eqb i 0 then s.main_places else s.other_places) (code_word s.functions i);
}

unfoldable pub functions_from : ℕ → ℕ → Stores → List Function
functions_from zero i s = []
functions_from (suc n) i s = function_in s i ∷ functions_from n (suc i) s

unfoldable pub program_in : Counts → Stores → Program
program_in c s = record {
  constants = constants_from c.constants 0 s.constants s.text;
  structs = structs_from c.structs 0 s.structs s.text;
  functions = functions_from c.functions 0 s;
}

-- what a run does not change, in stores with these rooms, on a machine that is strict or not
unfoldable pub world_in : Counts → Stores → (stack_room frame_room cell_room : ℕ) → (strict : Bool) → World
world_in c s stack_room frame_room cell_room strict = record {
  constants = values_from c.constants 0 s.constants;
  text = take c.text s.text;
  structs = c.structs;
  functions = functions_from c.functions 0 s;
  stack_room = stack_room;
  frame_room = frame_room;
  cell_room = cell_room;
  strict = strict;
}

-- all that an example computes with here
unfoldable pub computes : Type 1
unfolding code_here places_here with_code start size pack part struct_word name_word code_word code_end constant_in constants_from structs_from function_in
    functions_from program_in world_in order_word orders_from
computes = Type 0
