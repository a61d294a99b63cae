-- Programs.
use Rattle.std.specs.Prelude.{Bool, true, false, ◌&&◌, List, [], ◌∷◌, map, ℕ, zero, suc, ◌+◌, ◌*◌, eqb, leb, ltb, length, get_or, if◌then◌else◌}
use Rattle.std.proofs.Math.Option.{Option, none, some}
use Rattle.model.specs.Basics.{ascii}
use Rattle.model.specs.Opcodes.{Opcode, operands, opcode_at}
use Rattle.model.specs.Equality.{same_bytes}

-- a constant, of four kinds; a scalar keeps its 64 bits
pub data Constant : Type 0 where
  scalar : ℕ → Constant
  boolean : Bool → Constant
  string : List ℕ → Constant
  reference : List ℕ → Constant

-- a function: its name, its code, and the place of each byte of code
pub record Function : Type 0 where
  pub name : List ℕ
  pub code : List ℕ
  pub places : List ℕ

pub record Program : Type 0 where
  pub constants : List Constant
  pub structs : List (List ℕ)
  pub functions : List Function

unfoldable pub main_name : List ℕ
main_name = ascii "<main>"

-- a function that is not there has no code
unfoldable pub function_at : List Function → ℕ → Function
function_at fs i = get_or fs i (record { name = []; code = []; places = [] })

-- ---- [names] a search: newest first for functions, first for structs

unfoldable pub or_else : Option ℕ → Option ℕ → Option ℕ
or_else none other = other
or_else (some i) other = some i

-- the number of the newest name that is t; the first in the list has number i
unfoldable pub newest_from : ℕ → List ℕ → List (List ℕ) → Option ℕ
newest_from i t [] = none
newest_from i t (n ∷ ns) = or_else (newest_from (suc i) t ns) (if same_bytes t n then some i else none)

unfoldable pub function_named : List ℕ → List Function → Option ℕ
function_named t fs = newest_from 0 t (map (λ f. f.name) fs)

-- the number of the first name that is t
unfoldable pub first_from : ℕ → List ℕ → List (List ℕ) → Option ℕ
first_from i t [] = none
first_from i t (n ∷ ns) = if same_bytes t n then some i else first_from (suc i) t ns

-- ---- the order of names, by which a search is short and "all different" is seen at once

-- one name stands before another: it is less at the first difference, or ends there
unfoldable pub before : List ℕ → List ℕ → Bool
before [] [] = false
before [] (y ∷ ys) = true
before (x ∷ xs) [] = false
before (x ∷ xs) (y ∷ ys) = if ltb x y then true else (if eqb x y then before xs ys else false)

unfoldable pub name_at : List (List ℕ) → ℕ → List ℕ
name_at ns i = get_or ns i []

-- number i put among the numbers of a list that is in the order of names: in front of the first whose name is not before its own
unfoldable pub put_in : List (List ℕ) → ℕ → List ℕ → List ℕ
put_in ns i [] = i ∷ []
put_in ns i (j ∷ js) = if before (name_at ns j) (name_at ns i) then j ∷ put_in ns i js else i ∷ (j ∷ js)

-- the numbers 0 to n - 1 in the order of names
unfoldable pub order_of : ℕ → List (List ℕ) → List ℕ
order_of zero ns = []
order_of (suc n) ns = put_in ns n (order_of n ns)

-- t is one of the names
unfoldable pub among : List ℕ → List (List ℕ) → Bool
among t [] = false
among t (n ∷ ns) = if same_bytes t n then true else among t ns

-- ---- [limits]

abbrev pub code_limit : ℕ
code_limit = 65535

abbrev pub constant_limit : ℕ
constant_limit = 65535

-- functions and struct names, each
abbrev pub name_limit : ℕ
name_limit = 65536

unfoldable pub codes_within : List Function → Bool
codes_within [] = true
codes_within (f ∷ fs) = leb (length f.code) code_limit && codes_within fs

unfoldable pub within_limits : Program → Bool
within_limits p = leb (length p.constants) constant_limit && leb (length p.structs) name_limit && leb (length p.functions) name_limit && codes_within p.functions

-- ---- [code] words and instructions

-- the operand at i, low byte first; a byte past the code reads as 0
unfoldable pub word_at : List ℕ → ℕ → ℕ
word_at code i = get_or code i 0 + 256 * get_or code (suc i) 0

-- the position behind an opcode at i and its n operands
unfoldable pub behind : ℕ → ℕ → ℕ
behind i n = suc i + 2 * n

-- the opcode at position i
abbrev pub opcode_in : List ℕ → ℕ → Opcode
opcode_in code i = opcode_at (get_or code i 0)

-- the walk over instructions, which a step and a listing take: from one to the position behind its operands
abbrev pub next_in : List ℕ → ℕ → ℕ
next_in code i = behind i (operands (opcode_in code i))

-- the positions where the walk from i on stands, n at most
unfoldable pub stands_for : ℕ → List ℕ → ℕ → List ℕ
stands_for zero code i = []
stands_for (suc n) code i = if ltb i (length code) then i ∷ stands_for n code (next_in code i) else []

-- all of them: an instruction has a byte or more
unfoldable pub stands : List ℕ → List ℕ
stands code = stands_for (length code) code 0

-- all that an example computes with here
unfoldable pub computes : Type 1
unfolding main_name function_at or_else newest_from function_named first_from among codes_within within_limits word_at behind stands_for stands before name_at put_in order_of
computes = Type 0
