-- [check] What a program is checked for before it is installed: six rules, in the order of the request. A function is given by its number.
-- "Code no path reaches needs only the earlier rules. .. The rules from the known height on count as one."
use Rattle.std.specs.Prelude.{◌≡◌, Bool, true, false, not, ◌&&◌, ◌||◌, List, [], ◌∷◌, ◌++◌, ℕ, suc, ◌+◌, ◌-◌, ◌≤◌, ◌<◌, ltb, leb, eqb, length, get_or, if◌then◌else◌}
use Rattle.model.specs.declared.Decoded.{Decoded}
use Rattle.model.specs.declared.Decoded.TheVariants as d
use Rattle.model.specs.declared.Names.{Names}
use Rattle.model.specs.declared.Names.TheVariants as n
use Rattle.check_rules.specs.declared.Rule.{Rule}
use Rattle.check_rules.specs.declared.Rule.TheVariants as r
use Rattle.model.specs.Opcodes.{first_names, second_names, popped}
use Rattle.model.specs.Programs.{Function, Program, function_at, word_at, opcode_in, next_in, stands}

-- ---- an instruction, at position i of a code

-- the opcodes that a rule names
abbrev pub get_local : ℕ
get_local = 3

abbrev pub jump_if_false : ℕ
jump_if_false = 26

abbrev pub jump : ℕ
jump = 27

abbrev pub call : ℕ
call = 28

abbrev pub call_callable : ℕ
call_callable = 31

abbrev pub return : ℕ
return = 37

abbrev pub is_at : (opcode : ℕ) → List ℕ → ℕ → Bool
is_at k code i = eqb (get_or code i 0) k

-- its operands
abbrev pub first_at : List ℕ → ℕ → ℕ
first_at code i = word_at code (suc i)

abbrev pub second_at : List ℕ → ℕ → ℕ
second_at code i = word_at code (suc i + 2)

-- ---- 1 "each function's code is a row of whole carried instructions"

unfoldable pub is_carried : Decoded → Bool
is_carried (d.Carried p) = true
is_carried d.NotCarried = false
is_carried d.Unknown = false

unfoldable pub whole_at : List ℕ → ℕ → Bool
whole_at code i = is_carried (opcode_in code i).what && leb (next_in code i) (length code)

-- ---- 2 "constant, struct and function numbers are in range"

unfoldable pub in_range : Program → Names → (x : ℕ) → Bool
in_range p n.Constant x = ltb x (length p.constants)
in_range p n.Slot x = true
in_range p n.Function x = ltb x (length p.functions)
in_range p n.Struct x = ltb x (length p.structs)
in_range p n.Field x = true
in_range p n.Count x = true
in_range p n.Offset x = true
in_range p n.Nothing x = true

unfoldable pub numbers_at : Program → List ℕ → ℕ → Bool
numbers_at p code i = in_range p (first_names (opcode_in code i)) (first_at code i) && in_range p (second_names (opcode_in code i)) (second_at code i)

-- ---- 3 "no CallCallable and no Call of function 0"

unfoldable pub call_at : List ℕ → ℕ → Bool
call_at code i = not (is_at call_callable code i) && not (is_at call code i && eqb (first_at code i) 0)

-- ---- 4 "every Call of one function passes the same count, and a function that no Call names is taken with none"

-- a Call: of which function, and with how many arguments
pub record Site : Type 0 where
  pub function : ℕ
  pub count : ℕ

unfoldable pub calls_at : List ℕ → List ℕ → List Site
calls_at code [] = []
calls_at code (i ∷ is) = if is_at call code i then record { function = first_at code i; count = second_at code i } ∷ calls_at code is else calls_at code is

unfoldable pub calls_in : List Function → List Site
calls_in [] = []
calls_in (f ∷ fs) = calls_at f.code (stands f.code) ++ calls_in fs

-- the count of the first Call of f; none where no Call names it
unfoldable pub count_in : ℕ → List Site → ℕ
count_in f [] = 0
count_in f (c ∷ cs) = if eqb c.function f then c.count else count_in f cs

-- each Call of f passes k
unfoldable pub passes : (f k : ℕ) → List Site → Bool
passes f k [] = true
passes f k (c ∷ cs) = (not (eqb c.function f) || eqb c.count k) && passes f k cs

unfoldable pub count_of : Program → ℕ → ℕ
count_of p f = count_in f (calls_in p.functions)

-- ---- 5 "jumps land on an instruction, or in main also on its end"

abbrev pub is_jump : List ℕ → ℕ → Bool
is_jump code i = is_at jump_if_false code i || is_at jump code i

abbrev pub target_at : List ℕ → ℕ → ℕ
target_at code i = next_in code i + first_at code i

unfoldable pub is_in : ℕ → List ℕ → Bool
is_in j [] = false
is_in j (i ∷ is) = eqb j i || is_in j is

unfoldable pub lands : (main : Bool) → List ℕ → ℕ → Bool
lands main code j = is_in j (stands code) || (main && eqb j (length code))

unfoldable pub jump_at : (main : Bool) → List ℕ → ℕ → Bool
jump_at main code i = not (is_jump code i) || lands main code (target_at code i)

-- ---- 6 "each reached position has one known height above its frame's base, starting at that count (0 in main), the same along every path"

-- "no instruction pops below the base, reads a slot at or above the height or passes more arguments than the height; Return finds a value"
unfoldable pub suffices : List ℕ → ℕ → (height : ℕ) → Bool
suffices code i h = leb (popped (opcode_in code i) (first_at code i) (second_at code i)) h && (not (is_at get_local code i) || ltb (first_at code i) h)

-- the height behind the instruction
unfoldable pub height_after : List ℕ → ℕ → (height : ℕ) → ℕ
height_after code i h = h - popped (opcode_in code i) (first_at code i) (second_at code i) + (opcode_in code i).pushes

-- it leads on to the next one: not a Jump, nor a Return outside main
unfoldable pub leads_on : (main : Bool) → List ℕ → ℕ → Bool
leads_on main code i = not (is_at jump code i) && (main || not (is_at return code i))

-- a path from the function's start, taken with so many arguments, comes to position i with height h
pub data Path (main : Bool) (count : ℕ) (code : List ℕ) : (i h : ℕ) → Type 0 where
  starts : Path main count code 0 count
  goes : {i h : ℕ} → Path main count code i h → i < length code → leads_on main code i ≡ true → Path main count code (next_in code i) (height_after code i h)
  leaps : {i h : ℕ} → Path main count code i h → i < length code → is_jump code i ≡ true → Path main count code (target_at code i) (height_after code i h)

pub record Heights (main : Bool) (count : ℕ) (code : List ℕ) : Type 0 where
  pub one : {i h k : ℕ} → Path main count code i h → Path main count code i k → h ≡ k
  pub enough : {i h : ℕ} → Path main count code i h → i < length code → suffices code i h ≡ true
  -- "no path reaches the end of a function other than main"
  pub inside : {i h : ℕ} → Path main count code i h → main ≡ false → i < length code

-- "each function's greatest height"
pub record Greatest (main : Bool) (count : ℕ) (code : List ℕ) (m : ℕ) : Type 0 where
  pub most : {i h : ℕ} → Path main count code i h → h ≤ m
  pub place : ℕ
  pub path : Path main count code place m

-- ---- THE RULES

unfoldable pub every : (test : ℕ → Bool) → List ℕ → Bool
every test [] = true
every test (i ∷ is) = test i && every test is

abbrev pub code_of : Program → ℕ → List ℕ
code_of p f = (function_at p.functions f).code

abbrev pub is_main : ℕ → Bool
is_main f = eqb f 0

-- function f keeps the rule
unfoldable pub Keeps : Program → Rule → ℕ → Type 0
Keeps p r.Instructions f = every (whole_at (code_of p f)) (stands (code_of p f)) ≡ true
Keeps p r.Numbers f = every (numbers_at p (code_of p f)) (stands (code_of p f)) ≡ true
Keeps p r.Calls f = every (call_at (code_of p f)) (stands (code_of p f)) ≡ true
Keeps p r.Counts f = passes f (count_of p f) (calls_in p.functions) ≡ true
Keeps p r.Jumps f = every (jump_at (is_main f) (code_of p f)) (stands (code_of p f)) ≡ true
Keeps p r.Heights f = Heights (is_main f) (count_of p f) (code_of p f)

unfoldable pub rule_number : Rule → ℕ
rule_number r.Instructions = 1
rule_number r.Numbers = 2
rule_number r.Calls = 3
rule_number r.Counts = 4
rule_number r.Jumps = 5
rule_number r.Heights = 6

abbrev pub KeptByAll : Program → Rule → Type 0
KeptByAll p q = (f : ℕ) → f < length p.functions → Keeps p q f

abbrev pub Passed : Program → Type 0
Passed p = (q : Rule) → KeptByAll p q

-- "the first broken rule in the order given and the lowest function that breaks it (the called one for counts)"
pub record Broken (p : Program) (q : Rule) (f : ℕ) : Type 0 where
  pub known : f < length p.functions
  pub earlier : (e : Rule) → rule_number e < rule_number q → KeptByAll p e
  pub lower : (g : ℕ) → g < f → Keeps p q g
  pub breaks : Keeps p q f → ⊥
