-- [checker] Which Calls break the rule of counts: the first Call of a function, by whose count it is taken, and the first that passes another.
use Rattle.std.specs.Prelude.{Bool, true, false, not, ◌&&◌, ◌||◌, ◌≡◌, List, [], ◌∷◌, ℕ, suc, ◌<◌, eqb, ltb, length, if◌then◌else◌, None, Option, Some}
use Rattle.model.specs.Programs.{Function, Program, stands}
use Rattle.check_rules.specs.Rules.{call, is_at, first_at, second_at, is_in, count_of, code_of}
use Rattle.check_places.specs.declared.CallSite.{CallSite}
use Rattle.check_places.specs.Places.{first_not}

-- the instruction at i is a Call of f, and passes something other than k; any Call of f will do where `any` says so
unfoldable pub calls_other : (f : ℕ) → (any : Bool) → (k : ℕ) → List ℕ → ℕ → Bool
calls_other f any k code i = is_at call code i && (eqb (first_at code i) f && (any || not (eqb (second_at code i) k)))

-- where the first of these stands in a code: its length where there is none
unfoldable pub call_in : (f : ℕ) → (any : Bool) → (k : ℕ) → List ℕ → ℕ
call_in f any k code = first_not (λ i. not (calls_other f any k code i)) (length code) (stands code)

-- what is told of a Call that stands at i in the code of function g, if i is inside
unfoldable pub called_at : (g : ℕ) → List ℕ → ℕ → (otherwise : Option CallSite) → Option CallSite
called_at g code i otherwise = if ltb i (length code) then Some (record { function = g; position = i; count = second_at code i }) else otherwise

-- the first of these in functions that are numbered from g on
unfoldable pub first_call : (f : ℕ) → (any : Bool) → (k g : ℕ) → List Function → Option CallSite
first_call f any k g [] = None
first_call f any k g (h ∷ hs) = called_at g h.code (call_in f any k h.code) (first_call f any k (suc g) hs)

-- how many arguments it passes; none where there is none
unfoldable pub count_told : Option CallSite → ℕ
count_told (Some c) = c.count
count_told None = 0

-- the first Call of f in a program, and the first that passes another count than that
unfoldable pub first_of : Program → ℕ → Option CallSite
first_of p f = first_call f true 0 0 p.functions

unfoldable pub other_of : Program → ℕ → Option CallSite
other_of p f = first_call f false (count_of p f) 0 p.functions

-- ---- what is so of them

-- there is such a Call: in function g at i, of f, with n arguments
pub record IsCall (p : Program) (f : ℕ) (g i n : ℕ) : Type 0 where
  pub function : g < length p.functions
  pub position : is_in i (stands (code_of p g)) ≡ true
  pub is : is_at call (code_of p g) i ≡ true
  pub names : first_at (code_of p g) i ≡ f
  pub passes : second_at (code_of p g) i ≡ n

-- two Calls of f, with different counts, the first of them with the count that f is taken with
pub record TwoCounts (p : Program) (f : ℕ) : Type 0 where
  pub by : ℕ
  pub at : ℕ
  pub by' : ℕ
  pub at' : ℕ
  pub count : ℕ
  pub first : first_of p f ≡ Some (record { function = by; position = at; count = count_of p f })
  pub first_is : IsCall p f by at (count_of p f)
  pub other : other_of p f ≡ Some (record { function = by'; position = at'; count = count })
  pub other_is : IsCall p f by' at' count
  pub differ : count ≡ count_of p f → ⊥
