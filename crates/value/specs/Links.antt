-- What the answers of the code stand for.
use Rattle.std.specs.Prelude.{◌≡◌, Bool, List, [], ◌∷◌, ℕ, ◌<◌, ◌^◌, T, eqb, Float, if◌then◌else◌, Err, None, Ok, Option, Result, Some}
use Rattle.std.specs.Float.{binary64}
use Rattle.std.specs.Float.Ieee.{fits}
use Rattle.model.specs.declared.Value.{Value}
use Rattle.model.specs.declared.Fault.{Fault}
use Rattle.model.specs.declared.Fault.TheVariants as f
use Rattle.model.specs.declared.Value.TheVariants as v
use Rattle.model.specs.Values.{value_of, kind, payload, put_words, popping_scalar, popping_boolean}
use Rattle.model.specs.Heap.{Cell, item, head, put_cell}

-- a value that a store can hold: what the types of the code say
abbrev pub Fine : Value → Type 0
Fine (v.Scalar x) = T (fits binary64 x)
Fine (v.Boolean x) = Unit
Fine (v.String o n) = (o < 2 ^ 32) × (n < 2 ^ 32)
Fine (v.FunctionReference o n) = (o < 2 ^ 32) × (n < 2 ^ 32)
Fine (v.List p) = p < 2 ^ 32
Fine (v.StructInstance p) = p < 2 ^ 32

-- r is the payload of v, and v fits a store: the types of the code say so
pub record PayloadOf (v : Value) (r : ℕ) : Type 0 where
  pub is : r ≡ payload v
  pub fine : Fine v

-- a cell that a store can hold
abbrev pub FineCell : Cell → Type 0
FineCell (item v) = Fine v
FineCell (head h) = (h.count < 0x1_0000) × (h.number < 0x1_0000) × (h.depth < 0x1_0000)

-- the store s' is s with the cell x at place i, and x fits
pub record Written (s : List ℕ) (i : ℕ) (x : Cell) (s' : List ℕ) : Type 0 where
  pub stored : s' ≡ put_cell s i x
  pub fine : FineCell x

-- ---- the last result in words: kind 7, payload 0 where there is none

unfoldable pub last_in : ℕ → ℕ → Option Value
last_in k a = if eqb k 7 then None else Some (value_of k a)

unfoldable pub last_kind : Option Value → ℕ
last_kind None = 7
last_kind (Some v) = kind v

unfoldable pub last_payload : Option Value → ℕ
last_payload None = 0
last_payload (Some v) = payload v

-- ---- what an arm does with its operands, and what with the fault

abbrev pub on_scalars : {A : Type 0} → Result (Float × Float) Fault → (Fault → A) → (Float → Float → A) → A
on_scalars (Ok (x, y)) e k = k x y
on_scalars (Err t) e k = e t

abbrev pub on_booleans : {A : Type 0} → Result (Bool × Bool) Fault → (Fault → A) → (Bool → Bool → A) → A
on_booleans (Ok (x, y)) e k = k x y
on_booleans (Err t) e k = e t

-- ---- a store with the value v at place i

unfoldable pub put_value : List ℕ → ℕ → Value → List ℕ
put_value s i v = put_words s i (kind v) (payload v)

-- ---- what the pops answer, of a stack whose top is first

-- the value on top, or the fault
unfoldable pub pop_of : List Value → Result Value Fault
pop_of [] = Err f.TooFewValues
pop_of (v ∷ r) = Ok v

-- two scalars or two booleans: the right one is popped first
unfoldable pub scalars_of : List Value → Result (Float × Float) Fault
scalars_of vs = popping_scalar vs Err (λ y r. popping_scalar r Err (λ x q. Ok (x, y)))

unfoldable pub booleans_of : List Value → Result (Bool × Bool) Fault
booleans_of vs = popping_boolean vs Err (λ y r. popping_boolean r Err (λ x q. Ok (x, y)))
