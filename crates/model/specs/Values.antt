-- Values, the fault of a step, and how values stand in stores of numbers: two words to a place, the kind and the payload.
use Rattle.std.specs.Prelude.{Bool, true, false, not, ◌&&◌, List, [], ◌∷◌, ℕ, zero, suc, ◌+◌, ◌*◌, ◌/◌, ◌%◌, min, eqb, length, get_or, set, take, drop, Float, if◌then◌else◌}
use Rattle.std.specs.Float.{binary64}
use Rattle.std.specs.Float.Ieee.{to_bits, of_bits}
use Rattle.model.specs.declared.Value.{Value}
use Rattle.model.specs.declared.Value.TheVariants as v
use Rattle.model.specs.declared.Fault.{Fault}
use Rattle.model.specs.declared.Fault.TheVariants as f

-- ---- values by kind

-- what to do with a value of each kind: a scalar, a boolean, a string, a function reference, a list, a struct
abbrev pub by_kind : {A : Type 0} → Value → (Float → A) → (Bool → A) → (ℕ → ℕ → A) → (ℕ → ℕ → A) → (ℕ → A) → (ℕ → A) → A
by_kind (v.Scalar x) s b t r l i = s x
by_kind (v.Boolean x) s b t r l i = b x
by_kind (v.String o n) s b t r l i = t o n
by_kind (v.FunctionReference o n) s b t r l i = r o n
by_kind (v.List p) s b t r l i = l p
by_kind (v.StructInstance p) s b t r l i = i p

-- what to do with a value of one kind, and what with any other
unfoldable pub if_scalar : {A : Type 0} → Value → (Float → A) → A → A
if_scalar v k e = by_kind v k (λ x. e) (λ o n. e) (λ o n. e) (λ p. e) (λ p. e)

unfoldable pub if_boolean : {A : Type 0} → Value → (Bool → A) → A → A
if_boolean v k e = by_kind v (λ x. e) k (λ o n. e) (λ o n. e) (λ p. e) (λ p. e)

unfoldable pub if_string : {A : Type 0} → Value → (ℕ → ℕ → A) → A → A
if_string v k e = by_kind v (λ x. e) (λ x. e) k (λ o n. e) (λ p. e) (λ p. e)

unfoldable pub if_reference : {A : Type 0} → Value → (ℕ → ℕ → A) → A → A
if_reference v k e = by_kind v (λ x. e) (λ x. e) (λ o n. e) k (λ p. e) (λ p. e)

unfoldable pub if_list : {A : Type 0} → Value → (ℕ → A) → A → A
if_list v k e = by_kind v (λ x. e) (λ x. e) (λ o n. e) (λ o n. e) k (λ p. e)

unfoldable pub if_struct : {A : Type 0} → Value → (ℕ → A) → A → A
if_struct v k e = by_kind v (λ x. e) (λ x. e) (λ o n. e) (λ o n. e) (λ p. e) k

-- ---- [numbers] the number of each fault

unfoldable pub fault_number : Fault → ℕ
fault_number f.UnknownOpcode = 1
fault_number f.NotCarried = 2
fault_number f.CodeEnds = 3
fault_number f.TooFewValues = 4
fault_number (f.WrongKind v) = 5
fault_number f.OutOfRange = 6
fault_number f.NoLastResult = 7
fault_number f.ZeroDivisor = 8
fault_number f.NotFinite = 26
fault_number f.StackFull = 9
fault_number f.FramesFull = 10
fault_number f.CellsFull = 11
fault_number f.TooDeep = 12
fault_number f.NoFunction = 14

-- ---- [pops] from the top of a stack, whose top is first: 4 before 5 at each

-- what to do with the value popped and the values below it, and what with the fault
unfoldable pub popping : {A : Type 0} → List Value → (Fault → A) → (Value → List Value → A) → A
popping [] e k = e f.TooFewValues
popping (v ∷ r) e k = k v r

unfoldable pub popping_scalar : {A : Type 0} → List Value → (Fault → A) → (Float → List Value → A) → A
popping_scalar vs e k = popping vs e (λ v r. if_scalar v (λ x. k x r) (e (f.WrongKind v)))

unfoldable pub popping_boolean : {A : Type 0} → List Value → (Fault → A) → (Bool → List Value → A) → A
popping_boolean vs e k = popping vs e (λ v r. if_boolean v (λ x. k x r) (e (f.WrongKind v)))

-- ---- [stores] values in words

-- of any store 4,294,967,295 places count
abbrev pub most_places : ℕ
most_places = 0xFFFF_FFFF

-- the places of a store with w words to a place
unfoldable pub places : ℕ → List ℕ → ℕ
places zero s = 0
places (suc w) s = min (length s / suc w) most_places

-- what a kind and a payload stand for
unfoldable pub value_of : ℕ → ℕ → Value
value_of k a =
    if eqb k 0 then v.Scalar (of_bits binary64 a) else
    (if eqb k 1 then v.Boolean (not (eqb a 0)) else
    (if eqb k 2 then v.String (a % 0x1_0000_0000) (a / 0x1_0000_0000) else
    (if eqb k 3 then v.FunctionReference (a % 0x1_0000_0000) (a / 0x1_0000_0000) else
    (if eqb k 4 then v.List (a % 0x1_0000_0000) else
    v.StructInstance (a % 0x1_0000_0000)))))

abbrev pub bit : Bool → ℕ
bit true = 1
bit false = 0

abbrev pub kind : Value → ℕ
kind (v.Scalar x) = 0
kind (v.Boolean x) = 1
kind (v.String o n) = 2
kind (v.FunctionReference o n) = 3
kind (v.List p) = 4
kind (v.StructInstance p) = 5

-- every NaN is 7FF8000000000000
abbrev pub payload : Value → ℕ
payload (v.Scalar x) = to_bits binary64 x
payload (v.Boolean x) = bit x
payload (v.String o n) = o + 0x1_0000_0000 * n
payload (v.FunctionReference o n) = o + 0x1_0000_0000 * n
payload (v.List p) = p
payload (v.StructInstance p) = p

-- the two words at place i
unfoldable pub kind_at : List ℕ → ℕ → ℕ
kind_at s i = get_or s (2 * i) 0

unfoldable pub payload_at : List ℕ → ℕ → ℕ
payload_at s i = get_or s (2 * i + 1) 0

unfoldable pub value_at : List ℕ → ℕ → Value
value_at s i = value_of (kind_at s i) (payload_at s i)

-- the store with two words at place i
unfoldable pub put_words : List ℕ → ℕ → ℕ → ℕ → List ℕ
put_words s i k a = set (set s (2 * i) k) (2 * i + 1) a

-- the values at places 0 to n - 1, the last first: a stack of n values, its top first
unfoldable pub vals : ℕ → List ℕ → List Value
vals zero s = []
vals (suc n) s = value_at s n ∷ vals n s

-- the values at places i to i + n - 1, in order
unfoldable pub values_from : ℕ → ℕ → List ℕ → List Value
values_from zero i s = []
values_from (suc n) i s = value_at s i ∷ values_from n (suc i) s

-- a place holds exactly its value's words: a known kind, one NaN, booleans 0 and 1, no spare bits
unfoldable pub exact_value : ℕ → ℕ → Bool
exact_value k a = eqb k (kind (value_of k a)) && eqb a (payload (value_of k a))

-- the n bytes of text from o on
unfoldable pub text_at : List ℕ → ℕ → ℕ → List ℕ
text_at t o n = take n (drop o t)

-- all that an example computes with here
unfoldable pub computes : Type 1
unfolding if_scalar if_boolean if_string if_reference if_list if_struct fault_number popping popping_scalar popping_boolean places value_of kind_at payload_at
    value_at put_words vals values_from exact_value text_at
computes = Type 0
