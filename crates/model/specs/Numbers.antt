-- The image's numbers, and what reading an item off the front of the bytes finds.
use Rattle.std.specs.Prelude.{◌≡◌, Bool, List, [], ◌∷◌, ◌++◌, ℕ, zero, suc, ◌+◌, ◌-◌, ◌*◌, ◌/◌, ◌%◌, ◌<◌, ◌^◌, ltb, length, if◌then◌else◌}

-- a value and the bytes behind it; or how many bytes were left where the item that breaks a rule begins
pub data Step (A : Type 0) : Type 0 where
  got : A → List ℕ → Step A
  bad : ℕ → Step A

-- one reading, and another behind it
unfoldable pub and_then : {A B : Type 0} → Step A → (A → List ℕ → Step B) → Step B
and_then (got a r) k = k a r
and_then (bad n) k = bad n

-- [image.items] an item: what breaks a rule inside it is named at its start, b
unfoldable pub item : {A : Type 0} → List ℕ → Step A → Step A
item b (got a r) = got a r
item b (bad n) = bad (length b)

-- a value that has to pass a test
unfoldable pub checked : {A : Type 0} → (A → Bool) → Step A → Step A
checked t (got a r) = if t a then got a r else bad 0
checked t (bad n) = bad n

-- every element is a byte
unfoldable pub Bytes : List ℕ → Type 0
Bytes [] = Unit
Bytes (x ∷ r) = (x < 256) × Bytes r

-- what is written of a good value reads back, whatever follows; and whatever reads is what is written of a good value
pub record Codes {A : Type 0} (ok : A → Type 0) (enc : A → List ℕ) (dec : List ℕ → Step A) : Type 0 where
  pub back : (a : A) (r : List ℕ) → ok a → dec (enc a ++ r) ≡ got a r
  pub only : (b : List ℕ) (a : A) (r : List ℕ) → Bytes b → dec b ≡ got a r → (b ≡ enc a ++ r) × ok a

-- [image.numbers] a number that an image can say: a length, a count or a place
abbrev pub Small : ℕ → Type 0
Small n = n < 2 ^ 32

-- [image.numbers] the groups of n, f + 1 at most: seven bits each, lowest first, the high bit set on all but the last
unfoldable pub groups_of : ℕ → ℕ → List ℕ
groups_of zero n = n ∷ []
groups_of (suc f) n = if ltb n 128 then n ∷ [] else (128 + n % 128) ∷ groups_of f (n / 128)

-- the one form of a number below 2 ^ 32
unfoldable pub digits : ℕ → List ℕ
digits n = groups_of 4 n

-- a group in front of others: they are not 0, or a shorter form would do
unfoldable pub more : ℕ → Step ℕ → Step ℕ
more d (got zero r) = bad 0
more d (got (suc q) r) = got (d + 128 * suc q) r
more d (bad n) = bad 0

-- five groups at most, the fifth below 16: the number is below 2 ^ 32
unfoldable pub groups : ℕ → List ℕ → Step ℕ
groups f [] = bad 0
groups zero (x ∷ r) = if ltb x 16 then got x r else bad 0
groups (suc f) (x ∷ r) = if ltb x 128 then got x r else more (x - 128) (groups f r)

-- reads a number
unfoldable pub number : List ℕ → Step ℕ
number b = item b (groups 4 b)

-- all that an example computes with here
unfoldable pub computes : Type 1
unfolding and_then item checked groups_of digits more groups number
computes = Type 0
