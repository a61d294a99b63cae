-- [equal] Equality of values, and the pairs of elements that it visits below the top pair.
use Rattle.std.specs.Prelude.{Bool, true, false, ◌&&◌, List, [], ◌∷◌, ℕ, zero, suc, ◌+◌, eqb, if◌then◌else◌}
use Rattle.std.specs.Bool.{beq}
use Rattle.std.specs.Float.Ieee as Ieee
use Rattle.model.specs.declared.Value.{Value}
use Rattle.model.specs.declared.Value.TheVariants as v
use Rattle.model.specs.Values.{if_scalar, if_boolean, if_string, if_reference, if_list, if_struct, text_at}
use Rattle.model.specs.Heap.{Cell, head_in, elements_in}

-- same or not, and how many pairs were visited
pub data Same : Type 0 where
  same : Bool → ℕ → Same

-- said at once, no pair visited
abbrev pub said : Bool → Same
said b = same b 0

unfoldable pub same_bytes : List ℕ → List ℕ → Bool
same_bytes [] [] = true
same_bytes [] (y ∷ ys) = false
same_bytes (x ∷ xs) [] = false
same_bytes (x ∷ xs) (y ∷ ys) = eqb x y && same_bytes xs ys

-- a pair of elements, and those after it: from the first, to the first difference
unfoldable pub and_next : Same → Same → Same
and_next (same false k) rest = same false (suc k)
and_next (same true k) (same b m) = same b (suc k + m)

unfoldable pub same_elements : (same : Value → Value → Same) → (left right : List Value) → Same
same_elements r [] bs = said true
same_elements r (a ∷ as') [] = said true
same_elements r (a ∷ as') (b ∷ bs) = and_next (r a b) (same_elements r as' bs)

-- lists agree when counts and elements do; structs also need the same struct number
unfoldable pub same_blocks : (same : Value → Value → Same) → (heap : List Cell) → (p q : ℕ) → Same
same_blocks r H p q = if eqb (head_in H p).count (head_in H q).count && eqb (head_in H p).number (head_in H q).number then same_elements r (elements_in H p) (elements_in H q) else said false

-- one pair: binary64 equality on scalars, bytes on strings and names, false across kinds; the elements of lists and structs by `same`
unfoldable pub same_pair : (same : Value → Value → Same) → (text : List ℕ) → (heap : List Cell) → (left right : Value) → Same
same_pair r t H (v.Scalar x) b = if_scalar b (λ y. said (Ieee.eq x y)) (said false)
same_pair r t H (v.Boolean x) b = if_boolean b (λ y. said (beq x y)) (said false)
same_pair r t H (v.String o n) b = if_string b (λ p m. said (same_bytes (text_at t o n) (text_at t p m))) (said false)
same_pair r t H (v.FunctionReference o n) b = if_reference b (λ p m. said (same_bytes (text_at t o n) (text_at t p m))) (said false)
same_pair r t H (v.List p) b = if_list b (λ q. same_blocks r H p q) (said false)
same_pair r t H (v.StructInstance p) b = if_struct b (λ q. same_blocks r H p q) (said false)

-- nested lists and structs are compared element by element, so many levels deep
unfoldable pub same_to : (levels : ℕ) → (text : List ℕ) → (heap : List Cell) → (left right : Value) → Same
same_to zero t H a b = same_pair (λ x y. said true) t H a b
same_to (suc d) t H a b = same_pair (λ x y. same_to d t H x y) t H a b

-- no value is deeper than 64
unfoldable pub same_of : (text : List ℕ) → (heap : List Cell) → (left right : Value) → Same
same_of t H a b = same_to 64 t H a b

-- all that an example computes with here
unfoldable pub computes : Type 1
unfolding same_bytes and_next same_elements same_blocks same_pair same_to same_of
computes = Type 0
