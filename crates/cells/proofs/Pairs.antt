-- Two values by themselves: the arms of the comparison.
use mathlib.Core.Path.{◌≡◌, refl, subst}
use mathlib.Core.Bool.{Bool, true, false, beq}
use mathlib.Core.List.{List, [], ◌∷◌}
use Prim.Native.Nat.{ℕ, ◌+◌, ◌≤◌}
use borrow.Author.Tests.{leb-true}
use lib.Ieee as Ieee
use lib.Ieee.{Float}
use lib.ListN.{length}
use denote.Enum.Declared.{tag_of}
use types.Run.{OneOf, miss}
use Rattle.model.specs.contracts.Value.{the_type}
use Rattle.model.specs.declared.Value.{Value}
use Rattle.model.specs.declared.Value.TheVariants as v
use Rattle.model.specs.Values.{if_scalar, if_boolean, if_string, if_reference, if_list, if_struct, text_at}
use Rattle.model.specs.Heap.{placed_below}
use Rattle.model.specs.Equality.{said, same_bytes, same_pair}
use Rattle.value.proofs.Operands.{no_scalar, no_boolean}
use Rattle.cells.specs.declared.Pair.TheVariants.{Said, Blocks}
use Rattle.cells.specs.Links.{Inside, lists, structs, Compared}

-- a value of another kind
module _ {A : Type 0} where
  pub no_string : (u : Value) → OneOf (0 ∷ 1 ∷ 3 ∷ 4 ∷ 5 ∷ []) (tag_of the_type u) → (k : ℕ → ℕ → A) (d : A) → if_string u k d ≡ d
  unfolding if_string
  no_string (v.Scalar x) h k d = refl
  no_string (v.Boolean x) h k d = refl
  no_string (v.String o n) h k d = absurd (miss (0 ∷ 1 ∷ 3 ∷ 4 ∷ 5 ∷ []) 2 tt h)
  no_string (v.FunctionReference o n) h k d = refl
  no_string (v.List p) h k d = refl
  no_string (v.StructInstance p) h k d = refl

  pub no_reference : (u : Value) → OneOf (0 ∷ 1 ∷ 2 ∷ 4 ∷ 5 ∷ []) (tag_of the_type u) → (k : ℕ → ℕ → A) (d : A) → if_reference u k d ≡ d
  unfolding if_reference
  no_reference (v.Scalar x) h k d = refl
  no_reference (v.Boolean x) h k d = refl
  no_reference (v.String o n) h k d = refl
  no_reference (v.FunctionReference o n) h k d = absurd (miss (0 ∷ 1 ∷ 2 ∷ 4 ∷ 5 ∷ []) 3 tt h)
  no_reference (v.List p) h k d = refl
  no_reference (v.StructInstance p) h k d = refl

  pub no_list : (u : Value) → OneOf (0 ∷ 1 ∷ 2 ∷ 3 ∷ 5 ∷ []) (tag_of the_type u) → (k : ℕ → A) (d : A) → if_list u k d ≡ d
  unfolding if_list
  no_list (v.Scalar x) h k d = refl
  no_list (v.Boolean x) h k d = refl
  no_list (v.String o n) h k d = refl
  no_list (v.FunctionReference o n) h k d = refl
  no_list (v.List p) h k d = absurd (miss (0 ∷ 1 ∷ 2 ∷ 3 ∷ 5 ∷ []) 4 tt h)
  no_list (v.StructInstance p) h k d = refl

  pub no_struct : (u : Value) → OneOf (0 ∷ 1 ∷ 2 ∷ 3 ∷ 4 ∷ []) (tag_of the_type u) → (k : ℕ → A) (d : A) → if_struct u k d ≡ d
  unfolding if_struct
  no_struct (v.Scalar x) h k d = refl
  no_struct (v.Boolean x) h k d = refl
  no_struct (v.String o n) h k d = refl
  no_struct (v.FunctionReference o n) h k d = refl
  no_struct (v.List p) h k d = refl
  no_struct (v.StructInstance p) h k d = absurd (miss (0 ∷ 1 ∷ 2 ∷ 3 ∷ 4 ∷ []) 5 tt h)

-- texts that are inside
string_inside : (t : ℕ) (u : Value) → Inside t u → (o n : ℕ) → u ≡ v.String o n → o + n ≤ t
unfolding placed_below
string_inside t u i o n e = leb-true _ _ (subst (λ (x : Value). placed_below t i.heap i.below x ≡ true) e i.placed)

reference_inside : (t : ℕ) (u : Value) → Inside t u → (o n : ℕ) → u ≡ v.FunctionReference o n → o + n ≤ t
unfolding placed_below
reference_inside t u i o n e = leb-true _ _ (subst (λ (x : Value). placed_below t i.heap i.below x ≡ true) e i.placed)

-- the arms, a's kind known
module _ (t : List ℕ) (a b : Value) where
  module _ (x : Float) (ea : a ≡ v.Scalar x) where
    pub scalars : (y : Float) → b ≡ v.Scalar y → Compared t a b (Said (Ieee.eq x y))
    unfolding same_pair if_scalar
    scalars y eb r H = rw (ea, eb)

    pub scalar_other : OneOf (1 ∷ 2 ∷ 3 ∷ 4 ∷ 5 ∷ []) (tag_of the_type b) → Compared t a b (Said false)
    unfolding same_pair
    scalar_other h r H = rw ea (no_scalar b h _ (said false))

  module _ (x : Bool) (ea : a ≡ v.Boolean x) where
    pub booleans : (y : Bool) → b ≡ v.Boolean y → (z : Bool) → z ≡ beq x y → Compared t a b (Said z)
    unfolding same_pair if_boolean
    booleans y eb z e r H = rw (ea, eb, e)

    pub boolean_other : OneOf (0 ∷ 2 ∷ 3 ∷ 4 ∷ 5 ∷ []) (tag_of the_type b) → Compared t a b (Said false)
    unfolding same_pair
    boolean_other h r H = rw ea (no_boolean b h _ (said false))

  module _ (o n : ℕ) (ea : a ≡ v.String o n) where
    pub strings_inside : Inside (length t) a × Inside (length t) b → (p m : ℕ) → b ≡ v.String p m → (o + n ≤ length t) × (p + m ≤ length t)
    strings_inside i p m eb = (string_inside (length t) a i.0 o n ea, string_inside (length t) b i.1 p m eb)

    pub strings : (p m : ℕ) → b ≡ v.String p m → (z : Bool) → z ≡ same_bytes (text_at t o n) (text_at t p m) → Compared t a b (Said z)
    unfolding same_pair if_string
    strings p m eb z e r H = rw (ea, eb, e)

    pub string_other : OneOf (0 ∷ 1 ∷ 3 ∷ 4 ∷ 5 ∷ []) (tag_of the_type b) → Compared t a b (Said false)
    unfolding same_pair
    string_other h r H = rw ea (no_string b h _ (said false))

  module _ (o n : ℕ) (ea : a ≡ v.FunctionReference o n) where
    pub references_inside : Inside (length t) a × Inside (length t) b → (p m : ℕ) → b ≡ v.FunctionReference p m → (o + n ≤ length t) × (p + m ≤ length t)
    references_inside i p m eb = (reference_inside (length t) a i.0 o n ea, reference_inside (length t) b i.1 p m eb)

    pub references : (p m : ℕ) → b ≡ v.FunctionReference p m → (z : Bool) → z ≡ same_bytes (text_at t o n) (text_at t p m) → Compared t a b (Said z)
    unfolding same_pair if_reference
    references p m eb z e r H = rw (ea, eb, e)

    pub reference_other : OneOf (0 ∷ 1 ∷ 2 ∷ 4 ∷ 5 ∷ []) (tag_of the_type b) → Compared t a b (Said false)
    unfolding same_pair
    reference_other h r H = rw ea (no_reference b h _ (said false))

  module _ (p : ℕ) (ea : a ≡ v.List p) where
    pub two_lists : (q : ℕ) → b ≡ v.List q → Compared t a b (Blocks p q)
    two_lists q eb = rw (ea, eb) lists

    pub list_other : OneOf (0 ∷ 1 ∷ 2 ∷ 3 ∷ 5 ∷ []) (tag_of the_type b) → Compared t a b (Said false)
    unfolding same_pair
    list_other h r H = rw ea (no_list b h _ (said false))

  module _ (p : ℕ) (ea : a ≡ v.StructInstance p) where
    pub two_structs : (q : ℕ) → b ≡ v.StructInstance q → Compared t a b (Blocks p q)
    two_structs q eb = rw (ea, eb) structs

    pub struct_other : OneOf (0 ∷ 1 ∷ 2 ∷ 3 ∷ 4 ∷ []) (tag_of the_type b) → Compared t a b (Said false)
    unfolding same_pair
    struct_other h r H = rw ea (no_struct b h _ (said false))
