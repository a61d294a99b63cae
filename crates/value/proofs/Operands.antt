-- Operands from the top of a stack.
use mathlib.Core.Path.{◌≡◌, refl, sym, ap, fun_ext, ◌∙◌}
use mathlib.Core.Bool.{Bool}
use mathlib.Core.List.{List, [], ◌∷◌}
use Prim.Native.Nat.{ℕ, zero, suc, ◌-◌, ◌≤◌}
use native.Mathlib.Omega.{arith}
use lib.Ieee.{Float}
use lib.ListN.{drop}
use denote.Enum.Declared.{tag_of}
use types.Run.{OneOf, miss}
use Rattle.model.specs.contracts.Value.{the_type}
use Rattle.model.specs.declared.Value.{Value}
use Rattle.model.specs.declared.Value.TheVariants as v
use Rattle.model.specs.declared.Fault.{Fault}
use Rattle.model.specs.declared.Fault.TheVariants as f
use Rattle.model.specs.Values.{if_scalar, if_boolean, popping, popping_scalar, popping_boolean, value_at, vals}
use Rattle.value.specs.Links.{on_scalars, on_booleans, booleans_of, pop_of, scalars_of}
use Rattle.std.specs.Prelude.{Err, Ok, Result}

-- ---- one pop

pub pop_none : (n : ℕ) (s : List ℕ) → n ≡ 0 → Err f.TooFewValues ≡ pop_of (vals n s)
unfolding pop_of vals
pop_none n s e = rw e

pub pop_top : (n : ℕ) (s : List ℕ) {x : Value} → (n ≡ 0 → ⊥) → x ≡ value_at s (n - 1) → Ok x ≡ pop_of (vals n s)
unfolding pop_of vals
pop_top zero s h e = absurd (h refl)
pop_top (suc n) s h e = let z : suc n - 1 ≡ n = omega arith in ap Ok (e ∙ ap (value_at s) z)

-- no value was popped: there is none
pub none : {vs : List Value} {p : Result Value Fault} {t : Fault} → p ≡ pop_of vs → p ≡ Err t → vs ≡ []
unfolding pop_of
none {vs = []} e h = refl
none {vs = x ∷ r} e h = cc

-- a value was popped: it was on top
pub got_top : (n : ℕ) (s : List ℕ) {p : Result Value Fault} {x : Value} → p ≡ pop_of (vals n s) → p ≡ Ok x → vals n s ≡ x ∷ vals (n - 1) s
unfolding pop_of vals
got_top zero s e h = cc
got_top (suc n) s {x = x} e h =
    let z : suc n - 1 ≡ n = omega arith in
    let t : value_at s n ≡ x = cc in
    rw (z, t)

pub got_some : (n : ℕ) (s : List ℕ) {p : Result Value Fault} {x : Value} → p ≡ pop_of (vals n s) → p ≡ Ok x → 1 ≤ n
unfolding pop_of vals
got_some zero s e h = let z : ◌≡◌ {A = ℕ} 0 1 = cc in omega arith
got_some (suc n) s e h = omega arith

-- ---- two operands of one kind: `pick` does one thing with a value of the kind, and another with every other value

module _ {B R : Type 0} (pick : Value → (B → R) → R → R) (bad : Fault → R) (two : B → B → R) where
  abbrev both_of : List Value → R
  both_of vs = popping vs bad (λ y r. pick y (λ b. popping r bad (λ x q. pick x (λ a. two a b) (bad (f.WrongKind x)))) (bad (f.WrongKind y)))

  pub no_right : {vs : List Value} → vs ≡ [] → bad f.TooFewValues ≡ both_of vs
  unfolding popping
  no_right e = rw e

  module _ {vs : List Value} {y : Value} {r : List Value} (e : vs ≡ y ∷ r) where
    pub wrong_right : ((k : B → R) (d : R) → pick y k d ≡ d) → bad (f.WrongKind y) ≡ both_of vs
    unfolding popping
    wrong_right n = rw (e, n)

    module _ {b : B} (is_y : (k : B → R) (d : R) → pick y k d ≡ k b) where
      pub no_left : r ≡ [] → bad f.TooFewValues ≡ both_of vs
      unfolding popping
      no_left h = rw (e, h, is_y)

      module _ {x : Value} {q : List Value} (h : r ≡ x ∷ q) where
        pub wrong_left : ((k : B → R) (d : R) → pick x k d ≡ d) → bad (f.WrongKind x) ≡ both_of vs
        unfolding popping
        wrong_left n = rw (e, h, is_y, n)

        pub two_got : {a : B} → ((k : B → R) (d : R) → pick x k d ≡ k a) → two a b ≡ both_of vs
        unfolding popping
        two_got is_x = rw (e, h, is_y, is_x)

pub is_scalar_lem : {A : Type 0} {y : Value} {x : Float} → y ≡ v.Scalar x → (k : Float → A) (d : A) → if_scalar y k d ≡ k x
unfolding if_scalar
is_scalar_lem e k d = rw e

pub is_boolean_lem : {A : Type 0} {y : Value} {x : Bool} → y ≡ v.Boolean x → (k : Bool → A) (d : A) → if_boolean y k d ≡ k x
unfolding if_boolean
is_boolean_lem e k d = rw e

abbrev no_scalars : List ℕ
no_scalars = 1 ∷ 2 ∷ 3 ∷ 4 ∷ 5 ∷ []

pub no_scalar : {A : Type 0} (y : Value) → OneOf no_scalars (tag_of the_type y) → (k : Float → A) (d : A) → if_scalar y k d ≡ d
unfolding if_scalar
no_scalar (v.Scalar x) h k d = absurd (miss no_scalars 0 tt h)
no_scalar (v.Boolean x) h k d = refl
no_scalar (v.String o n) h k d = refl
no_scalar (v.FunctionReference o n) h k d = refl
no_scalar (v.List p) h k d = refl
no_scalar (v.StructInstance p) h k d = refl

abbrev no_booleans : List ℕ
no_booleans = 0 ∷ 2 ∷ 3 ∷ 4 ∷ 5 ∷ []

pub no_boolean : {A : Type 0} (y : Value) → OneOf no_booleans (tag_of the_type y) → (k : Bool → A) (d : A) → if_boolean y k d ≡ d
unfolding if_boolean
no_boolean (v.Scalar x) h k d = refl
no_boolean (v.Boolean x) h k d = absurd (miss no_booleans 1 tt h)
no_boolean (v.String o n) h k d = refl
no_boolean (v.FunctionReference o n) h k d = refl
no_boolean (v.List p) h k d = refl
no_boolean (v.StructInstance p) h k d = refl

-- ---- an arm goes by what `two_scalars` and `two_booleans` answer

module _ {B A : Type 0} (pick : Value → (B → A) → A → A) where
  both_arm : (e : Fault → A) (k : B → B → List Value → A) (vs : List Value)
      → popping vs e (λ y r. pick y (λ b. popping r e (λ x q. pick x (λ a. k a b q) (e (f.WrongKind x)))) (e (f.WrongKind y)))
      ≡ both_of pick e (λ a b. k a b (drop 2 vs)) vs
  unfolding popping
  both_arm e k [] = refl
  both_arm e k (y ∷ []) = refl
  both_arm e k (y ∷ x ∷ q) = refl

  -- what is done after a pick can be done in it, and so after two
  module _ {R : Type 0} (pick' : Value → (B → R) → R → R) (on : R → A)
      (into : (x : Value) (k : B → R) (d : R) → on (pick' x k d) ≡ pick x (λ a. on (k a)) (on d))
      (bad : Fault → R) (two : B → B → R) where
    on_both : (vs : List Value) → on (both_of pick' bad two vs) ≡ both_of pick (λ t. on (bad t)) (λ a b. on (two a b)) vs
    unfolding popping
    on_both [] = refl
    on_both (y ∷ []) = into y _ _
    on_both (y ∷ x ∷ q) = into y _ _ ∙ ap (λ (k : B → A). pick y k (on (bad (f.WrongKind y)))) (fun_ext (λ b. into x _ _))

into_scalar : {S T : Type 0} (h : S → T) (x : Value) (k : Float → S) (d : S) → h (if_scalar x k d) ≡ if_scalar x (λ a. h (k a)) (h d)
unfolding if_scalar
into_scalar h (v.Scalar x) k d = refl
into_scalar h (v.Boolean x) k d = refl
into_scalar h (v.String o n) k d = refl
into_scalar h (v.FunctionReference o n) k d = refl
into_scalar h (v.List p) k d = refl
into_scalar h (v.StructInstance p) k d = refl

into_boolean : {S T : Type 0} (h : S → T) (x : Value) (k : Bool → S) (d : S) → h (if_boolean x k d) ≡ if_boolean x (λ a. h (k a)) (h d)
unfolding if_boolean
into_boolean h (v.Scalar x) k d = refl
into_boolean h (v.Boolean x) k d = refl
into_boolean h (v.String o n) k d = refl
into_boolean h (v.FunctionReference o n) k d = refl
into_boolean h (v.List p) k d = refl
into_boolean h (v.StructInstance p) k d = refl

pub on_scalars_lem : {A : Type 0} (vs : List Value) (e : Fault → A) (k : Float → Float → List Value → A)
    → popping_scalar vs e (λ y r. popping_scalar r e (λ x q. k x y q)) ≡ on_scalars (scalars_of vs) e (λ x y. k x y (drop 2 vs))
unfolding popping_scalar scalars_of
on_scalars_lem {A} vs e k =
    let on : Result (Float × Float) Fault → A = (λ r. on_scalars r e (λ x y. k x y (drop 2 vs))) in
    both_arm if_scalar e k vs ∙ sym (on_both if_scalar if_scalar on (into_scalar on) Err (λ x y. Ok (x, y)) vs)

pub on_booleans_lem : {A : Type 0} (vs : List Value) (e : Fault → A) (k : Bool → Bool → List Value → A)
    → popping_boolean vs e (λ y r. popping_boolean r e (λ x q. k x y q)) ≡ on_booleans (booleans_of vs) e (λ x y. k x y (drop 2 vs))
unfolding popping_boolean booleans_of
on_booleans_lem {A} vs e k =
    let on : Result (Bool × Bool) Fault → A = (λ r. on_booleans r e (λ x y. k x y (drop 2 vs))) in
    both_arm if_boolean e k vs ∙ sym (on_both if_boolean if_boolean on (into_boolean on) Err (λ x y. Ok (x, y)) vs)
