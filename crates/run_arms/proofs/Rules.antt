-- What the rules come to, by what was popped or looked up.
use mathlib.Core.Path.{◌≡◌, refl, ◌∙◌}
use mathlib.Core.Bool.{Bool, true, false}
use mathlib.Core.List.{List}
use Prim.Native.Nat.{ℕ, zero, suc, ◌+◌, ◌-◌, ◌*◌, ◌/◌, ◌%◌, ◌^◌, ◌≤◌, ◌<◌, min}
use native.Mathlib.Omega.{arith}
use borrow.Author.Tests.{lt-ltb, le-ltb, eq-eqb, ne_eqb}
use lib.Ieee.{Float}
use Rattle.model.specs.declared.Value.{Value}
use Rattle.model.specs.declared.Value.TheVariants as v
use Rattle.model.specs.declared.Fault.{Fault}
use Rattle.model.specs.declared.Fault.TheVariants as f
use Rattle.model.specs.Values.{if_reference, text_at, value_of, value_at, vals, values_from, popping, popping_scalar, popping_boolean, if_scalar, if_boolean}
use Rattle.model.specs.Programs.{newest_from, function_named}
use Rattle.model.specs.Stores.{Stores, start, size, pack, part}
use Rattle.model.specs.Emission.{names_from, told_name}
use Rattle.model.specs.Steps.{World, constant_of, slot_of, last_of, cut}
use Rattle.value.proofs.Stores.{length_values, get_d_values, length_vals, vals_slot, vals_drop}
use Rattle.value.proofs.Operands.{none, got_top, on_scalars_lem, on_booleans_lem}
use Rattle.layout.specs.Links.{names_lent}
use Rattle.run_arms.specs.declared.Fixed.{Fixed}
use Rattle.value.specs.Links.{last_in, booleans_of, pop_of, scalars_of}
use Rattle.run_arms.specs.Links.{Named}
use Rattle.std.specs.Prelude.{Err, Ok, Result}
use Rattle.model.specs.declared.Refusal.{Refusal}

-- ---- one value is popped

module _ (n : ℕ) (s : List ℕ) {r : Result Value Fault} (p : r ≡ pop_of (vals n s)) {A : Type 0} (e : Fault → A) (k : Value → List Value → A) where
  pub no_top : {t : Fault} → r ≡ Err t → popping (vals n s) e k ≡ e f.TooFewValues
  unfolding popping
  no_top h = rw (none p h)

  pub top : {x : Value} → r ≡ Ok x → popping (vals n s) e k ≡ k x (vals (n - 1) s)
  unfolding popping
  top h = rw (got_top n s p h)

-- ---- two are

module _ (n : ℕ) (s : List ℕ) {r : Result (Float × Float) Fault} (p : r ≡ scalars_of (vals n s)) {A : Type 0} (e : Fault → A) (k : Float → Float → List Value → A) where
  pub no_scalars : {t : Fault} → r ≡ Err t → popping_scalar (vals n s) e (λ y q. popping_scalar q e (λ x q. k x y q)) ≡ e t
  no_scalars h = on_scalars_lem (vals n s) e k ∙ rw (← p, h)

  pub scalars : {x y : Float} → r ≡ Ok (x, y) → popping_scalar (vals n s) e (λ y q. popping_scalar q e (λ x q. k x y q)) ≡ k x y (vals (n - 2) s)
  scalars h = on_scalars_lem (vals n s) e k ∙ rw (← p, h, vals_drop 2 n s)

module _ (n : ℕ) (s : List ℕ) {r : Result (Bool × Bool) Fault} (p : r ≡ booleans_of (vals n s)) {A : Type 0} (e : Fault → A) (k : Bool → Bool → List Value → A) where
  pub no_booleans : {t : Fault} → r ≡ Err t → popping_boolean (vals n s) e (λ y q. popping_boolean q e (λ x q. k x y q)) ≡ e t
  no_booleans h = on_booleans_lem (vals n s) e k ∙ rw (← p, h)

  pub booleans : {x y : Bool} → r ≡ Ok (x, y) → popping_boolean (vals n s) e (λ y q. popping_boolean q e (λ x q. k x y q)) ≡ k x y (vals (n - 2) s)
  booleans h = on_booleans_lem (vals n s) e k ∙ rw (← p, h, vals_drop 2 n s)

-- the place of the left one
pub left_place : (n : ℕ) → n - 1 - 1 ≡ n - 2
left_place n = omega arith

-- of fewer than two values there are no two
lone_scalar : (x : Value) (t : Bool) → if_scalar x (λ y. t) t ≡ t
unfolding if_scalar
lone_scalar (v.Scalar x) t = refl
lone_scalar (v.Boolean x) t = refl
lone_scalar (v.String o n) t = refl
lone_scalar (v.FunctionReference o n) t = refl
lone_scalar (v.List p) t = refl
lone_scalar (v.StructInstance p) t = refl

lone_boolean : (x : Value) (t : Bool) → if_boolean x (λ y. t) t ≡ t
unfolding if_boolean
lone_boolean (v.Scalar x) t = refl
lone_boolean (v.Boolean x) t = refl
lone_boolean (v.String o n) t = refl
lone_boolean (v.FunctionReference o n) t = refl
lone_boolean (v.List p) t = refl
lone_boolean (v.StructInstance p) t = refl

pub two_scalars : (n : ℕ) (s : List ℕ) {r : Result (Float × Float) Fault} {x y : Float} → r ≡ scalars_of (vals n s) → r ≡ Ok (x, y) → 2 ≤ n
unfolding vals popping popping_scalar
two_scalars zero s p h = let z : false ≡ true = scalars 0 s p (λ t. false) (λ x y q. true) h in let w : ◌≡◌ {A = ℕ} 0 1 = cc in omega arith
two_scalars (suc zero) s p h =
    let z : if_scalar (value_at s 0) (λ y. false) false ≡ true = scalars 1 s p (λ t. false) (λ x y q. true) h in
    let y = lone_scalar (value_at s 0) false in
    let w : ◌≡◌ {A = ℕ} 0 1 = cc in omega arith
two_scalars (suc (suc n)) s p h = omega arith

pub two_booleans : (n : ℕ) (s : List ℕ) {r : Result (Bool × Bool) Fault} {x y : Bool} → r ≡ booleans_of (vals n s) → r ≡ Ok (x, y) → 2 ≤ n
unfolding vals popping popping_boolean
two_booleans zero s p h = let z : false ≡ true = booleans 0 s p (λ t. false) (λ x y q. true) h in let w : ◌≡◌ {A = ℕ} 0 1 = cc in omega arith
two_booleans (suc zero) s p h =
    let z : if_boolean (value_at s 0) (λ y. false) false ≡ true = booleans 1 s p (λ t. false) (λ x y q. true) h in
    let y = lone_boolean (value_at s 0) false in
    let w : ◌≡◌ {A = ℕ} 0 1 = cc in omega arith
two_booleans (suc (suc n)) s p h = omega arith

-- ---- a constant, a slot, the last result

module _ (n : ℕ) (s : List ℕ) (a : ℕ) where
  module _ {cs : List Value} (e : cs ≡ values_from n 0 s) where
    pub no_constant : n ≤ a → constant_of cs a ≡ Err f.OutOfRange
    unfolding constant_of
    no_constant h = rw (e, length_values n 0 s, le-ltb a n h)

    pub constant : {x : Value} → a < n → x ≡ value_at s a → constant_of cs a ≡ Ok x
    unfolding constant_of
    constant h d =
        let z : 0 + a ≡ a = omega arith in
        rw (e, length_values n 0 s, lt-ltb a n h, get_d_values n 0 s a (v.Boolean false) h, z, d)

  pub no_slot : n ≤ a → slot_of (vals n s) a ≡ Err f.OutOfRange
  unfolding slot_of
  no_slot h = rw (length_vals n s, le-ltb a n h)

  pub slot : {x : Value} → a < n → x ≡ value_at s a → slot_of (vals n s) a ≡ Ok x
  unfolding slot_of
  slot h d = rw (length_vals n s, lt-ltb a n h, vals_slot n s a (v.Boolean false) h, d)

module _ (k a : ℕ) where
  pub no_last_lem : k ≡ 7 → last_of (last_in k a) ≡ Err f.NoLastResult
  unfolding last_of last_in
  no_last_lem h = rw (eq-eqb k 7 h)

  pub last : {x : Value} → (k ≡ 7 → ⊥) → x ≡ value_of k a → last_of (last_in k a) ≡ Ok x
  unfolding last_of last_in
  last h d = rw (ne_eqb k 7 h, d)

-- ---- a stack shortened

pub cut_vals : (b n : ℕ) (s : List ℕ) → cut b (vals n s) ≡ vals (min b n) s
unfolding cut
cut_vals b n s = let z : n - (n - b) ≡ min b n = omega arith in rw (length_vals n s, vals_drop (n - b) n s, z)

-- ---- a function by its name

pub is_reference_lem : {A : Type 0} {x : Value} {o n : ℕ} → x ≡ v.FunctionReference o n → (k : ℕ → ℕ → A) (d : A) → if_reference x k d ≡ k o n
unfolding if_reference
is_reference_lem e k d = rw e

-- the word of a reference names its text
pub part_packed : (t : List ℕ) (o n : ℕ) → o < 2 ^ 32 → part t (pack o n) ≡ text_at t o n
unfolding part pack start size
part_packed t o n h =
    let a : (o + 0x1_0000_0000 * n) % 0x1_0000_0000 ≡ o = omega arith in
    let b : (o + 0x1_0000_0000 * n) / 0x1_0000_0000 ≡ n = omega arith in
    rw (a, b)

-- what the search was told is what the rule looks for
module _ (u : World) (k : Fixed) (fs t : List ℕ) (rest : Stores) (e : Named k (names_lent rest fs t) u) (o n : ℕ) where
  pub named_as : {q : Result ℕ Refusal} {name : List ℕ} {w : ℕ} → o < 2 ^ 32 → w ≡ pack o n → name ≡ part t w
      → q ≡ told_name (newest_from 0 name (names_from k.functions 0 (names_lent rest fs t)))
      → q ≡ told_name (function_named (text_at u.text o n) u.functions)
  unfolding function_named names_lent
  named_as h c d q = rw (e.names, e.text, ← part_packed t o n h, ← c, ← d) q
