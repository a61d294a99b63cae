-- One law for each combinator of the rules: what holds of every arm holds of the whole.
-- R relates two outcomes of the same combinator over the same values; a law of one outcome alone takes λ x y. Q x for it.
use Rattle.std.specs.Prelude.{if◌then◌else◌, Err, Ok, Result}
use mathlib.Core.Path.{◌≡◌, refl}
use mathlib.Core.Bool.{Bool, true, false}
use mathlib.Core.List.{List, [], ◌∷◌}
use Prim.Native.Nat.{ℕ, suc, ◌-◌, ◌≤◌, ◌<◌}
use native.Mathlib.Omega.{arith}
use borrow.Author.Tests.{ltb-true, ltb-false, leb-true, leb-false, le-leb}
use lib.Dec.{ltb, leb}
use lib.ListN.{length}
use lib.Ieee.{Float}
use Rattle.model.specs.declared.Value.{Value}
use Rattle.model.specs.declared.Value.TheVariants as v
use Rattle.model.specs.declared.Fault.{Fault}
use Rattle.model.specs.declared.Fault.TheVariants as f
use Rattle.model.specs.Values.{if_scalar, if_boolean, if_reference, if_struct, popping, popping_scalar, popping_boolean}
use Rattle.model.specs.Heap.{Cell, Built, built, unbuilt}
use Rattle.model.specs.Equality.{Same, same}
use Rattle.model.specs.Steps.{World, State, Outcome, went, faulted, short, with_stack, with_heap, with_units, paid, with_frames, pushing, on_found, on_same, enter, on_built}

module _ {A B : Type 0} (R : A → B → Type 0) where
  pub if_each : (b : Bool) {x y : A} {x' y' : B} → (b ≡ true → R x x') → (b ≡ false → R y y') → R (if b then x else y) (if b then x' else y')
  if_each true p q = p refl
  if_each false p q = q refl

  -- a test on one side only
  pub if_left : (b : Bool) {x y : A} {z : B} → (b ≡ true → R x z) → (b ≡ false → R y z) → R (if b then x else y) z
  if_left true p q = p refl
  if_left false p q = q refl

  -- the fault arm, and the arm that gets a value
  pub popping_each : (vs : List Value) {e : Fault → A} {e' : Fault → B} {k : Value → List Value → A} {k' : Value → List Value → B}
      → ((n : Fault) → R (e n) (e' n)) → ((v : Value) (r : List Value) → vs ≡ v ∷ r → R (k v r) (k' v r)) → R (popping vs e k) (popping vs e' k')
  unfolding popping
  popping_each [] p q = p f.TooFewValues
  popping_each (v ∷ r) p q = q v r refl

  pub if_scalar_each : (u : Value) {k : Float → A} {k' : Float → B} {x : A} {x' : B} → ((y : Float) → u ≡ v.Scalar y → R (k y) (k' y)) → R x x' → R (if_scalar u k x) (if_scalar u k' x')
  unfolding if_scalar
  if_scalar_each (v.Scalar y) p q = p y refl
  if_scalar_each (v.Boolean y) p q = q
  if_scalar_each (v.String o n) p q = q
  if_scalar_each (v.FunctionReference o n) p q = q
  if_scalar_each (v.List i) p q = q
  if_scalar_each (v.StructInstance i) p q = q

  pub if_boolean_each : (u : Value) {k : Bool → A} {k' : Bool → B} {x : A} {x' : B} → ((y : Bool) → u ≡ v.Boolean y → R (k y) (k' y)) → R x x' → R (if_boolean u k x) (if_boolean u k' x')
  unfolding if_boolean
  if_boolean_each (v.Scalar y) p q = q
  if_boolean_each (v.Boolean y) p q = p y refl
  if_boolean_each (v.String o n) p q = q
  if_boolean_each (v.FunctionReference o n) p q = q
  if_boolean_each (v.List i) p q = q
  if_boolean_each (v.StructInstance i) p q = q

  pub if_reference_each : (u : Value) {k : ℕ → ℕ → A} {k' : ℕ → ℕ → B} {x : A} {x' : B}
      → ((o n : ℕ) → u ≡ v.FunctionReference o n → R (k o n) (k' o n)) → R x x' → R (if_reference u k x) (if_reference u k' x')
  unfolding if_reference
  if_reference_each (v.Scalar y) p q = q
  if_reference_each (v.Boolean y) p q = q
  if_reference_each (v.String o n) p q = q
  if_reference_each (v.FunctionReference o n) p q = p o n refl
  if_reference_each (v.List i) p q = q
  if_reference_each (v.StructInstance i) p q = q

  pub if_struct_each : (u : Value) {k : ℕ → A} {k' : ℕ → B} {x : A} {x' : B} → ((i : ℕ) → u ≡ v.StructInstance i → R (k i) (k' i)) → R x x' → R (if_struct u k x) (if_struct u k' x')
  unfolding if_struct
  if_struct_each (v.Scalar y) p q = q
  if_struct_each (v.Boolean y) p q = q
  if_struct_each (v.String o n) p q = q
  if_struct_each (v.FunctionReference o n) p q = q
  if_struct_each (v.List i) p q = q
  if_struct_each (v.StructInstance i) p q = p i refl

  pub popping_scalar_each : (vs : List Value) {e : Fault → A} {e' : Fault → B} {k : Float → List Value → A} {k' : Float → List Value → B}
      → ((n : Fault) → R (e n) (e' n)) → ((x : Float) (r : List Value) → vs ≡ v.Scalar x ∷ r → R (k x r) (k' x r)) → R (popping_scalar vs e k) (popping_scalar vs e' k')
  unfolding popping_scalar
  popping_scalar_each vs p q = popping_each vs p (λ u r e. if_scalar_each u (λ y h. q y r (rw (e, h))) (p (f.WrongKind u)))

  pub popping_boolean_each : (vs : List Value) {e : Fault → A} {e' : Fault → B} {k : Bool → List Value → A} {k' : Bool → List Value → B}
      → ((n : Fault) → R (e n) (e' n)) → ((x : Bool) (r : List Value) → vs ≡ v.Boolean x ∷ r → R (k x r) (k' x r)) → R (popping_boolean vs e k) (popping_boolean vs e' k')
  unfolding popping_boolean
  popping_boolean_each vs p q = popping_each vs p (λ u r e. if_boolean_each u (λ y h. q y r (rw (e, h))) (p (f.WrongKind u)))

-- the same from s, and from s with u units
module _ (R : Outcome → Outcome → Type 0) where
  pub on_found_each : (x : Result Value Fault) {s t : State} {k k' : Value → Outcome}
      → ((n : Fault) → R (faulted n s) (faulted n t)) → ((y : Value) → x ≡ Ok y → R (k y) (k' y)) → R (on_found x s k) (on_found x t k')
  unfolding on_found
  on_found_each (Ok y) p q = q y refl
  on_found_each (Err n) p q = p n

  module _ (w : World) (s : State) (u : ℕ) where
    pub pushing_each : (x : Value) → R (faulted f.StackFull s) (faulted f.StackFull (with_units u s))
        → (length s.stack < w.stack_room → R (went (with_stack (x ∷ s.stack) s)) (went (with_stack (x ∷ s.stack) (with_units u s)))) → R (pushing w x s) (pushing w x (with_units u s))
    unfolding pushing
    pushing_each x p q = if_each R (ltb (length s.stack) w.stack_room) (λ e. q (ltb-true _ _ e)) (λ e. p)

    -- where s has too few units, nothing is asked of the other
    pub on_same_each : (t : Bool → Bool) (r : List Value) (x : Same) → s.units ≤ u → ((y : Outcome) → R short y)
        → ((b : Bool) (k : ℕ) → x ≡ same b k → k ≤ s.units
        → R (went (with_stack (v.Boolean (t b) ∷ r) (paid k s))) (went (with_stack (v.Boolean (t b) ∷ r) (paid k (with_units u s)))))
        → R (on_same t r s x) (on_same t r (with_units u s) x)
    unfolding on_same
    on_same_each t r (same b k) h p q =
        if_left R (leb k s.units) (λ e. let z : k ≤ s.units = leb-true _ _ e in rw (le-leb k u (omega arith)) (q b k refl z)) (λ e. p _)

    pub on_built_each : (t : ℕ → Value) (r : List Value) (x : Built) → ((n : Fault) → R (faulted n s) (faulted n (with_units u s)))
        → ((H : List Cell) → x ≡ built H → R (pushing w (t (length s.heap)) (with_stack r (with_heap H s))) (pushing w (t (length s.heap)) (with_stack r (with_heap H (with_units u s)))))
        → R (on_built w t r s x) (on_built w t r (with_units u s) x)
    unfolding on_built
    on_built_each t r (built H) p q = q H refl
    on_built_each t r (unbuilt n) p q = p n

    pub enter_each : (i n : ℕ) (r : List Value) → ((m : Fault) → R (faulted m s) (faulted m (with_units u s)))
        → (n ≤ length r → suc (length s.callers) < w.frame_room
        → R (went (with_stack r (with_frames (record { function = i; position = 0; base = length r - n; entered = s.spent }) (s.frame ∷ s.callers) s)))
        (went (with_stack r (with_frames (record { function = i; position = 0; base = length r - n; entered = s.spent }) (s.frame ∷ s.callers) (with_units u s)))))
        → R (enter w i n r s) (enter w i n r (with_units u s))
    unfolding enter
    enter_each i n r p q =
        if_each R (ltb (length r) n) (λ e. p f.TooFewValues)
        (λ e. if_each R (leb w.frame_room (suc (length s.callers))) (λ e'. p f.FramesFull) (λ e'. q (ltb-false _ _ e) (leb-false _ _ e')))
