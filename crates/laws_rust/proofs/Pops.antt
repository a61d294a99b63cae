-- A pop of the rules and a pop of the Rust agree if what comes next does: too few values, or one of another kind, is a panic.
use mathlib.Core.Path.{◌≡◌, refl, ap}
use mathlib.Core.Bool.{Bool, true}
use mathlib.Core.List.{List, [], ◌∷◌, map}
use Prim.Native.Nat.{ℕ}
use lib.ListN.{length}
use lib.Ieee.{Float}
use Rattle.model.specs.declared.Value.{Value}
use Rattle.model.specs.declared.Value.TheVariants as v
use Rattle.model.specs.declared.Fault.TheVariants as f
use Rattle.model.specs.Values.{if_scalar, if_boolean, if_reference, if_struct, popping, popping_scalar, popping_boolean, text_at}
use Rattle.model.specs.Heap.{Cell, head_in, elements_in, heap_ok}
use Rattle.model.specs.Trees.{Tree, Trees, trees_of, tree_of, meaning_to, meaning}
use Rattle.model.specs.Steps.{World, State, Outcome, faulted, with_stack}
use Rattle.cells.proofs.Order.{Placed, good_of}
use Rattle.cells.proofs.Meaning.{meaning_step}
use Rattle.laws_rust.specs.Vm.{Vm, Did, panic, pop, pop_from, pop_quantity, pop_bool, if_quantity, if_boolean_lem, if_function_reference, if_struct_instance}
use Rattle.laws_rust.specs.Same.{rust_of, rust_at, Panics, FaultsAs, Agrees}
use Rattle.laws_rust.proofs.Reading.{agrees_as}

-- ---- the kind of a value; t is where the rules fault

module _ (w : World) (t : State) (H : List Cell) where
  scalar_agrees : (x : Value) (k : Float → Outcome) (k' : Float → Did) → ((y : Float) → x ≡ v.Scalar y → Agrees w (k y) (k' y))
      → Agrees w (if_scalar x k (faulted (f.WrongKind x) t)) (if_quantity (meaning w.text H x) k' panic)
  unfolding if_scalar if_quantity meaning meaning_to tree_of Agrees FaultsAs Panics
  scalar_agrees (v.Scalar y) k k' next = next y refl
  scalar_agrees (v.Boolean y) k k' next = tt
  scalar_agrees (v.String o n) k k' next = tt
  scalar_agrees (v.FunctionReference o n) k k' next = tt
  scalar_agrees (v.List p) k k' next = tt
  scalar_agrees (v.StructInstance p) k k' next = tt

  boolean_agrees : (x : Value) (k : Bool → Outcome) (k' : Bool → Did) → ((y : Bool) → x ≡ v.Boolean y → Agrees w (k y) (k' y))
      → Agrees w (if_boolean x k (faulted (f.WrongKind x) t)) (if_boolean_lem (meaning w.text H x) k' panic)
  unfolding if_boolean if_boolean_lem meaning meaning_to tree_of Agrees FaultsAs Panics
  boolean_agrees (v.Scalar y) k k' next = tt
  boolean_agrees (v.Boolean y) k k' next = next y refl
  boolean_agrees (v.String o n) k k' next = tt
  boolean_agrees (v.FunctionReference o n) k k' next = tt
  boolean_agrees (v.List p) k k' next = tt
  boolean_agrees (v.StructInstance p) k k' next = tt

  -- a name
  pub reference_agrees : (x : Value) (k : ℕ → ℕ → Outcome) (k' : List ℕ → Did)
      → ((o n : ℕ) → x ≡ v.FunctionReference o n → Agrees w (k o n) (k' (text_at w.text o n)))
      → Agrees w (if_reference x k (faulted (f.WrongKind x) t)) (if_function_reference (meaning w.text H x) k' panic)
  unfolding if_reference if_function_reference meaning meaning_to tree_of Agrees FaultsAs Panics
  reference_agrees (v.Scalar y) k k' next = tt
  reference_agrees (v.Boolean y) k k' next = tt
  reference_agrees (v.String o n) k k' next = tt
  reference_agrees (v.FunctionReference o n) k k' next = next o n refl
  reference_agrees (v.List p) k k' next = tt
  reference_agrees (v.StructInstance p) k k' next = tt

  struct_or : (x : Value) (k : ℕ → Outcome) (k' : ℕ → Trees → Did)
      → ((p : ℕ) → x ≡ v.StructInstance p → Agrees w (k p) (k' (head_in H p).number (trees_of (λ u. meaning w.text H u) (elements_in H p))))
      → Agrees w (if_struct x k (faulted (f.WrongKind x) t)) (if_struct_instance (tree_of (λ u. meaning w.text H u) w.text H x) k' panic)
  unfolding if_struct if_struct_instance tree_of Agrees FaultsAs Panics
  struct_or (v.Scalar y) k k' next = tt
  struct_or (v.Boolean y) k k' next = tt
  struct_or (v.String o n) k k' next = tt
  struct_or (v.FunctionReference o n) k k' next = tt
  struct_or (v.List p) k k' next = tt
  struct_or (v.StructInstance p) k k' next = next p refl

  -- a struct, whose fields mean what the elements of its block mean
  pub struct_agrees : heap_ok (length w.text) H ≡ true → (x : Value) → Placed (length w.text) H (length H) x → (k : ℕ → Outcome) (k' : ℕ → Trees → Did)
      → ((p : ℕ) → x ≡ v.StructInstance p → Agrees w (k p) (k' (head_in H p).number (trees_of (λ u. meaning w.text H u) (elements_in H p))))
      → Agrees w (if_struct x k (faulted (f.WrongKind x) t)) (if_struct_instance (meaning w.text H x) k' panic)
  struct_agrees good x placed k k' next =
      agrees_as w _ (ap (λ (m : Tree). if_struct_instance m k' panic) (meaning_step w.text H (good_of (length w.text) H good) x placed)) (struct_or x k k' next)

-- ---- pops from the stack of s

module _ (w : World) (t s : State) where
  popped : (k : Value → List Value → Outcome) (k' : Tree → Vm → Did) (vs : List Value)
      → ((x : Value) (r : List Value) → vs ≡ x ∷ r → Agrees w (k x r) (k' (meaning w.text s.heap x) (rust_at w (with_stack r s))))
      → Agrees w (popping vs (λ n. faulted n t) k) (pop_from (map (meaning w.text s.heap) vs) (rust_at w s) k')
  unfolding popping pop_from rust_of Agrees FaultsAs Panics
  popped k k' [] next = tt
  popped k k' (x ∷ r) next = next x r refl

  pub pop_agrees : (k : Value → List Value → Outcome) (k' : Tree → Vm → Did)
      → ((x : Value) (r : List Value) → s.stack ≡ x ∷ r → Agrees w (k x r) (k' (meaning w.text s.heap x) (rust_at w (with_stack r s))))
      → Agrees w (popping s.stack (λ n. faulted n t) k) (pop (rust_at w s) k')
  unfolding pop rust_of
  pop_agrees k k' next = popped k k' s.stack next

  pub pop_scalar_agrees : (k : Float → List Value → Outcome) (k' : Float → Vm → Did)
      → ((y : Float) (r : List Value) → Agrees w (k y r) (k' y (rust_at w (with_stack r s))))
      → Agrees w (popping_scalar s.stack (λ n. faulted n t) k) (pop_quantity (rust_at w s) k')
  unfolding popping_scalar pop_quantity
  pop_scalar_agrees k k' next = pop_agrees _ _ (λ x r e. scalar_agrees w t s.heap x _ _ (λ y ey. next y r))

  pub pop_boolean_agrees : (k : Bool → List Value → Outcome) (k' : Bool → Vm → Did)
      → ((y : Bool) (r : List Value) → Agrees w (k y r) (k' y (rust_at w (with_stack r s))))
      → Agrees w (popping_boolean s.stack (λ n. faulted n t) k) (pop_bool (rust_at w s) k')
  unfolding popping_boolean pop_bool
  pop_boolean_agrees k k' next = pop_agrees _ _ (λ x r e. boolean_agrees w t s.heap x _ _ (λ y ey. next y r))
