-- Arms of the Rust, each of which does what the rules' step does from a state whose operands are read: values that are held, numbers, logic, jumps.
use Rattle.std.specs.Prelude.{if◌then◌else◌, Err, None, Ok, Option, Some}
use mathlib.Core.Path.{◌≡◌, refl, sym, ap, ◌∙◌}
use mathlib.Core.Bool.{Bool, true, false, not, ◌&&◌, ◌||◌}
use mathlib.Core.List.{List, [], ◌∷◌, map, reverse}
use Prim.Native.Nat.{ℕ, ◌+◌, ◌<◌}
use native.Mathlib.Omega.{arith}
use borrow.Author.Tests.{ltb-true, ltb-false}
use lib.Dec.{ltb}
use lib.ListN.{length, get_or, length-map, length-reverse, get_or-map}
use lib.Ieee as f64
use lib.Ieee.{Float, binary64, fin}
use lib.IntN.{pos}
use Rattle.model.specs.declared.Arith.{Arith}
use Rattle.model.specs.declared.Arith.TheVariants as a
use Rattle.model.specs.declared.Order.{Order}
use Rattle.model.specs.declared.Order.TheVariants as c
use Rattle.model.specs.declared.Value.{Value}
use Rattle.model.specs.declared.Value.TheVariants as v
use Rattle.model.specs.declared.Fault.TheVariants as f
use Rattle.model.specs.Values.{popping_scalar}
use Rattle.model.specs.Scalars.{arith_of, finite, result_of, zero_divisor, order_of}
use Rattle.model.specs.Heap.{heap_ok, blocks_from}
use Rattle.model.specs.Trees.{Tree, tree_of, meaning_to, meaning, scalar, boolean}
use Rattle.model.specs.Steps.{World, State, Outcome, went, faulted, with_stack, at, position, pushing, on_found, constant_of, slot_of, last_of, load_step, slot_step, last_step, negate_step}
use Rattle.model.specs.Steps.{arithmetic_step, ordering_step, logic_step, not_step, jump_step, jump_if_false_step}
use Rattle.value.proofs.Coding.{and_right}
use Rattle.cells.proofs.Meaning.{meaning_kept}
use Rattle.laws_runs.specs.Sane.{SaneWorld}
use Rattle.laws_runs.proofs.Placed.{all_at}
use Rattle.laws_rust.specs.Vm as rust
use Rattle.laws_rust.specs.Vm.{Vm, Did, panic, push}
use Rattle.laws_rust.specs.Same.{last_in, rust_of, rust_at, Panics, DividesByZero, FaultsAs, Agrees}
use Rattle.laws_rust.proofs.Reading.{agrees_as, index_there, index_past}
use Rattle.laws_rust.proofs.Pops.{pop_scalar_agrees, pop_boolean_agrees}
use Rattle.laws_rust.proofs.Orderings.{compared, less_than, greater_than, less_or_equal, greater_or_equal}
use Rattle.laws_rust.proofs.Stacks.{slot_there}

not_so : (b : Bool) → not b ≡ true → b ≡ false
not_so true e = sym e
not_so false e = refl

module _ (w : World) (s : State) where
  -- what a value of s means
  abbrev tree : Value → Tree
  tree x = meaning w.text s.heap x

  -- ---- a value found, and pushed; of a full stack the Rust knows nothing

  pushes : (x : Value) (m : Tree) → m ≡ tree x → Agrees w (pushing w x s) (rust.went (push (rust_at w s) m))
  unfolding pushing push rust_of Agrees FaultsAs
  pushes x m e = on (ltb (length s.stack) w.stack_room)
    where
      on : (b : Bool) → Agrees w (if b then went (with_stack (x ∷ s.stack) s) else faulted f.StackFull s) (rust.went (push (rust_at w s) m))
      on true = ap (λ (u : Tree). rust.went (push (rust_at w s) u)) e
      on false = tt

  found_or : (b : Bool) (x : Value) (d : Did) → (b ≡ true → Agrees w (pushing w x s) d) → (b ≡ false → d ≡ panic)
      → Agrees w (on_found (if b then Ok x else Err f.OutOfRange) s (λ y. pushing w y s)) d
  unfolding on_found Agrees FaultsAs Panics
  found_or true x d there past = there refl
  found_or false x d there past = agrees_as w (faulted f.OutOfRange s) (past refl) tt

  -- a constant names no cell, so it means the same beside any
  constant_means : SaneWorld w → (i : ℕ) → i < length w.constants → (let x = get_or w.constants i (v.Boolean false) in meaning w.text [] x ≡ tree x)
  unfolding heap_ok blocks_from
  constant_means good i h = sym (meaning_kept w.text [] s.heap refl _ (all_at (length w.text) [] w.constants good.constants i h))

  pub loads : SaneWorld w → (i : ℕ) → Agrees w (load_step w i s) (rust.index (rust_at w s).constants i (λ m. rust.went (push (rust_at w s) m)))
  unfolding load_step constant_of rust_of
  loads good i =
      let n : length (map (meaning w.text []) w.constants) ≡ length w.constants = length-map w.constants (meaning w.text []) in
      found_or (ltb i (length w.constants)) _ _
      (λ e. agrees_as w _ (index_there (map (meaning w.text []) w.constants) i (meaning w.text [] (v.Boolean false)) _ (omega (arith, ltb-true)))
      (pushes _ _ (get_or-map (meaning w.text []) w.constants i (v.Boolean false) ∙ constant_means good i (ltb-true _ _ e))))
      (λ e. index_past (map (meaning w.text []) w.constants) i _ (omega (arith, ltb-false)))

  pub gets : (i : ℕ) → Agrees w (slot_step w i s) (rust.stack_at (rust_at w s) i (λ m. rust.went (push (rust_at w s) m)))
  unfolding slot_step slot_of rust.stack_at rust_of
  gets i =
      let n : length (reverse (map tree s.stack)) ≡ length s.stack = length-reverse (map tree s.stack) ∙ length-map s.stack tree in
      found_or (ltb i (length s.stack)) _ _
      (λ e. agrees_as w _ (slot_there tree s.stack i _ (ltb-true _ _ e)) (pushes _ _ refl))
      (λ e. index_past (reverse (map tree s.stack)) i _ (omega (arith, ltb-false)))

  last_or : (l : Option Value) → Agrees w (on_found (last_of l) s (λ x. pushing w x s)) (rust.unwrap (last_in w.text s.heap l) (λ m. rust.went (push (rust_at w s) m)))
  unfolding on_found last_of rust.unwrap Agrees FaultsAs Panics
  last_or None = tt
  last_or (Some x) = pushes x (tree x) refl

  pub gets_last : Agrees w (last_step w s) (rust.unwrap (rust_at w s).last_result_lem (λ m. rust.went (push (rust_at w s) m)))
  unfolding last_step rust_of
  gets_last = last_or s.last

  -- ---- numbers

  pub negates : Agrees w (negate_step s) (rust.pop_quantity (rust_at w s) (λ x vm. rust.went (push vm (scalar (f64.neg x)))))
  unfolding negate_step push rust_of meaning meaning_to tree_of Agrees
  negates = pop_scalar_agrees w s s _ _ (λ x r. refl)

  two_scalars : (k : Float → Float → List Value → Outcome) (k' : Float → Float → Vm → Did)
      → ((y x : Float) (q : List Value) → Agrees w (k y x q) (k' x y (rust_at w (with_stack q s))))
      → Agrees w (popping_scalar s.stack (λ n. faulted n s) (λ y r. popping_scalar r (λ n. faulted n s) (λ x q. k y x q))) (rust.two_quantities (rust_at w s) k')
  unfolding rust.two_quantities
  two_scalars k k' next = pop_scalar_agrees w s s _ _ (λ y r. pop_scalar_agrees w s (with_stack r s) _ _ (λ x q. next y x q))

  -- a result, which a strict machine refuses if it has escaped; the Rust goes on with it
  pushes_result : (o : Arith) (y x : Float) (q : List Value) (b : Bool) → (w.strict && (result_of o x y).escaped) ≡ b
      → Agrees w (if b then faulted f.NotFinite s else went (with_stack (v.Scalar (result_of o x y).value ∷ q) s))
      (rust.went (push (rust_at w (with_stack q s)) (scalar (result_of o x y).value)))
  unfolding push rust_of meaning meaning_to tree_of Agrees FaultsAs result_of
  pushes_result o y x q true e =
      let result = arith_of o x y in
      let escaped = and_right w.strict (finite x && finite y && not (finite result)) e in
      record { number = result; rest = map tree q; escaped = not_so (finite result) (and_right (finite x && finite y) (not (finite result)) escaped); is = refl }
  pushes_result o y x q false e = refl

  computed : (o : Arith) → ((y : Float) → zero_divisor o y ≡ false) → Agrees w (arithmetic_step w o s) (rust.arithmetic (arith_of o) (rust_at w s))
  unfolding arithmetic_step rust.arithmetic result_of
  computed o fine = two_scalars _ _ (λ y x q. rw (fine y) (pushes_result o y x q (w.strict && (result_of o x y).escaped) refl))

  divided : (y x : Float) (q : List Value) (b : Bool)
      → Agrees w (if b then faulted f.ZeroDivisor s else
      (if w.strict && (result_of a.Divide x y).escaped then faulted f.NotFinite s else went (with_stack (v.Scalar (result_of a.Divide x y).value ∷ q) s)))
      (if b then rust.division_by_zero (rust_at w (with_stack q s)) else rust.went (push (rust_at w (with_stack q s)) (scalar (f64.div binary64 x y))))
  unfolding push rust_of meaning meaning_to tree_of Agrees FaultsAs DividesByZero result_of arith_of
  divided y x q true = (map tree q, refl)
  divided y x q false = pushes_result a.Divide y x q (w.strict && (result_of a.Divide x y).escaped) refl

  pub adds : Agrees w (arithmetic_step w a.Add s) (rust.arithmetic (f64.add binary64) (rust_at w s))
  unfolding arith_of zero_divisor
  adds = computed a.Add (λ y. refl)

  pub subtracts : Agrees w (arithmetic_step w a.Subtract s) (rust.arithmetic (f64.sub binary64) (rust_at w s))
  unfolding arith_of zero_divisor
  subtracts = computed a.Subtract (λ y. refl)

  pub multiplies : Agrees w (arithmetic_step w a.Multiply s) (rust.arithmetic (f64.mul binary64) (rust_at w s))
  unfolding arith_of zero_divisor
  multiplies = computed a.Multiply (λ y. refl)

  pub divides : Agrees w (arithmetic_step w a.Divide s) (rust.checked_div (rust_at w s))
  unfolding arithmetic_step arith_of zero_divisor rust.checked_div
  divides = two_scalars _ _ (λ y x q. divided y x q (f64.eq y (fin false 0 (pos 0))))

  -- the Rust's verdict is the rules', for each of the four
  ordered : (o : Order) (less equal greater : Bool)
      → ((x y : Float) → (if f64.is_nan x || f64.is_nan y then false else (if f64.lt x y then less else (if f64.eq x y then equal else greater))) ≡ order_of o x y)
      → Agrees w (ordering_step o s) (rust.ordering less equal greater (rust_at w s))
  unfolding ordering_step rust.ordering push rust_of meaning meaning_to tree_of Agrees
  ordered o less equal greater is =
      two_scalars _ _ (λ y x q. ap (λ (b : Bool). rust.went (push (rust_at w (with_stack q s)) (boolean b))) (is x y))

  pub orders_less : Agrees w (ordering_step c.LessThan s) (rust.ordering true false false (rust_at w s))
  unfolding order_of
  orders_less = ordered c.LessThan true false false (λ x y. less_than (compared x y))

  pub orders_greater : Agrees w (ordering_step c.GreaterThan s) (rust.ordering false false true (rust_at w s))
  unfolding order_of
  orders_greater = ordered c.GreaterThan false false true (λ x y. greater_than (compared x y))

  pub orders_less_equal : Agrees w (ordering_step c.LessOrEqual s) (rust.ordering true true false (rust_at w s))
  unfolding order_of f64.le
  orders_less_equal = ordered c.LessOrEqual true true false (λ x y. less_or_equal (compared x y))

  pub orders_greater_equal : Agrees w (ordering_step c.GreatorOrEqual s) (rust.ordering false true true (rust_at w s))
  unfolding order_of f64.le
  orders_greater_equal = ordered c.GreatorOrEqual false true true (λ x y. greater_or_equal (compared x y))

  -- ---- logic and jumps

  pub joins : (t : Bool → Bool → Bool) → Agrees w (logic_step t s) (rust.logic t (rust_at w s))
  unfolding logic_step rust.logic push rust_of meaning meaning_to tree_of Agrees
  joins t = pop_boolean_agrees w s s _ _ (λ y r. pop_boolean_agrees w s (with_stack r s) _ _ (λ x q. refl))

  pub inverts : Agrees w (not_step s) (rust.pop_bool (rust_at w s) (λ x vm. rust.went (push vm (boolean (not x)))))
  unfolding not_step push rust_of meaning meaning_to tree_of Agrees
  inverts = pop_boolean_agrees w s s _ _ (λ x r. refl)

  pub jumps : (i : ℕ) → Agrees w (jump_step i s) (rust.move_ip i (rust_at w s) rust.went)
  unfolding jump_step rust.move_ip rust.current_frame rust_of Agrees
  jumps i = refl

  jumps_or : (i : ℕ) (r : List Value) (x : Bool) → Agrees w (went (with_stack r (if x then s else at (position s + i) s)))
      (if not x then rust.move_ip i (rust_at w (with_stack r s)) rust.went else rust.went (rust_at w (with_stack r s)))
  unfolding rust.move_ip rust.current_frame rust_of Agrees
  jumps_or i r true = refl
  jumps_or i r false = refl

  pub jumps_if : (i : ℕ) → Agrees w (jump_if_false_step i s) (rust.pop_bool (rust_at w s) (λ x vm. if not x then rust.move_ip i vm rust.went else rust.went vm))
  unfolding jump_if_false_step
  jumps_if i = pop_boolean_agrees w s s _ _ (λ x r. jumps_or i r x)
