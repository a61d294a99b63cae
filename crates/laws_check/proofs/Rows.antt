-- THE ROW IS TIED TO THE STEP: opcode by opcode, over the whole table.
use Rattle.std.specs.Prelude.{if◌then◌else◌, Err, None, Ok, Option, Some}
use mathlib.Core.Path.{◌≡◌, refl}
use mathlib.Core.Bool.{Bool, true, false, not, ◌||◌, ◌&&◌, true≢false}
use mathlib.Core.List.{List, [], ◌∷◌}
use mathlib.Core.Option.{Option as Maybe, none, some}
use Prim.Native.Nat.{ℕ, zero, suc, ◌+◌, ◌-◌, ◌≤◌, ◌<◌, min}
use native.Mathlib.Omega.{arith}
use borrow.Author.Tests.{ltb-true, ltb-false, eqb-true}
use lib.Dec.{ltb, leb, eqb}
use lib.ListN.{length, get_or, drop, length-drop}
use lib.Ieee.{Float}
use Rattle.model.specs.declared.Arith.{Arith}
use Rattle.model.specs.declared.Arith.TheVariants as ar
use Rattle.model.specs.declared.Order.{Order}
use Rattle.model.specs.declared.Order.TheVariants as od
use Rattle.model.specs.declared.Op.{Op}
use Rattle.model.specs.declared.Op.TheVariants as o
use Rattle.model.specs.declared.Names.TheVariants as n
use Rattle.model.specs.declared.Decoded.{Decoded}
use Rattle.model.specs.declared.Decoded.TheVariants as d
use Rattle.model.specs.declared.Value.{Value}
use Rattle.model.specs.declared.Value.TheVariants as v
use Rattle.model.specs.declared.Fault.TheVariants as f
use Rattle.model.specs.declared.Frame.{Frame}
use Rattle.model.specs.Basics.{ascii}
use Rattle.model.specs.Opcodes.{Opcode, op, first_names, as_count, popped, opcodes, opcode_at}
use Rattle.model.specs.Values.{popping, popping_scalar, popping_boolean}
use Rattle.model.specs.Scalars.{zero_divisor, result_of}
use Rattle.model.specs.Heap.{Cell, built, unbuilt, build_of, list_elements, struct_fields, field_of, head_in, deepest}
use Rattle.model.specs.Equality.{Same, same}
use Rattle.model.specs.Steps.{World, State, Outcome, went, faulted, with_stack, with_heap, with_last, with_frames, at, position, pushing, on_found, constant_of, slot_of, last_of, load_step, slot_step, last_step, negate_step, arithmetic_step, ordering_step, on_same, equal_step, logic_step, not_step, jump_step, jump_if_false_step, enter, call_step, enter_named, call_callable_step, on_built, build_step, struct_step, field_step, cut, return_to, return_step, exec_of}
use Rattle.value.proofs.Coding.{and_left, and_right}
use Rattle.laws_runs.proofs.Combinators.{if_scalar_each, if_boolean_each, if_reference_each, if_struct_each}
use Rattle.check_rules.specs.Rules.{jump_if_false, jump, call, call_callable, return}
use Rattle.laws_check.specs.Row.{Unsure, upvalue, field, Missing, constant, function, struct, slot, unsure, Inward, Tied, goes, leaps, calls, calls_named, comes_back, ends, faults, pauses, calls_or_returns, Counted}

-- opcode k is no jump and no Return; its row pops i values and pushes j
record Plain (k a b i j : ℕ) : Type 0 where
  pops : popped (opcode_at k) a b ≡ i
  pushes : (opcode_at k).pushes ≡ j
  no_jump : eqb k jump ≡ false
  no_return : eqb k return ≡ false

module _ (k a b : ℕ) (w : World) (s : State) where
  abbrev T : Outcome → Type 0
  T = Tied k a b w s

  -- ---- one law for each combinator of the rules

  if_tied : (c : Bool) {x y : Outcome} → (c ≡ true → T x) → (c ≡ false → T y) → T (if c then x else y)
  if_tied true p q = p refl
  if_tied false p q = q refl

  -- a pop where `gone` values are popped already
  pop_tied : (gone : ℕ) (vs : List Value) → length vs + gone ≡ length s.stack → gone < popped (opcode_at k) a b → {next : Value → List Value → Outcome}
      → ((x : Value) (r : List Value) → length r + suc gone ≡ length s.stack → T (next x r)) → T (popping vs (λ n. faulted n s) next)
  unfolding popping
  pop_tied gone [] e l rest = faults {n = f.TooFewValues} (omega arith)
  pop_tied gone (x ∷ r) e l rest = rest x r (omega arith)

  scalar_tied : (gone : ℕ) (vs : List Value) → length vs + gone ≡ length s.stack → gone < popped (opcode_at k) a b → {next : Float → List Value → Outcome}
      → ((x : Float) (r : List Value) → length r + suc gone ≡ length s.stack → T (next x r)) → T (popping_scalar vs (λ n. faulted n s) next)
  unfolding popping_scalar
  scalar_tied gone vs e l rest = pop_tied gone vs e l (λ x r z. if_scalar_each {B = Unit} (λ y u. T y) x {k' = λ y. tt} {x' = tt} (λ y q. rest y r z) (faults tt))

  boolean_tied : (gone : ℕ) (vs : List Value) → length vs + gone ≡ length s.stack → gone < popped (opcode_at k) a b → {next : Bool → List Value → Outcome}
      → ((x : Bool) (r : List Value) → length r + suc gone ≡ length s.stack → T (next x r)) → T (popping_boolean vs (λ n. faulted n s) next)
  unfolding popping_boolean
  boolean_tied gone vs e l rest = pop_tied gone vs e l (λ x r z. if_boolean_each {B = Unit} (λ y u. T y) x {k' = λ y. tt} {x' = tt} (λ y q. rest y r z) (faults tt))

  -- what is found or out of range
  found_tied : (c : Bool) (x : Value) (next : Value → Outcome) → (c ≡ false → Missing k a b w s) → T (next x) → T (on_found (if c then Ok x else Err f.OutOfRange) s next)
  unfolding on_found
  found_tied true x next p q = q
  found_tied false x next p q = faults (p refl)

  -- ---- opcodes that are plain

  module _ {i j : ℕ} (row : Plain k a b i j) where
    went_tied : (t : State) → i ≤ length s.stack → length t.stack ≡ length s.stack - i + j → t.frame ≡ s.frame → t.callers ≡ s.callers → T (went t)
    went_tied t l e u c =
        goes {t = t} row.no_jump row.no_return (record { enough = rw row.pops l; stack = rw (row.pops, row.pushes) e; frame = u; callers = c })

  module _ {i : ℕ} (row : Plain k a b i 1) where
    pushing_tied : (x : Value) (t : State) → i ≤ length s.stack → length t.stack ≡ length s.stack - i → t.frame ≡ s.frame → t.callers ≡ s.callers → T (pushing w x t)
    unfolding pushing
    pushing_tied x t l e u c = if_tied (ltb (length t.stack) w.stack_room) (λ q. went_tied row (with_stack (x ∷ t.stack) t) l (omega arith) u c) (λ q. faults tt)

    built_tied : (name : ℕ → Value) (n : ℕ) (deep full : Bool) (H : List Cell) → n ≡ i → n ≤ length s.stack
        → T (on_built w name (drop n s.stack) s (if deep then unbuilt f.TooDeep else (if full then unbuilt f.CellsFull else built H)))
    unfolding on_built
    built_tied name n true full H e l = faults tt
    built_tied name n false true H e l = faults tt
    built_tied name n false false H e l = pushing_tied _ (with_stack (drop n s.stack) (with_heap H s)) (omega arith) (simp length-drop (omega arith)) refl refl

    builds_tied : (name : ℕ → Value) (elements : ℕ → List Value → List Value) (number n : ℕ) → n ≡ i → T (build_step w name elements number n s)
    unfolding build_step build_of
    builds_tied name elements number n e =
        let vs = elements n s.stack in
        if_tied (ltb (length s.stack) n)
        (λ q. let z : length s.stack < n = ltb-true _ _ q in faults {n = f.TooFewValues} (rw row.pops (omega arith)))
        (λ q. built_tied name n (ltb 64 (suc (deepest s.heap vs))) (ltb w.cell_room (length s.heap + suc (length vs))) _ e (ltb-false _ _ q))

    struct_tied : (number n : ℕ) → n ≡ i → (w.structs ≤ number → Missing k a b w s) → T (struct_step w number n s)
    unfolding struct_step
    struct_tied number n e q = if_tied (ltb number w.structs) (λ z. builds_tied v.StructInstance struct_fields number n e) (λ z. faults {n = f.OutOfRange} (q (ltb-false _ _ z)))

    -- ---- opcode by opcode: loads and slots

    loads_tied : i ≡ 0 → first_names (opcode_at k) ≡ n.Constant → T (load_step w a s)
    unfolding load_step constant_of
    loads_tied e q = found_tied (ltb a (length w.constants)) _ _ (λ z. constant q (ltb-false _ _ z)) (pushing_tied _ s (omega arith) (omega arith) refl refl)

    gets_tied : (place : ℕ) → i ≡ 0 → (length s.stack ≤ place → Missing k a b w s) → T (slot_step w place s)
    unfolding slot_step slot_of
    gets_tied place e q = found_tied (ltb place (length s.stack)) _ _ (λ z. q (ltb-false _ _ z)) (pushing_tied _ s (omega arith) (omega arith) refl refl)

    last_tied : (x : Option Value) → i ≡ 0 → T (on_found (last_of x) s (λ y. pushing w y s))
    unfolding on_found last_of
    last_tied None e = faults tt
    last_tied (Some x) e = pushing_tied x s (omega arith) (omega arith) refl refl

  -- one value is popped, or two, and one pushed
  module _ (row : Plain k a b 1 1) where
    some_pops : 0 < popped (opcode_at k) a b
    some_pops = rw row.pops (omega arith)

    negate_tied : T (negate_step s)
    unfolding negate_step
    negate_tied = scalar_tied 0 s.stack (omega arith) some_pops (λ x r z. went_tied row _ (omega arith) (omega arith) refl refl)

    not_tied : T (not_step s)
    unfolding not_step
    not_tied = boolean_tied 0 s.stack (omega arith) some_pops (λ x r z. went_tied row _ (omega arith) (omega arith) refl refl)

    field_tied : Unsure (opcode_at k).what → T (field_step a s)
    unfolding field_step field_of
    field_tied u =
        pop_tied 0 s.stack (omega arith) some_pops (λ x r z. if_struct_each {B = Unit} (λ y u. T y) x {k' = λ y. tt} {x' = tt}
        (λ p q. found_tied (ltb a (head_in s.heap p).count) _ _ (λ e. unsure u) (went_tied row _ (omega arith) (omega arith) refl refl)) (faults tt))

  module _ (row : Plain k a b 2 1) where
    one_pops : 0 < popped (opcode_at k) a b
    one_pops = rw row.pops (omega arith)

    two_pop : 1 < popped (opcode_at k) a b
    two_pop = rw row.pops (omega arith)

    arithmetic_tied : (x : Arith) → T (arithmetic_step w x s)
    unfolding arithmetic_step
    arithmetic_tied x =
        scalar_tied 0 s.stack (omega arith) one_pops (λ y r e. scalar_tied 1 r (omega arith) two_pop
        (λ u q z. if_tied (zero_divisor x y) (λ c. faults tt)
        (λ c. if_tied (w.strict && (result_of x u y).escaped) (λ d. faults {n = f.NotFinite} (and_left w.strict (result_of x u y).escaped d))
        (λ d. went_tied row _ (omega arith) (omega arith) refl refl))))

    ordering_tied : (x : Order) → T (ordering_step x s)
    unfolding ordering_step
    ordering_tied x =
        scalar_tied 0 s.stack (omega arith) one_pops (λ y r e. scalar_tied 1 r (omega arith) two_pop
        (λ u q z. went_tied row _ (omega arith) (omega arith) refl refl))

    logic_tied : (t : Bool → Bool → Bool) → T (logic_step t s)
    unfolding logic_step
    logic_tied t =
        boolean_tied 0 s.stack (omega arith) one_pops (λ y r e. boolean_tied 1 r (omega arith) two_pop
        (λ u q z. went_tied row _ (omega arith) (omega arith) refl refl))

    same_tied : (t : Bool → Bool) (q : List Value) (x : Same) → length q + 2 ≡ length s.stack → T (on_same t q s x)
    unfolding on_same
    same_tied t q (same c pairs) z = if_tied (leb pairs s.units) (λ e. went_tied row _ (omega arith) (omega arith) refl refl) (λ e. pauses)

    equal_tied : (t : Bool → Bool) → T (equal_step t w s)
    unfolding equal_step
    equal_tied t = pop_tied 0 s.stack (omega arith) one_pops (λ y r e. pop_tied 1 r (omega arith) two_pop (λ x q z. same_tied t q _ (omega arith)))

  -- ---- jumps

  jump_tied : popped (opcode_at k) a b ≡ 0 → (opcode_at k).pushes ≡ 0 → (eqb k jump_if_false || eqb k jump) ≡ true → T (jump_step a s)
  unfolding jump_step
  jump_tied p q j = leaps {t = at (position s + a) s} j (record { enough = rw p (omega arith); stack = rw (p, q) (omega arith); frame = refl; callers = refl })

  module _ (row : Plain k a b 1 0) (j : (eqb k jump_if_false || eqb k jump) ≡ true) where
    unless_tied : (x : Bool) (r : List Value) → length r + 1 ≡ length s.stack → T (went (with_stack r (if x then s else at (position s + a) s)))
    unless_tied true r z = went_tied row (with_stack r s) (omega arith) (omega arith) refl refl
    unless_tied false r z =
        leaps {t = with_stack r (at (position s + a) s)} j
        (record { enough = rw row.pops (omega arith); stack = rw (row.pops, row.pushes) (omega arith); frame = refl; callers = refl })

    jump_if_tied : T (jump_if_false_step a s)
    unfolding jump_if_false_step
    jump_if_tied = boolean_tied 0 s.stack (omega arith) (rw row.pops (omega arith)) (λ x r z. unless_tied x r z)

  -- ---- calls: n values are counted, and vs is what the row's own pops leave

  entered : (g n : ℕ) (vs : List Value) → State
  entered g n vs = with_stack vs (with_frames (record { function = g; position = 0; base = length vs - n; entered = s.spent }) (s.frame ∷ s.callers) s)

  module _ (g n : ℕ) (vs : List Value) (p : popped (opcode_at k) a b ≡ (opcode_at k).pops + n) (e : length vs + (opcode_at k).pops ≡ length s.stack) where
    inward : n ≤ length vs → Inward k a b g s (entered g n vs)
    unfolding entered
    inward l =
        let same : length vs - n ≡ length s.stack - popped (opcode_at k) a b = omega arith in
        record { enough = omega arith; stack = omega arith; frame = rw same; callers = refl }

    enter_tied : (Inward k a b g s (entered g n vs) → T (went (entered g n vs))) → T (enter w g n vs s)
    unfolding enter entered
    enter_tied h =
        if_tied (ltb (length vs) n)
        (λ q. let z : length vs < n = ltb-true _ _ q in faults {n = f.TooFewValues} (omega arith))
        (λ q. if_tied (leb w.frame_room (suc (length s.callers))) (λ z. faults tt) (λ z. h (inward (ltb-false _ _ q))))

  call_tied : k ≡ call → first_names (opcode_at k) ≡ n.Function → popped (opcode_at k) a b ≡ (opcode_at k).pops + b → (opcode_at k).pops ≡ 0 → T (call_step w a b s)
  unfolding call_step
  call_tied e names p z =
      if_tied (ltb a (length w.functions)) (λ q. enter_tied a b s.stack p (omega arith) (calls e)) (λ q. faults {n = f.OutOfRange} (function names (ltb-false _ _ q)))

  named_tied : (vs : List Value) (x : Maybe ℕ) → k ≡ call_callable → popped (opcode_at k) a b ≡ (opcode_at k).pops + a → length vs + (opcode_at k).pops ≡ length s.stack
      → T (enter_named w a vs s x)
  unfolding enter_named
  named_tied vs none e p z = faults {n = f.NoFunction} e
  named_tied vs (some g) e p z = enter_tied g a vs p z (calls_named g e)

  call_named_tied : k ≡ call_callable → popped (opcode_at k) a b ≡ (opcode_at k).pops + a → (opcode_at k).pops ≡ 1 → T (call_callable_step w a s)
  unfolding call_callable_step
  call_named_tied e p one =
      pop_tied 0 s.stack (omega arith) (omega arith) (λ x r z. if_reference_each {B = Unit} (λ y u. T y) x {k' = λ i m. tt} {x' = tt}
      (λ i m q. named_tied r _ e p (omega arith)) (faults tt))

  -- ---- Return

  module _ (e : k ≡ return) (p : popped (opcode_at k) a b ≡ 1) (q : (opcode_at k).pushes ≡ 0) where
    cut_length : (n : ℕ) (vs : List Value) → length (cut n vs) ≡ min n (length vs)
    unfolding cut
    cut_length n vs = simp length-drop (omega arith)

    returns_tied : (cs : List Frame) → s.callers ≡ cs → (x : Value) (r : List Value) → length r + 1 ≡ length s.stack → T (return_to cs x r s)
    unfolding return_to
    returns_tied [] c x r z = ends {t = with_last x (with_stack r s)} {v = x} e c (record { enough = rw p (omega arith); stack = rw (p, q) (omega arith); frame = refl; callers = refl })
    returns_tied (d ∷ ds) c x r z =
        let size = cut_length s.frame.base r in
        comes_back {t = with_stack (x ∷ cut s.frame.base r) (with_frames d ds s)} d ds e
        (record { enough = rw p (omega arith); stack = rw p (omega arith); from = c; frame = refl; callers = refl })

    return_tied : T (return_step s)
    unfolding return_step
    return_tied = pop_tied 0 s.stack (omega arith) (rw p (omega arith)) (λ x r z. returns_tied s.callers refl x r z)

-- ---- opcode by opcode

-- the byte of a carried opcode
byte_of : Op → ℕ
byte_of o.LoadConstant = 0
byte_of o.GetLocal = 3
byte_of o.GetUpvalue = 4
byte_of o.GetLastResult = 5
byte_of o.Negate = 6
byte_of (o.Arithmetic ar.Add) = 8
byte_of (o.Arithmetic ar.Subtract) = 9
byte_of (o.Arithmetic ar.Multiply) = 10
byte_of (o.Arithmetic ar.Divide) = 11
byte_of (o.Ordering od.LessThan) = 14
byte_of (o.Ordering od.GreaterThan) = 15
byte_of (o.Ordering od.LessOrEqual) = 16
byte_of (o.Ordering od.GreatorOrEqual) = 17
byte_of o.Equal = 18
byte_of o.NotEqual = 19
byte_of o.LogicalAnd = 20
byte_of o.LogicalOr = 21
byte_of o.LogicalNeg = 22
byte_of o.JumpIfFalse = 26
byte_of o.Jump = 27
byte_of o.Call = 28
byte_of o.CallCallable = 31
byte_of o.BuildStructInstance = 34
byte_of o.AccessStructField = 35
byte_of o.BuildList = 36
byte_of o.Return = 37

plain : (k a b i j : ℕ) → popped (opcode_at k) a b ≡ i → (opcode_at k).pushes ≡ j → eqb k jump ≡ false → eqb k return ≡ false → Plain k a b i j
plain k a b i j p q e f = record { pops = p; pushes = q; no_jump = e; no_return = f }

op_tied : (p : Op) (a b : ℕ) (w : World) (s : State) → Tied (byte_of p) a b w s (exec_of w p a b s)
unfolding byte_of ascii opcodes opcode_at popped as_count exec_of last_step
op_tied o.LoadConstant a b w s = loads_tied _ a b w s (plain _ a b 0 1 refl refl refl refl) refl refl
op_tied o.GetLocal a b w s = gets_tied _ a b w s (plain _ a b 0 1 refl refl refl refl) (s.frame.base + a) refl (slot refl)
op_tied o.GetUpvalue a b w s = gets_tied _ a b w s (plain _ a b 0 1 refl refl refl refl) a refl (λ z. unsure upvalue)
op_tied o.GetLastResult a b w s = last_tied _ a b w s (plain _ a b 0 1 refl refl refl refl) s.last refl
op_tied o.Negate a b w s = negate_tied _ a b w s (plain _ a b 1 1 refl refl refl refl)
op_tied (o.Arithmetic ar.Add) a b w s = arithmetic_tied _ a b w s (plain _ a b 2 1 refl refl refl refl) ar.Add
op_tied (o.Arithmetic ar.Subtract) a b w s = arithmetic_tied _ a b w s (plain _ a b 2 1 refl refl refl refl) ar.Subtract
op_tied (o.Arithmetic ar.Multiply) a b w s = arithmetic_tied _ a b w s (plain _ a b 2 1 refl refl refl refl) ar.Multiply
op_tied (o.Arithmetic ar.Divide) a b w s = arithmetic_tied _ a b w s (plain _ a b 2 1 refl refl refl refl) ar.Divide
op_tied (o.Ordering od.LessThan) a b w s = ordering_tied _ a b w s (plain _ a b 2 1 refl refl refl refl) od.LessThan
op_tied (o.Ordering od.GreaterThan) a b w s = ordering_tied _ a b w s (plain _ a b 2 1 refl refl refl refl) od.GreaterThan
op_tied (o.Ordering od.LessOrEqual) a b w s = ordering_tied _ a b w s (plain _ a b 2 1 refl refl refl refl) od.LessOrEqual
op_tied (o.Ordering od.GreatorOrEqual) a b w s = ordering_tied _ a b w s (plain _ a b 2 1 refl refl refl refl) od.GreatorOrEqual
op_tied o.Equal a b w s = equal_tied _ a b w s (plain _ a b 2 1 refl refl refl refl) (λ x. x)
op_tied o.NotEqual a b w s = equal_tied _ a b w s (plain _ a b 2 1 refl refl refl refl) not
op_tied o.LogicalAnd a b w s = logic_tied _ a b w s (plain _ a b 2 1 refl refl refl refl) ◌&&◌
op_tied o.LogicalOr a b w s = logic_tied _ a b w s (plain _ a b 2 1 refl refl refl refl) ◌||◌
op_tied o.LogicalNeg a b w s = not_tied _ a b w s (plain _ a b 1 1 refl refl refl refl)
op_tied o.JumpIfFalse a b w s = jump_if_tied _ a b w s (plain _ a b 1 0 refl refl refl refl) refl
op_tied o.Jump a b w s = jump_tied _ a b w s refl refl refl
op_tied o.Call a b w s = call_tied _ a b w s refl refl (omega arith) refl
op_tied o.CallCallable a b w s = call_named_tied _ a b w s refl (omega arith) refl
op_tied o.BuildStructInstance a b w s = struct_tied _ a b w s (plain _ a b b 1 (omega arith) refl refl refl) a b refl (struct refl)
op_tied o.AccessStructField a b w s = field_tied _ a b w s (plain _ a b 1 1 refl refl refl refl) field
op_tied o.BuildList a b w s = builds_tied _ a b w s (plain _ a b a 1 (omega arith) refl refl refl) v.List list_elements 0 a refl
op_tied o.Return a b w s = return_tied _ a b w s refl refl refl

-- ---- each carried opcode stands in the row of its byte: one test of the table, computed

its_byte : ℕ → Decoded → Bool
its_byte k (d.Carried p) = eqb k (byte_of p)
its_byte k d.NotCarried = true
its_byte k d.Unknown = true

its_bytes : ℕ → List Opcode → Bool
its_bytes k [] = true
its_bytes k (c ∷ cs) = its_byte k c.what && its_bytes (suc k) cs

byte_at : (k : ℕ) (cs : List Opcode) (c : Opcode) → its_bytes k cs ≡ true → ((j : ℕ) → its_byte j c.what ≡ true) → (m : ℕ) → its_byte (k + m) (get_or cs m c).what ≡ true
unfolding its_bytes
byte_at k [] c e h m = h (k + m)
byte_at k (x ∷ cs) c e h zero = let z : k + 0 ≡ k = omega arith in rw z (and_left (its_byte k x.what) (its_bytes (suc k) cs) e)
byte_at k (x ∷ cs) c e h (suc m) =
    let z : k + suc m ≡ suc k + m = omega arith in
    rw z (byte_at (suc k) cs c (and_right (its_byte k x.what) (its_bytes (suc k) cs) e) h m)

its_byte_lem : (k : ℕ) → its_byte k (opcode_at k).what ≡ true
unfolding its_bytes its_byte byte_of ascii opcodes opcode_at
its_byte_lem k = let z : 0 + k ≡ k = omega arith in rw z at (byte_at 0 opcodes (op "" [] 0 0 d.Unknown) refl (λ j. refl) k)

-- THE LAW: a carried opcode does from s what its row in the table says
pub a_step_keeps_its_row : (k : ℕ) (p : Op) → (opcode_at k).what ≡ d.Carried p → (a b : ℕ) (w : World) (s : State) → Tied k a b w s (exec_of w p a b s)
unfolding its_byte
a_step_keeps_its_row k p e a b w s =
    let z : its_byte k (d.Carried p) ≡ true = rw e at (its_byte_lem k) in
    let same : k ≡ byte_of p = eqb-true _ _ z in
    rw same (op_tied p a b w s)

tied_counted : (k a b : ℕ) (w : World) (s t : State) → calls_or_returns k ≡ false → Tied k a b w s (went t) → Counted k a b s t
unfolding calls_or_returns
tied_counted k a b w s t h (goes e q on) = record { enough = on.enough; stack = on.stack }
tied_counted k a b w s t h (leaps e on) = record { enough = on.enough; stack = on.stack }
tied_counted k a b w s t h (calls e inn) = absurd (true≢false (rw e at h))
tied_counted k a b w s t h (calls_named g e inn) = absurd (true≢false (rw e at h))
tied_counted k a b w s t h (comes_back c cs e out) = absurd (true≢false (rw e at h))

-- in short: where it neither calls nor returns, it pops and pushes as many values as the row says
pub the_row_counts_the_values : (k : ℕ) (p : Op) → (opcode_at k).what ≡ d.Carried p → calls_or_returns k ≡ false → (a b : ℕ) (w : World) (s t : State)
    → exec_of w p a b s ≡ went t → Counted k a b s t
the_row_counts_the_values k p e h a b w s t q = tied_counted k a b w s t h (rw q at (a_step_keeps_its_row k p e a b w s))
