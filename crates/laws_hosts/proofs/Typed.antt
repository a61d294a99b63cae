-- A run keeps what the types of the code say of its values: a scalar is a float of 64 bits. So two words of a record can hold its last result.
use Rattle.std.specs.Prelude.{if◌then◌else◌, Err, None, Ok, Option, Result, Some}
use mathlib.Core.Path.{◌≡◌, refl, sym, subst}
use mathlib.Core.Bool.{Bool, true, false, ◌&&◌}
use mathlib.Core.List.{List, [], ◌∷◌, ◌++◌, map, reverse_aux}
use mathlib.Core.Option.{Option as Maybe, none, some}
use Prim.Native.Nat.{ℕ, zero, suc, ◌+◌, ◌-◌, ◌*◌}
use lib.Dec.{T, ltb, leb, eqb}
use lib.ListN.{length, get_or, take, drop}
use lib.Ieee.{Float, binary64, fits}
use lib.Ieee.Bits.{of_bits-fits}
use lib.Ieee.Fits.{neg-fits, add-fits, sub-fits, mul-fits, div-fits}
use Rattle.model.specs.declared.Arith.{Arith}
use Rattle.model.specs.declared.Arith.TheVariants as ar
use Rattle.model.specs.declared.Op.{Op}
use Rattle.model.specs.declared.Op.TheVariants as o
use Rattle.model.specs.declared.Decoded.{Decoded}
use Rattle.model.specs.declared.Decoded.TheVariants as d
use Rattle.model.specs.declared.Value.{Value}
use Rattle.model.specs.declared.Value.TheVariants as v
use Rattle.model.specs.declared.Header.{Header}
use Rattle.model.specs.declared.Fault.{Fault}
use Rattle.model.specs.declared.Frame.{Frame}
use Rattle.model.specs.declared.Vm.{Vm}
use Rattle.model.specs.declared.Halt.TheVariants as r
use Rattle.model.specs.Values.{popping, popping_scalar, popping_boolean, kind_at, payload_at, value_of, value_at, vals, values_from}
use Rattle.model.specs.Scalars.{arith_of, zero_divisor, result_of}
use Rattle.model.specs.Heap.{Cell, item, head, header_of, cell_of, cell_at, cells_from, heap_of, cell_in, item_in, head_in, field_of, list_elements, struct_fields, block_of, Built, built, unbuilt, build_of}
use Rattle.model.specs.Equality.{Same, same}
use Rattle.model.specs.Steps.{World, State, Outcome, went, returned, faulted, short, with_stack, with_units, paid, at, code_of, pushing, on_found, constant_of, slot_of, last_of, load_step, slot_step, last_step, negate_step, arithmetic_step, ordering_step, on_same, equal_step, logic_step, not_step, jump_step, jump_if_false_step, enter, call_step, enter_named, call_callable_step, on_built, build_step, struct_step, field_step, cut, return_to, return_step, exec_of, operands_then, decoded_then, fetched, step_of}
use Rattle.model.specs.Runs.{standing, begin, Progress, at_start, Ended, ended, stopped, paused, end_from, end_of, recovered, Part, ends, pauses, part_of, begin_of, continue_of, abandon_of}
use Rattle.model.specs.Stores.{Stores, world_in}
use Rattle.model.specs.Machines.{Lent, machine_in, progress_in, under_in, world_of, run_order, copy_short, trace_short, Unchanged, RunAnswer, ran, refused, RunCall, begins, continues, abandons, begin_answer, continue_answer, abandon_answer, run_answer, answer_in, RunPost}
use Rattle.value.specs.Links.{last_in}
use Rattle.cells.proofs.Order.{Every, nil, cons}
use Rattle.cells.proofs.Frame.{grown_of}
use Rattle.laws_runs.specs.Paths.{Steps, none as still, on, ret, By}
use Rattle.laws_runs.proofs.Combinators.{popping_each, popping_scalar_each, popping_boolean_each, if_reference_each, if_struct_each}
use Rattle.laws_runs.proofs.Paths.{run_by}
use Rattle.embed_words.specs.Coding.{TypedValue, TypedLast}
use Rattle.demands.specs.Host.{vm_after}
use Rattle.model.specs.declared.Halt.{Halt}
use Rattle.model.specs.declared.Refusal.{Refusal}

-- ---- values, cells and states

data CellsTyped : List Cell → Type 0 where
  no_cells : CellsTyped []
  value : {x : Value} {H : List Cell} → TypedValue x → CellsTyped H → CellsTyped (item x ∷ H)
  header : {h : Header} {H : List Cell} → CellsTyped H → CellsTyped (head h ∷ H)

record TypedState (s : State) : Type 0 where
  stack : Every TypedValue s.stack
  heap : CellsTyped s.heap
  last : TypedLast s.last

-- what a step leaves
data TypedOutcome : Outcome → Type 0 where
  goes : {s : State} → TypedState s → TypedOutcome (went s)
  comes : {x : Value} {s : State} → TypedState s → TypedOutcome (returned x s)
  fails : (n : Fault) {s : State} → TypedOutcome (faulted n s)
  waits : TypedOutcome short

pub if_all : {A : Type 0} (P : A → Type 0) (b : Bool) (x y : A) → P x → P y → P (if b then x else y)
if_all P true x y p q = p
if_all P false x y p q = q

if_typed : (b : Bool) {x y : Outcome} → TypedOutcome x → TypedOutcome y → TypedOutcome (if b then x else y)
if_typed b p q = if_all TypedOutcome b _ _ p q

-- ---- what is decoded from words is typed

value_typed : (k a : ℕ) → TypedValue (value_of k a)
unfolding value_of
value_typed k a =
    if_all TypedValue (eqb k 0) _ _ (of_bits-fits binary64 a)
    (if_all TypedValue (eqb k 1) _ _ tt (if_all TypedValue (eqb k 2) _ _ tt (if_all TypedValue (eqb k 3) _ _ tt (if_all TypedValue (eqb k 4) _ _ tt tt))))

pub last_typed : (k a : ℕ) → TypedLast (last_in k a)
unfolding last_in
last_typed k a = if_all TypedLast (eqb k 7) _ _ tt (value_typed k a)

vals_typed : (n : ℕ) (s : List ℕ) → Every TypedValue (vals n s)
unfolding vals value_at
vals_typed zero s = nil
vals_typed (suc n) s = cons (value_typed _ _) (vals_typed n s)

values_typed : (n i : ℕ) (s : List ℕ) → Every TypedValue (values_from n i s)
unfolding values_from value_at
values_typed zero i s = nil
values_typed (suc n) i s = cons (value_typed _ _) (values_typed n (suc i) s)

cell_typed : (b : Bool) (h : Header) (k a : ℕ) {H : List Cell} → CellsTyped H → CellsTyped ((if b then head h else item (value_of k a)) ∷ H)
cell_typed true h k a c = header c
cell_typed false h k a c = value (value_typed k a) c

cells_typed : (n i : ℕ) (s : List ℕ) → CellsTyped (cells_from n i s)
unfolding cells_from cell_at cell_of
cells_typed zero i s = no_cells
cells_typed (suc n) i s = let k = kind_at s i in let a = payload_at s i in cell_typed (eqb k 6) (header_of a) k a (cells_typed n (suc i) s)

-- ---- parts of a stack and of a heap

at_typed : {vs : List Value} → Every TypedValue vs → (i : ℕ) → TypedValue (get_or vs i (v.Boolean false))
at_typed nil i = tt
at_typed (cons p ps) zero = p
at_typed (cons p ps) (suc i) = at_typed ps i

drop_typed : (n : ℕ) {vs : List Value} → Every TypedValue vs → Every TypedValue (drop n vs)
drop_typed zero a = a
drop_typed (suc n) nil = nil
drop_typed (suc n) (cons p ps) = drop_typed n ps

take_typed : (n : ℕ) {vs : List Value} → Every TypedValue vs → Every TypedValue (take n vs)
take_typed zero a = nil
take_typed (suc n) nil = nil
take_typed (suc n) (cons p ps) = cons p (take_typed n ps)

turned_typed : {vs us : List Value} → Every TypedValue vs → Every TypedValue us → Every TypedValue (reverse_aux vs us)
turned_typed nil b = b
turned_typed (cons p ps) b = turned_typed ps (cons p b)

item_typed : {H : List Cell} → CellsTyped H → (i : ℕ) → TypedValue (item_in H i)
unfolding item_in cell_in
item_typed no_cells i = tt
item_typed (value p c) zero = p
item_typed (value p c) (suc i) = item_typed c i
item_typed (header c) zero = tt
item_typed (header c) (suc i) = item_typed c i

items_typed : {vs : List Value} → Every TypedValue vs → CellsTyped (map item vs)
items_typed nil = no_cells
items_typed (cons p ps) = value p (items_typed ps)

behind_typed : {H K : List Cell} → CellsTyped H → CellsTyped K → CellsTyped (H ++ K)
behind_typed no_cells k = k
behind_typed (value p c) k = value p (behind_typed c k)
behind_typed (header c) k = header (behind_typed c k)

built_typed : (room : ℕ) (H : List Cell) (k : ℕ) (us : List Value) {H' : List Cell} → CellsTyped H → Every TypedValue us → build_of room H k us ≡ built H' → CellsTyped H'
unfolding block_of
built_typed room H k us {H'} c a e = rw (grown_of room H k us H' e).is (behind_typed c (header (items_typed a)))

arith_fits : (a : Arith) (x y : Float) → T (fits binary64 (result_of a x y).value)
unfolding result_of arith_of
arith_fits ar.Add x y = add-fits binary64 x y
arith_fits ar.Subtract x y = sub-fits binary64 x y
arith_fits ar.Multiply x y = mul-fits binary64 x y
arith_fits ar.Divide x y = div-fits binary64 x y

-- ---- pops, from a stack that is typed

abbrev First : Outcome → Outcome → Type 0
First x y = TypedOutcome x

top_typed : {x : Value} {vs : List Value} → Every TypedValue (x ∷ vs) → TypedValue x × Every TypedValue vs
top_typed (cons p ps) = (p, ps)

module _ {vs : List Value} (a : Every TypedValue vs) {e : Fault → Outcome} (fault : (n : Fault) → TypedOutcome (e n)) where
  pops : {k : Value → List Value → Outcome} → ((x : Value) (r : List Value) → TypedValue x → Every TypedValue r → TypedOutcome (k x r)) → TypedOutcome (popping vs e k)
  pops {k} q = popping_each First vs {e' = e} {k' = k} fault (λ x r i. let z = top_typed (subst (Every TypedValue) i a) in q x r z.0 z.1)

  pops_scalar : {k : Float → List Value → Outcome} → ((x : Float) (r : List Value) → T (fits binary64 x) → Every TypedValue r → TypedOutcome (k x r)) → TypedOutcome (popping_scalar vs e k)
  pops_scalar {k} q = popping_scalar_each First vs {e' = e} {k' = k} fault (λ x r i. let z = top_typed (subst (Every TypedValue) i a) in q x r z.0 z.1)

  pops_boolean : {k : Bool → List Value → Outcome} → ((x : Bool) (r : List Value) → Every TypedValue r → TypedOutcome (k x r)) → TypedOutcome (popping_boolean vs e k)
  pops_boolean {k} q = popping_boolean_each First vs {e' = e} {k' = k} fault (λ x r i. q x r (top_typed (subst (Every TypedValue) i a)).1)

-- ---- an instruction

-- what is looked for
data TypedFound : Result Value Fault → Type 0 where
  got : (x : Value) → TypedValue x → TypedFound (Ok x)
  bad : (n : Fault) → TypedFound (Err n)

if_found : (b : Bool) {x y : Result Value Fault} → TypedFound x → TypedFound y → TypedFound (if b then x else y)
if_found b p q = if_all TypedFound b _ _ p q

constant_found : {cs : List Value} → Every TypedValue cs → (i : ℕ) → TypedFound (constant_of cs i)
unfolding constant_of
constant_found {cs} a i = if_found (ltb i (length cs)) (got _ (at_typed a i)) (bad _)

slot_found : {vs : List Value} → Every TypedValue vs → (i : ℕ) → TypedFound (slot_of vs i)
unfolding slot_of
slot_found {vs} a i = if_found (ltb i (length vs)) (got _ (at_typed a _)) (bad _)

last_found : (x : Option Value) → TypedLast x → TypedFound (last_of x)
unfolding last_of
last_found None p = bad _
last_found (Some x) p = got x p

field_found : {H : List Cell} → CellsTyped H → (p i : ℕ) → TypedFound (field_of H p i)
unfolding field_of
field_found {H} c p i = if_found (ltb i (head_in H p).count) (got _ (item_typed c _)) (bad _)

module _ (w : World) (constants : Every TypedValue w.constants) (s : State) (t : TypedState s) where
  stacked : {vs : List Value} → Every TypedValue vs → TypedOutcome (went (with_stack vs s))
  stacked a = goes (record { stack = a; heap = t.heap; last = t.last })

  pushed : (x : Value) → TypedValue x → TypedOutcome (pushing w x s)
  unfolding pushing
  pushed x p = if_typed (ltb (length s.stack) w.stack_room) (stacked (cons {u = x} p t.stack)) (fails _)

  found : {x : Result Value Fault} → TypedFound x → {k : Value → Outcome} → ((y : Value) → TypedValue y → TypedOutcome (k y)) → TypedOutcome (on_found x s k)
  unfolding on_found
  found (got y p) q = q y p
  found (bad n) q = fails n

  entered : (i n : ℕ) {vs : List Value} → Every TypedValue vs → TypedOutcome (enter w i n vs s)
  unfolding enter
  entered i n {vs} a = if_typed (ltb (length vs) n) (fails _) (if_typed (leb w.frame_room (suc (length s.callers))) (fails _) (goes (record { stack = a; heap = t.heap; last = t.last })))

  named : (n : ℕ) {vs : List Value} → Every TypedValue vs → (x : Maybe ℕ) → TypedOutcome (enter_named w n vs s x)
  unfolding enter_named
  named n a none = fails _
  named n a (some i) = entered i n a

  module _ (c : ℕ → Value) (typed : (i : ℕ) → TypedValue (c i)) (k : ℕ) where
    on_built_lem : (us : List Value) {rest : List Value} → Every TypedValue us → Every TypedValue rest → (x : Built) → build_of w.cell_room s.heap k us ≡ x → TypedOutcome (on_built w c rest s x)
    unfolding on_built pushing
    on_built_lem us {rest} a b (built H) e =
        if_typed (ltb (length rest) w.stack_room) (goes (record { stack = cons (typed _) b; heap = built_typed w.cell_room s.heap k us t.heap a e; last = t.last })) (fails _)
    on_built_lem us a b (unbuilt n) e = fails n

    builds : (elements : ℕ → List Value → List Value) (n : ℕ) → Every TypedValue (elements n s.stack) → TypedOutcome (build_step w c elements k n s)
    unfolding build_step
    builds elements n a = if_typed (ltb (length s.stack) n) (fails _) (on_built_lem _ a (drop_typed n t.stack) _ refl)

  returns_to : (cs : List Frame) (x : Value) {vs : List Value} → TypedValue x → Every TypedValue vs → TypedOutcome (return_to cs x vs s)
  unfolding return_to cut
  returns_to [] x p a = comes (record { stack = a; heap = t.heap; last = p })
  returns_to (c ∷ cs) x {vs} p a = goes (record { stack = cons p (drop_typed (length vs - s.frame.base) a); heap = t.heap; last = t.last })

  equals : (f : Bool → Bool) {vs : List Value} → Every TypedValue vs → (x : Same) → TypedOutcome (on_same f vs s x)
  unfolding on_same
  equals f a (same b k) = if_typed (leb k s.units) (goes (record { stack = cons tt a; heap = t.heap; last = t.last })) waits

  jumped : (x : Bool) (i : ℕ) {vs : List Value} → Every TypedValue vs → TypedOutcome (went (with_stack vs (if x then s else at i s)))
  jumped true i a = stacked a
  jumped false i a = goes (record { stack = a; heap = t.heap; last = t.last })

  -- a line for each opcode
  exec_typed : (p : Op) (a b : ℕ) → TypedOutcome (exec_of w p a b s)
  unfolding exec_of load_step slot_step last_step negate_step arithmetic_step ordering_step equal_step logic_step not_step jump_step jump_if_false_step call_step call_callable_step
      struct_step field_step return_step list_elements struct_fields
  exec_typed o.LoadConstant a b = found (constant_found constants a) pushed
  exec_typed o.GetLocal a b = found (slot_found t.stack _) pushed
  exec_typed o.GetUpvalue a b = found (slot_found t.stack _) pushed
  exec_typed o.GetLastResult a b = found (last_found s.last t.last) pushed
  exec_typed o.Negate a b = pops_scalar t.stack (λ n. fails n) (λ x r f q. stacked (cons (neg-fits binary64 x f) q))
  exec_typed (o.Arithmetic c) a b =
      pops_scalar t.stack (λ n. fails n) (λ y r f q.
      pops_scalar q (λ n. fails n) (λ x r' f' q'.
      if_typed (zero_divisor c y) (fails _) (if_typed (w.strict && (result_of c x y).escaped) (fails _) (stacked (cons (arith_fits c x y) q')))))
  exec_typed (o.Ordering c) a b = pops_scalar t.stack (λ n. fails n) (λ y r f q. pops_scalar q (λ n. fails n) (λ x r' f' q'. stacked (cons tt q')))
  exec_typed o.Equal a b = pops t.stack (λ n. fails n) (λ y r f q. pops q (λ n. fails n) (λ x r' f' q'. equals _ q' _))
  exec_typed o.NotEqual a b = pops t.stack (λ n. fails n) (λ y r f q. pops q (λ n. fails n) (λ x r' f' q'. equals _ q' _))
  exec_typed o.LogicalAnd a b = pops_boolean t.stack (λ n. fails n) (λ y r q. pops_boolean q (λ n. fails n) (λ x r' q'. stacked (cons tt q')))
  exec_typed o.LogicalOr a b = pops_boolean t.stack (λ n. fails n) (λ y r q. pops_boolean q (λ n. fails n) (λ x r' q'. stacked (cons tt q')))
  exec_typed o.LogicalNeg a b = pops_boolean t.stack (λ n. fails n) (λ x r q. stacked (cons tt q))
  exec_typed o.JumpIfFalse a b = pops_boolean t.stack (λ n. fails n) (λ x r q. jumped x _ q)
  exec_typed o.Jump a b = jumped false _ t.stack
  exec_typed o.Call a b = if_typed (ltb a (length w.functions)) (entered a b t.stack) (fails _)
  exec_typed o.CallCallable a b = pops t.stack (λ n. fails n) (λ x r f q. if_reference_each First x {k' = λ i j. short} {x' = short} (λ i j e. named a q _) (fails _))
  exec_typed o.BuildStructInstance a b = if_typed (ltb a w.structs) (builds v.StructInstance (λ i. tt) a struct_fields b (take_typed b t.stack)) (fails _)
  exec_typed o.AccessStructField a b =
      pops t.stack (λ n. fails n) (λ x r f q. if_struct_each First x {k' = λ i. short} {x' = short}
      (λ p e. found (field_found t.heap p a) (λ y z. stacked (cons {u = y} z q))) (fails _))
  exec_typed o.BuildList a b = builds v.List (λ i. tt) 0 list_elements a (turned_typed (take_typed a t.stack) nil)
  exec_typed o.Return a b = pops t.stack (λ n. fails n) (λ x r f q. returns_to s.callers x f q)

-- ---- a step, and the written steps of a run

module _ (w : World) (constants : Every TypedValue w.constants) where
  decoded_typed : (x : Decoded) (n i k : ℕ) (s : State) → TypedState s → TypedOutcome (decoded_then w x n (at i (paid k s)))
  unfolding decoded_then operands_then code_of
  decoded_typed (d.Carried p) n i k s t = if_typed (leb (i + 2 * n) (length (code_of w s))) (exec_typed w constants _ (record { stack = t.stack; heap = t.heap; last = t.last }) p _ _) (fails _)
  decoded_typed d.NotCarried n i k s t = fails _
  decoded_typed d.Unknown n i k s t = fails _

  step_typed : (s : State) → TypedState s → TypedOutcome (step_of w s)
  unfolding step_of fetched
  step_typed s t = if_typed (eqb s.units 0) waits (decoded_typed _ _ _ _ s t)

  went_typed : {s s' : State} → TypedState s → step_of w s ≡ went s' → TypedState s'
  went_typed {s} {s'} t e = by (subst TypedOutcome e (step_typed s t))
    where
      by : TypedOutcome (went s') → TypedState s'
      by (goes z) = z

  returned_typed : {s s' : State} {x : Value} → TypedState s → step_of w s ≡ returned x s' → TypedState s'
  returned_typed {s} {s'} {x} t e = by (subst TypedOutcome e (step_typed s t))
    where
      by : TypedOutcome (returned x s') → TypedState s'
      by (comes z) = z

  -- and what a fault would go back to
  path_typed : {n : ℕ} {m k : Progress} {s t : State} → TypedState s → TypedLast m.last → Steps w n m s k t → TypedState t × TypedLast k.last
  path_typed a p still = (a, p)
  path_typed a p (on o q r) = path_typed (went_typed a q) p r
  path_typed a p (ret o q r) = let z = returned_typed a q in path_typed z z.last r

-- ---- a part of a run

abbrev TypedPart : Part → Type 0
TypedPart (ends x) = TypedLast x.machine.last
TypedPart (pauses x) = TypedLast x.state.last

data TypedAnswer : RunAnswer → Type 0 where
  runs : (c : Unchanged) (x : Part) → TypedPart x → TypedAnswer (ran c x)
  not_run : (n : ℕ) → TypedAnswer (refused n)

answer_if : (b : Bool) {x y : RunAnswer} → TypedAnswer x → TypedAnswer y → TypedAnswer (if b then x else y)
answer_if b p q = if_all TypedAnswer b _ _ p q

module _ (w : World) (constants : Every TypedValue w.constants) (m : Progress) (s : State) (t : TypedState s) (p : TypedLast m.last) (start : List Value) (u : ℕ) where
  by_typed : (x : Ended) → By w m s x → TypedPart (part_of w start u x)
  unfolding part_of recovered
  by_typed (ended k e) b = (path_typed w constants t p b.path).0.last
  by_typed (stopped n e k) b = (path_typed w constants t p b.path).1
  by_typed (paused k e) b = (path_typed w constants t p b.path).0.last

  part_typed : TypedPart (part_of w start u (end_from w m s))
  part_typed = by_typed (end_from w m s) (run_by w m s)

module _ (m : Vm) (s : Stores) (l : Lent) (last : TypedLast m.last) where
  constants_typed : Every TypedValue (world_of m s l).constants
  unfolding world_of world_in
  constants_typed = values_typed _ _ _

  machine_typed : (e u : ℕ) → TypedState (standing (machine_in m l) e u)
  unfolding machine_in heap_of
  machine_typed e u = record { stack = vals_typed _ _; heap = cells_typed _ _ _; last = last }

  -- when its frames were entered is no matter of types
  begun_typed : (u : ℕ) → TypedState (begin (machine_in m l) u)
  begun_typed u = let z = machine_typed 0 u in record { stack = z.stack; heap = z.heap; last = z.last }

  answer_typed : (c : RunCall) → TypedAnswer (run_answer c m s l)
  unfolding run_answer begin_answer continue_answer abandon_answer begin_of end_of continue_of abandon_of recovered under_in progress_in machine_in
  answer_typed begins =
      let w = world_of m s l in let x = begin (machine_in m l) 0 in
      let p = part_typed w constants_typed (at_start x) x (begun_typed 0) last (machine_in m l).stack 0 in
      answer_if (run_order m s l) (answer_if m.run.on (not_run 25) (answer_if (copy_short l) (not_run 17) (runs _ _ p))) (not_run 19)
  answer_typed (continues u) =
      let w = world_of m s l in let r = under_in m l in let x = with_units (r.state.units + u) r.state in
      let p = part_typed w constants_typed r.progress x (machine_typed _ _) last r.start (r.given + u) in
      let within = answer_if (ltb 0xFFFF_FFFF_FFFF_FFFF (m.run.given + u)) (not_run 22) (runs _ _ p) in
      answer_if (run_order m s l) (answer_if m.run.on (answer_if (trace_short l) (not_run 17) within) (not_run 18)) (not_run 19)
  answer_typed abandons = answer_if (run_order m s l) (answer_if m.run.on (answer_if (trace_short l) (not_run 17) (runs _ _ last)) (not_run 18)) (not_run 19)

part_of_lem : {c : Unchanged} {x : Part} → TypedAnswer (ran c x) → TypedPart x
part_of_lem (runs c x p) = p

-- the last result that a call of a run leaves is typed
pub run_typed : (c : RunCall) (m : Vm) (s : Stores) (l : Lent) (x : Result Halt Refusal) (l' : Lent) → TypedLast m.last → RunPost c m s l x l' → TypedLast (vm_after m x).last
unfolding answer_in machine_in under_in
run_typed c m s l (Ok (r.Value k y n)) l' t p = part_of_lem (subst TypedAnswer (sym p.answer) (answer_typed m s l t c))
run_typed c m s l (Ok (r.Continue k n)) l' t p = part_of_lem (subst TypedAnswer (sym p.answer) (answer_typed m s l t c))
run_typed c m s l (Ok (r.Fault k i n j)) l' t p = part_of_lem (subst TypedAnswer (sym p.answer) (answer_typed m s l t c))
run_typed c m s l (Ok (r.Paused k)) l' t p = part_of_lem (subst TypedAnswer (sym p.answer) (answer_typed m s l t c))
run_typed c m s l (Err e) l' t p = t
