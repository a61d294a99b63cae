-- A step of two machines that mean the same: the one induction over the opcodes.
use Rattle.std.specs.Prelude.{if◌then◌else◌, Option, Result}
use mathlib.Core.Path.{◌≡◌, refl, sym, ◌∙◌}
use mathlib.Core.Bool.{Bool, true, false, ◌&&◌}
use mathlib.Core.List.{List, [], ◌∷◌}
use mathlib.Core.Option.{Option as Maybe, none, some}
use Prim.Native.Nat.{ℕ, suc, ◌+◌, ◌-◌, ◌*◌}
use native.Mathlib.Omega.{arith}
use borrow.Author.Tests.{ltb-true}
use lib.Dec.{ltb, leb, eqb}
use lib.ListN.{length, get_or}
use lib.Ieee.{Float}
use Rattle.model.specs.declared.Op.{Op}
use Rattle.model.specs.declared.Op.TheVariants as o
use Rattle.model.specs.declared.Decoded.{Decoded}
use Rattle.model.specs.declared.Decoded.TheVariants as d
use Rattle.model.specs.declared.Value.{Value}
use Rattle.model.specs.declared.Value.TheVariants as v
use Rattle.model.specs.declared.Fault.{Fault}
use Rattle.model.specs.declared.Fault.TheVariants as f
use Rattle.model.specs.declared.Frame.{Frame}
use Rattle.model.specs.Values.{fault_number, text_at, if_scalar, if_boolean, if_reference, if_struct, popping, popping_scalar, popping_boolean}
use Rattle.model.specs.Scalars.{zero_divisor, result_of}
use Rattle.model.specs.Heap.{Cell, Built, list_elements, struct_fields, field_of, placed_below, blocks_from, heap_ok}
use Rattle.model.specs.Equality.{Same, same}
use Rattle.model.specs.Trees.{tree_of, meaning_to, meaning}
use Rattle.model.specs.Programs.{function_named}
use Rattle.model.specs.Steps.{World, State, Outcome, went, faulted, with_stack, with_heap, paid, with_frames, at, position, code_of, pushing, on_found, constant_of, slot_of, last_of, load_step, slot_step, last_step, negate_step, arithmetic_step, ordering_step, on_same, equal_step, logic_step, not_step, jump_step, jump_if_false_step, enter, call_step, enter_named, call_callable_step, on_built, build_step, struct_step, field_step, cut, return_to, return_step, exec_of, operands_then, decoded_then, fetched, step_of}
use Rattle.cells.proofs.Meaning.{meaning_kept}
use Rattle.laws_runs.specs.Sane.{SaneWorld, Sane}
use Rattle.laws_runs.proofs.Combinators.{if_each}
use Rattle.laws_runs.proofs.Does.{Makes, list, struct}
use Rattle.laws_runs.proofs.Placed.{grows_placed}
use Rattle.laws_meaning.specs.Alike.{AlikeValue, AlikeValues, Layout, laid_out, AlikeConstants, SameFree, AlikeState, AlikeOutcome, goes, returns, faults, runs_short, Both}
use Rattle.laws_meaning.specs.Alike as a
use Rattle.laws_meaning.proofs.Values.{Boths, empty, over, BothLast, nothing, is, boths_of, last_of_lem, values_on, last_on, Kinds, scalars, booleans, strings, references, lists, structs, BothFound, got, bad, found_if, kinds, same_alike, length_alike, at_alike, drop_alike, take_alike, turned_alike, field_alike}
use Rattle.laws_meaning.proofs.Builds.{BothGrow, BothBuilt, made, refused, build_alike}

made_alike : {t t' : List ℕ} {n n' : ℕ} {H H' K K' : List Cell} {c : ℕ → Value} {elements : ℕ → List Value → List Value} {k : ℕ} → Makes c elements k
    → BothGrow t t' n n' H H' k K K' → AlikeValue t t' K K' (c (length H)) (c (length H'))
made_alike list g = g.list refl
made_alike (struct i) g = g.struct

result_alike : {t t' : List ℕ} {H H' : List Cell} {l l' : Option Value} → BothLast t t' H H' l l' → BothFound t t' H H' (last_of l) (last_of l')
unfolding last_of
result_alike nothing = bad _
result_alike (is b) = got b

no_cells : (t : ℕ) → heap_ok t [] ≡ true
unfolding heap_ok blocks_from
no_cells t = refl

-- s with another stack, other cells and another last result
abbrev beside : State → List Value → List Cell → Option Value → State
beside s vs H l = record { stack = vs; frame = s.frame; callers = s.callers; heap = H; last = l; spent = s.spent; units = s.units }

-- s when e units are spent and u are left
abbrev dealing : (e u : ℕ) → State → State
dealing e u s = record { stack = s.stack; frame = s.frame; callers = s.callers; heap = s.heap; last = s.last; spent = e; units = u }

-- they mean the same
record Beside (w : World) (lay : Layout) (s : State) (vs' : List Value) (H' : List Cell) (l' : Option Value) : Type 0 where
  left : heap_ok (length w.text) s.heap ≡ true
  right : heap_ok (length lay.text) H' ≡ true
  stack : Boths w.text lay.text s.heap H' s.stack vs'
  last : BothLast w.text lay.text s.heap H' s.last l'
  free : SameFree w.cell_room lay.cell_room s.heap H'

module _ (w : World) (lay : Layout) (good : SaneWorld w) (beside-good : SaneWorld (laid_out lay w)) (same_constants : AlikeConstants w lay) (s : State)
    (vs' : List Value) (H' : List Cell) (l' : Option Value) (sides : Beside w lay s vs' H' l') where
  abbrev other : State
  other = beside s vs' H' l'

  abbrev R : Outcome → Outcome → Type 0
  R = AlikeOutcome w lay

  abbrev B : Value → Value → Type 0
  B = Both w.text lay.text s.heap H'

  abbrev Bs : List Value → List Value → Type 0
  Bs = Boths w.text lay.text s.heap H'

  -- other stacks, other frames, other units
  states : (q : Frame) (cs : List Frame) (e u : ℕ) {r r' : List Value} → Bs r r'
      → AlikeState w lay (with_stack r (with_frames q cs (dealing e u s))) (with_stack r' (with_frames q cs (dealing e u other)))
  states q cs e u b = record {
    machine = record { stack = values_on (λ x x' c. c.alike) b; last = last_on (λ x x' c. c.alike) sides.last; frame = refl; callers = refl; free = sides.free };
    spent = refl;
    units = refl;
  }

  -- and no units are spent
  framed : (q : Frame) (cs : List Frame) {r r' : List Value} → Bs r r' → AlikeState w lay (with_stack r (with_frames q cs s)) (with_stack r' (with_frames q cs other))
  framed q cs b = states q cs s.spent s.units b

  stacks : {r r' : List Value} → Bs r r' → R (went (with_stack r s)) (went (with_stack r' other))
  stacks b = goes (framed s.frame s.callers b)

  here : AlikeState w lay s other
  here = framed s.frame s.callers sides.stack

  halt : (i : Fault) → R (faulted i s) (faulted i other)
  halt i = faults refl here

  -- ---- one law for each combinator of the rules

  popping_alike : {r r' : List Value} {k k' : Value → List Value → Outcome} → Bs r r'
      → ((x x' : Value) (q q' : List Value) → B x x' → Bs q q' → R (k x q) (k' x' q'))
      → R (popping r (λ i. faulted i s) k) (popping r' (λ i. faulted i other) k')
  unfolding popping
  popping_alike empty p = halt f.TooFewValues
  popping_alike (over b bs) p = p _ _ _ _ b bs

  wrong : (x x' : Value) → R (faulted (f.WrongKind x) s) (faulted (f.WrongKind x') other)
  unfolding fault_number
  wrong x x' = faults refl here

  scalar_alike : {x x' : Value} → Kinds w.text lay.text s.heap H' x x' → (k k' : Float → Outcome) {y y' : Outcome} → ((z : Float) → R (k z) (k' z))
      → R y y' → R (if_scalar x k y) (if_scalar x' k' y')
  unfolding if_scalar
  scalar_alike (scalars z) k k' p q = p z
  scalar_alike (booleans z) k k' p q = q
  scalar_alike strings k k' p q = q
  scalar_alike (references h) k k' p q = q
  scalar_alike lists k k' p q = q
  scalar_alike (structs h) k k' p q = q

  boolean_alike : {x x' : Value} → Kinds w.text lay.text s.heap H' x x' → (k k' : Bool → Outcome) {y y' : Outcome} → ((z : Bool) → R (k z) (k' z))
      → R y y' → R (if_boolean x k y) (if_boolean x' k' y')
  unfolding if_boolean
  boolean_alike (scalars z) k k' p q = q
  boolean_alike (booleans z) k k' p q = p z
  boolean_alike strings k k' p q = q
  boolean_alike (references h) k k' p q = q
  boolean_alike lists k k' p q = q
  boolean_alike (structs h) k k' p q = q

  reference_alike : {x x' : Value} → Kinds w.text lay.text s.heap H' x x' → (k : List ℕ → Outcome) (k' : List ℕ → Outcome) {y y' : Outcome} → ((z : List ℕ) → R (k z) (k' z)) → R y y'
      → R (if_reference x (λ i m. k (text_at w.text i m)) y) (if_reference x' (λ i m. k' (text_at lay.text i m)) y')
  unfolding if_reference
  reference_alike (scalars z) k k' p q = q
  reference_alike (booleans z) k k' p q = q
  reference_alike strings k k' p q = q
  reference_alike (references h) k k' p q = rw h (p _)
  reference_alike lists k k' p q = q
  reference_alike (structs h) k k' p q = q

  struct_alike : {x x' : Value} → Kinds w.text lay.text s.heap H' x x' → B x x' → (k k' : Result Value Fault → Outcome) (i : ℕ) {y y' : Outcome}
      → ((z z' : Result Value Fault) → BothFound w.text lay.text s.heap H' z z' → R (k z) (k' z')) → R y y'
      → R (if_struct x (λ j. k (field_of s.heap j i)) y) (if_struct x' (λ j. k' (field_of H' j i)) y')
  unfolding if_struct
  struct_alike (scalars z) b k k' i p q = q
  struct_alike (booleans z) b k k' i p q = q
  struct_alike strings b k k' i p q = q
  struct_alike (references h) b k k' i p q = q
  struct_alike lists b k k' i p q = q
  struct_alike (structs h) b k k' i p q = p _ _ (field_alike w.text lay.text s.heap H' sides.left sides.right b h i)

  kind_of_lem : {x x' : Value} → B x x' → Kinds w.text lay.text s.heap H' x x'
  kind_of_lem b = kinds w.text lay.text s.heap H' sides.left sides.right b

  popping_scalar_alike : {r r' : List Value} (k k' : Float → List Value → Outcome) → Bs r r' → ((z : Float) (q q' : List Value) → Bs q q' → R (k z q) (k' z q'))
      → R (popping_scalar r (λ i. faulted i s) k) (popping_scalar r' (λ i. faulted i other) k')
  unfolding popping_scalar
  popping_scalar_alike k k' b p = popping_alike b (λ x x' q q' c bs. scalar_alike (kind_of_lem c) _ _ (λ z. p z q q' bs) (wrong x x'))

  popping_boolean_alike : {r r' : List Value} (k k' : Bool → List Value → Outcome) → Bs r r' → ((z : Bool) (q q' : List Value) → Bs q q' → R (k z q) (k' z q'))
      → R (popping_boolean r (λ i. faulted i s) k) (popping_boolean r' (λ i. faulted i other) k')
  unfolding popping_boolean
  popping_boolean_alike k k' b p = popping_alike b (λ x x' q q' c bs. boolean_alike (kind_of_lem c) _ _ (λ z. p z q q' bs) (wrong x x'))

  found_alike : {x x' : Result Value Fault} (k k' : Value → Outcome) → BothFound w.text lay.text s.heap H' x x' → ((z z' : Value) → B z z' → R (k z) (k' z')) → R (on_found x s k) (on_found x' other k')
  unfolding on_found
  found_alike k k' (got b) p = p _ _ b
  found_alike k k' (bad i) p = halt i

  pushing_alike : (q q' : State) (x x' : Value) → length q.stack ≡ length q'.stack → AlikeState w lay q q' → R (went (with_stack (x ∷ q.stack) q)) (went (with_stack (x' ∷ q'.stack) q'))
      → R (pushing w x q) (pushing (laid_out lay w) x' q')
  unfolding pushing
  pushing_alike q q' x x' l a p = rw (← l) (if_each R (ltb (length q.stack) w.stack_room) (λ h. p) (λ h. faults refl a))

  push : {x x' : Value} → B x x' → R (pushing w x s) (pushing (laid_out lay w) x' other)
  push b = pushing_alike s other _ _ (length_alike _ _ _ _ sides.stack) here (stacks (over b sides.stack))

  number : (z : Float) → B (v.Scalar z) (v.Scalar z)
  unfolding placed_below meaning meaning_to tree_of
  number z = record { alike = refl; left = refl; right = refl }

  truth : (z : Bool) → B (v.Boolean z) (v.Boolean z)
  unfolding placed_below meaning meaning_to tree_of
  truth z = record { alike = refl; left = refl; right = refl }

  on_same_alike : (t : Bool → Bool) (z : Same) {r r' : List Value} → Bs r r' → R (on_same t r s z) (on_same t r' other z)
  unfolding on_same
  on_same_alike t (same b k) bs =
      if_each R (leb k s.units) (λ h. goes (states s.frame s.callers _ _ (over (truth (t b)) bs))) (λ h. runs_short)

  enter_alike : (i k : ℕ) {r r' : List Value} → Bs r r' → R (enter w i k r s) (enter (laid_out lay w) i k r' other)
  unfolding enter
  enter_alike i k {r} {r'} b =
      rw (← length_alike _ _ _ _ b)
      (if_each R (ltb (length r) k) (λ h. halt f.TooFewValues)
      (λ h. if_each R (leb w.frame_room (suc (length s.callers))) (λ h'. halt f.FramesFull) (λ h'. goes (framed _ (s.frame ∷ s.callers) b))))

  named_alike : (k : ℕ) (x : Maybe ℕ) {r r' : List Value} → Bs r r' → R (enter_named w k r s x) (enter_named (laid_out lay w) k r' other x)
  unfolding enter_named
  named_alike k none b = halt f.NoFunction
  named_alike k (some i) b = enter_alike i k b

  return_alike : (cs : List Frame) {x x' : Value} {r r' : List Value} → B x x' → Bs r r' → R (return_to cs x r s) (return_to cs x' r' other)
  unfolding return_to cut
  return_alike [] b bs = returns b.alike (record {
    machine = record { stack = values_on (λ x x' c. c.alike) bs; last = a.is b.alike; frame = refl; callers = refl; free = sides.free };
    spent = refl;
    units = refl;
  })
  return_alike (c ∷ cs) {r = r} b bs = rw (← length_alike _ _ _ _ bs) (goes (framed c cs (over b (drop_alike _ _ _ _ (length r - s.frame.base) bs))))

  -- ---- what is found, and what is built

  constant_alike : (i : ℕ) → BothFound w.text lay.text s.heap H' (constant_of w.constants i) (constant_of lay.constants i)
  unfolding constant_of
  constant_alike i =
      let bare = boths_of same_constants good.constants beside-good.constants in
      rw (← length_alike _ _ _ _ bare)
      (found_if _ _ _ _ (ltb i (length w.constants)) _ _ _ (λ h.
      let b = at_alike _ _ _ _ bare i (ltb-true _ _ h) in
      let x = get_or w.constants i (v.Boolean false) in
      let x' = get_or lay.constants i (v.Boolean false) in
      record {
        alike = meaning_kept w.text [] s.heap (no_cells (length w.text)) x b.left ∙ b.alike ∙ sym (meaning_kept lay.text [] H' (no_cells (length lay.text)) x' b.right);
        left = grows_placed (length w.text) (record { more = s.heap; is = refl }) x b.left;
        right = grows_placed (length lay.text) (record { more = H'; is = refl }) x' b.right;
      }))

  slot_alike : (i : ℕ) → BothFound w.text lay.text s.heap H' (slot_of s.stack i) (slot_of vs' i)
  unfolding slot_of
  slot_alike i =
      rw (← length_alike _ _ _ _ sides.stack)
      (found_if _ _ _ _ (ltb i (length s.stack)) _ _ _ (λ h. let z = ltb-true i (length s.stack) h in at_alike _ _ _ _ sides.stack (length s.stack - suc i) (omega arith)))

  elements_alike : {c : ℕ → Value} {elements : ℕ → List Value → List Value} {k : ℕ} → Makes c elements k → (i : ℕ) → Bs (elements i s.stack) (elements i vs')
  unfolding list_elements struct_fields
  elements_alike list i = turned_alike _ _ _ _ (take_alike _ _ _ _ i sides.stack) empty
  elements_alike (struct k) i = take_alike _ _ _ _ i sides.stack

  built_alike : {c : ℕ → Value} {elements : ℕ → List Value → List Value} {k : ℕ} {x x' : Built} {r r' : List Value} → Makes c elements k
      → BothBuilt w.text lay.text w.cell_room lay.cell_room s.heap H' k x x' → Bs r r'
      → R (on_built w c r s x) (on_built (laid_out lay w) c r' other x')
  unfolding on_built
  built_alike m (refused i) b = halt i
  built_alike {r = r} {r' = r'} m (made {K = K} {K' = K'} g) b =
      let q = with_stack r (with_heap K s) in
      let q' = with_stack r' (with_heap K' other) in
      let after : (x x' : List Value) → AlikeValues w.text lay.text K K' x x' → AlikeState w lay (with_stack x q) (with_stack x' q') =
      (λ x x' h. record { machine = record { stack = h; last = last_on g.old sides.last; frame = refl; callers = refl; free = g.free }; spent = refl; units = refl }) in
      pushing_alike q q' _ _ (length_alike _ _ _ _ b) (after r r' (values_on g.old b)) (goes (after _ _ (a.more (made_alike m g) (values_on g.old b))))

  build : {c : ℕ → Value} {elements : ℕ → List Value → List Value} (k i : ℕ) → Makes c elements k → R (build_step w c elements k i s) (build_step (laid_out lay w) c elements k i other)
  unfolding build_step
  build k i m =
      rw (← length_alike _ _ _ _ sides.stack)
      (if_each R (ltb (length s.stack) i) (λ h. halt f.TooFewValues)
      (λ h. built_alike m (build_alike w.text lay.text w.cell_room lay.cell_room s.heap H' sides.left sides.right sides.free k
      (elements_alike m i)) (drop_alike _ _ _ _ i sides.stack)))

  unless : (x : Bool) (i : ℕ) {r r' : List Value} → Bs r r' → R (went (with_stack r (if x then s else at (position s + i) s))) (went (with_stack r' (if x then other else at (position s + i) other)))
  unless true i b = stacks b
  unless false i b = goes (framed _ s.callers b)

  -- ---- a line for each opcode

  exec_alike : (p : Op) (i j : ℕ) → R (exec_of w p i j s) (exec_of (laid_out lay w) p i j other)
  unfolding exec_of load_step slot_step last_step negate_step arithmetic_step ordering_step equal_step logic_step not_step jump_step jump_if_false_step call_step call_callable_step struct_step field_step return_step
  exec_alike o.LoadConstant i j = found_alike _ _ (constant_alike i) (λ z z' b. push b)
  exec_alike o.GetLocal i j = found_alike _ _ (slot_alike (s.frame.base + i)) (λ z z' b. push b)
  exec_alike o.GetUpvalue i j = found_alike _ _ (slot_alike i) (λ z z' b. push b)
  exec_alike o.GetLastResult i j = found_alike _ _ (result_alike sides.last) (λ z z' b. push b)
  exec_alike o.Negate i j = popping_scalar_alike _ _ sides.stack (λ x r r' b. stacks (over (number _) b))
  exec_alike (o.Arithmetic x) i j =
      popping_scalar_alike _ _ sides.stack (λ y r r' b. popping_scalar_alike _ _ b (λ z q q' c. if_each R (zero_divisor x y) (λ h. halt f.ZeroDivisor)
      (λ h. if_each R (w.strict && (result_of x z y).escaped) (λ e. halt f.NotFinite) (λ e. stacks (over (number _) c)))))
  exec_alike (o.Ordering x) i j = popping_scalar_alike _ _ sides.stack (λ y r r' b. popping_scalar_alike _ _ b (λ z q q' c. stacks (over (truth _) c)))
  exec_alike o.Equal i j = popping_alike sides.stack (λ y y' r r' c b. popping_alike b (λ x x' q q' d bs. rw (← same_alike _ _ _ _ sides.left sides.right d c) (on_same_alike _ _ bs)))
  exec_alike o.NotEqual i j = popping_alike sides.stack (λ y y' r r' c b. popping_alike b (λ x x' q q' d bs. rw (← same_alike _ _ _ _ sides.left sides.right d c) (on_same_alike _ _ bs)))
  exec_alike o.LogicalAnd i j = popping_boolean_alike _ _ sides.stack (λ y r r' b. popping_boolean_alike _ _ b (λ z q q' c. stacks (over (truth _) c)))
  exec_alike o.LogicalOr i j = popping_boolean_alike _ _ sides.stack (λ y r r' b. popping_boolean_alike _ _ b (λ z q q' c. stacks (over (truth _) c)))
  exec_alike o.LogicalNeg i j = popping_boolean_alike _ _ sides.stack (λ y r r' b. stacks (over (truth _) b))
  exec_alike o.JumpIfFalse i j = popping_boolean_alike _ _ sides.stack (λ x r r' b. unless x i b)
  exec_alike o.Jump i j = goes (framed _ s.callers sides.stack)
  exec_alike o.Call i j = if_each R (ltb i (length w.functions)) (λ h. enter_alike i j sides.stack) (λ h. halt f.OutOfRange)
  exec_alike o.CallCallable i j =
      popping_alike sides.stack (λ x x' r r' c b. reference_alike (kind_of_lem c) (λ z. enter_named w i r s (function_named z w.functions))
      (λ z. enter_named (laid_out lay w) i r' other (function_named z w.functions))
      (λ z. named_alike i _ b) (wrong x x'))
  exec_alike o.BuildStructInstance i j = if_each R (ltb i w.structs) (λ h. build i j (struct i)) (λ h. halt f.OutOfRange)
  exec_alike o.AccessStructField i j =
      popping_alike sides.stack (λ x x' r r' c b. struct_alike (kind_of_lem c) c (λ z. on_found z s (λ y. went (with_stack (y ∷ r) s))) (λ z. on_found z other (λ y. went (with_stack (y ∷ r') other))) i
      (λ z z' d. found_alike _ _ d (λ y y' g. stacks (over g b))) (wrong x x'))
  exec_alike o.BuildList i j = build 0 i list
  exec_alike o.Return i j = popping_alike sides.stack (λ x x' r r' c b. return_alike s.callers c b)

-- ---- a step

module _ (w : World) (lay : Layout) (good : SaneWorld w) (beside-good : SaneWorld (laid_out lay w)) (same_constants : AlikeConstants w lay) (vs' : List Value) (H' : List Cell) (l' : Option Value) where
  abbrev C : State → Type 0
  C s = Beside w lay s vs' H' l'

  abbrev Rs : State → (World → State → Outcome) → Type 0
  Rs s k = AlikeOutcome w lay (k w s) (k (laid_out lay w) (beside s vs' H' l'))

  fault_beside : (s : State) → C s → (i : Fault) → Rs s (λ _ q. faulted i q)
  fault_beside s c i = halt w lay good beside-good same_constants s vs' H' l' c i

  -- another position and other units
  moved : (s : State) → C s → (i e u : ℕ) → C (at i (dealing e u s))
  moved s c i e u = record { left = c.left; right = c.right; stack = c.stack; last = c.last; free = c.free }

  operands_alike : (s : State) → C s → (p : Op) (k : ℕ) → Rs s (λ x q. operands_then x p k q)
  unfolding operands_then code_of
  operands_alike s c p k =
      if_each (AlikeOutcome w lay) (leb (position s + 2 * k) (length (code_of w s)))
      (λ h. exec_alike w lay good beside-good same_constants (at (position s + 2 * k) s) vs' H' l' (moved s c _ s.spent s.units) p _ _)
      (λ h. fault_beside s c f.CodeEnds)

  decoded_alike : (s : State) → C s → (x : Decoded) (k : ℕ) → Rs s (λ y q. decoded_then y x k q)
  unfolding decoded_then
  decoded_alike s c (d.Carried p) k = operands_alike s c p k
  decoded_alike s c d.NotCarried k = fault_beside s c f.NotCarried
  decoded_alike s c d.Unknown k = fault_beside s c f.UnknownOpcode

  step_beside : (s : State) → C s → Rs s step_of
  unfolding step_of fetched code_of
  step_beside s c =
      if_each (AlikeOutcome w lay) (eqb s.units 0) (λ h. runs_short)
      (λ h. decoded_alike (at (suc (position s)) (paid 1 s)) (moved s c _ _ _) _ _)

  step_parts : (s : State) → C s → (q : Frame) (cs : List Frame) (e u : ℕ) → q ≡ s.frame → cs ≡ s.callers → e ≡ s.spent → u ≡ s.units
      → AlikeOutcome w lay (step_of w s) (step_of (laid_out lay w) (record { stack = vs'; frame = q; callers = cs; heap = H'; last = l'; spent = e; units = u }))
  step_parts s c q cs e u x y y' z = rw (x, y, y', z) (step_beside s c)

-- two machines in good order that mean the same take the same step
pub step_alike : (w : World) (lay : Layout) → SaneWorld w → SaneWorld (laid_out lay w) → AlikeConstants w lay → (s s' : State) → Sane w s
    → Sane (laid_out lay w) s' → AlikeState w lay s s' → AlikeOutcome w lay (step_of w s) (step_of (laid_out lay w) s')
step_alike w lay good beside-good same_constants s s' h h' a =
    let m = a.machine in
    step_parts w lay good beside-good same_constants s'.stack s'.heap s'.last s
    (record {
      left = h.heap;
      right = h'.heap;
      stack = boths_of m.stack h.placed h'.placed;
      last = last_of_lem m.last h.last h'.last;
      free = m.free;
    })
    s'.frame s'.callers s'.spent s'.units m.frame m.callers a.spent a.units
