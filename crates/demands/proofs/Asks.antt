-- The entries whose contract is an equation: in states that agree they answer the same and leave states that agree.
use Rattle.std.specs.Prelude.{if◌then◌else◌, Err, Ok, Result}
use mathlib.Core.Path.{◌≡◌, refl, ap}
use mathlib.Core.Bool.{Bool, true, false, ◌&&◌}
use mathlib.Core.List.{List, [], ◌∷◌}
use mathlib.Core.Option.{some}
use Prim.Native.Nat.{ℕ, suc, ◌+◌, ◌≤◌, ◌<◌}
use native.Mathlib.Omega.{arith}
use borrow.Author.Tests.{ltb-true}
use lib.Dec.{ltb, leb}
use Rattle.model.specs.declared.Vm.{Vm}
use Rattle.model.specs.declared.Value.{Value}
use Rattle.model.specs.declared.Value.TheVariants as v
use Rattle.model.specs.declared.Frame.{Frame}
use Rattle.model.specs.Values.{if_list, if_struct, places}
use Rattle.model.specs.Heap.{heap_of, head_in, placed_below}
use Rattle.model.specs.Stores.{Stores, functions_from}
use Rattle.model.specs.Orders.{frame_store_ok, traces, judged_by}
use Rattle.model.specs.Emission.{Res}
use Rattle.model.specs.Machines.{Lent, run_order, trace_order, backtrace_in, start_with, fresh, unless_running, load_machine_of, new_machine_of}
use Rattle.model.specs.Readers.{stack_value_of, reads, header_at, block_header_of, element_shown, element_of}
use Rattle.value.proofs.Coding.{and_right}
use Rattle.cells.proofs.Order.{Whole, Placed, list_of, struct_of}
use Rattle.laws_runs.proofs.Frames.{some_frame}
use Rattle.layout.proofs.Parts.{places_same}
use Rattle.demands.specs.Host.{Held, Ask, new, load, add_op, add_op1, add_op2, add_op3, patch, add_constant, add_struct, begin_function, end_function, set_strict, current_offset, function_idx, save, disassemble, backtrace, last_result, stack_value, block_header, element, text_bytes, Answer, put, shown, headed, Done, counted, with_frames, emits, starts, changes, looks, done}
use Rattle.demands.specs.Agree.{Alike, LentAlike, Agree}
use Rattle.demands.proofs.Fronts.{front_of, places_alike, value_alike, shown_alike, heap_to, heap_alike, frames_alike, innermost_alike, callers_alike}
use Rattle.demands.proofs.Agreeing.{order_alike}
use Rattle.demands.proofs.Setting.{set_by, set_is}
use Rattle.model.specs.declared.Counts.{Counts}
use Rattle.model.specs.declared.Refusal.{Refusal}

-- what two calls answer and leave agrees
pub record DoneAlike (a b : Done) : Type 0 where
  pub answer : a.answer ≡ b.answer
  pub agree : Agree a.held b.held

if_same : {A : Type 0} (b : Bool) (z : A) {x y : A} → (b ≡ true → x ≡ y) → (if b then x else z) ≡ (if b then y else z)
if_same true z h = h refl
if_same false z h = refl

-- ---- the backtrace

-- of the stack store the backtrace looks at the room alone
module _ (m : Vm) (s : Stores) (st st' : List ℕ) (r : places 2 st ≡ places 2 st') {fs fs' : List Frame} (k : Alike m.frames fs fs') where
  trace_order_alike : trace_order m s st fs ≡ trace_order m s st' fs'
  unfolding trace_order
  trace_order_alike = rw (r, frames_alike k (functions_from m.program.functions 0 s) (places 2 st'))

  has_frame : trace_order m s st fs ≡ true → 1 ≤ m.frames
  unfolding trace_order
  has_frame e =
      let gs = functions_from m.program.functions 0 s in
      some_frame gs (places 2 st) m.frames fs (and_right (judged_by traces m.program s) (frame_store_ok gs (places 2 st) m.frames fs) e)

  pub trace_alike : (out : List ℕ) → backtrace_in m s st fs out ≡ backtrace_in m s st' fs' out
  unfolding backtrace_in
  trace_alike out = rw (← trace_order_alike) (if_same (trace_order m s st fs) _ (λ e. rw (innermost_alike (front_of k) (has_frame e), callers_alike (front_of k))))

module _ (m : Vm) (s : Stores) {l l' : Lent} (k : LentAlike m l l') where
  abbrev here : Lent → Held
  here x = record { vm = m; stores = s; lent = x }

  -- ---- emission

  counted_alike : (a : Result (Counts × ℕ) Refusal) → LentAlike (counted m a) l l'
  counted_alike (Ok (c, n)) = record { stack = k.stack; cells = k.cells; frames = k.frames; copy = k.copy; backtrace = k.backtrace }
  counted_alike (Err e) = k

  emits_alike : (x : Res) → DoneAlike (emits (here l) x) (emits (here l') x)
  unfolding emits
  emits_alike x = record { answer = refl; agree = record { vm = refl; stores = refl; lent = counted_alike x.answer } }

  -- ---- the setting

  set_by_lem : (b inOrder running : Bool) → DoneAlike (changes (here l) (set_by b inOrder running m)) (changes (here l') (set_by b inOrder running m))
  unfolding changes
  set_by_lem b true true = record { answer = refl; agree = record { vm = refl; stores = refl; lent = k } }
  set_by_lem b true false = record {
    answer = refl;
    agree = record { vm = refl; stores = refl; lent = record { stack = k.stack; cells = k.cells; frames = k.frames; copy = k.copy; backtrace = k.backtrace } };
  }
  set_by_lem b false running = record { answer = refl; agree = record { vm = refl; stores = refl; lent = k } }

  -- ---- a machine that has not run

  frames_too : {fs fs' : List Frame} → Alike m.frames fs fs' → LentAlike m (with_frames fs l) (with_frames fs' l')
  frames_too f = record { stack = k.stack; cells = k.cells; frames = f; copy = k.copy; backtrace = k.backtrace }

  start_alike : (a : Result Counts Refusal) (s' : Stores) (fs fs' : List Frame) → Alike m.frames fs fs' → DoneAlike (starts (here l) (start_with a s' s fs)) (starts (here l') (start_with a s' s fs'))
  unfolding starts start_with fresh
  start_alike (Ok c) s' [] [] f = record { answer = refl; agree = record { vm = refl; stores = refl; lent = frames_too f } }
  start_alike (Ok c) s' [] (r ∷ rs) f = absurd (let z : ⊥ = omega (arith, f.room) in z)
  start_alike (Ok c) s' (r ∷ rs) [] f = absurd (let z : ⊥ = omega (arith, f.room) in z)
  start_alike (Ok c) s' (r ∷ rs) (q ∷ qs) f = record {
    answer = refl;
    agree = record {
      vm = refl;
      stores = refl;
      lent = record {
        stack = record { front = refl; room = k.stack.room };
        cells = record { front = refl; room = k.cells.room };
        frames = record { front = refl; room = f.room };
        copy = record { front = refl; room = k.copy.room };
        backtrace = k.backtrace;
      };
    };
  }
  start_alike (Err e) s' fs fs' f = record { answer = refl; agree = record { vm = refl; stores = refl; lent = frames_too f } }

  -- unless a run is under way
  unless_alike : (running : Bool) (a : Result Counts Refusal) (s' : Stores)
      → DoneAlike (starts (here l) (unless_running running s l.frames (start_with a s' s l.frames))) (starts (here l') (unless_running running s l'.frames (start_with a s' s l'.frames)))
  unfolding unless_running starts
  unless_alike true a s' = record { answer = refl; agree = record { vm = refl; stores = refl; lent = frames_too k.frames } }
  unless_alike false a s' = start_alike a s' l.frames l'.frames k.frames

  -- ---- entries that only look

  looks_alike : {a b : Answer} → a ≡ b → DoneAlike (looks (here l) a) (looks (here l') b)
  unfolding looks
  looks_alike q = record { answer = q; agree = record { vm = refl; stores = refl; lent = k } }

  value_shown_lem : (i : ℕ) → stack_value_of m i l.stack ≡ stack_value_of m i l'.stack
  unfolding stack_value_of
  value_shown_lem i =
      rw (places_alike l.stack l'.stack k.stack.room 2) (if_same (leb m.stack (places 2 l'.stack)) _ (λ _.
      if_same (ltb i m.stack) _ (λ e. shown_alike m.stack (front_of k.stack) i (ltb-true i m.stack e))))

  header_shown_lem : (x : Value) → block_header_of m x l.cells ≡ block_header_of m x l'.cells
  unfolding block_header_of reads
  header_shown_lem x = rw (places_alike l.cells l'.cells k.cells.room 2, heap_alike m.cells (front_of k.cells))

  -- the elements of what is placed are below the count of cells
  element_at : (p i : ℕ) → Whole (heap_of m.cells l'.cells) p m.cells → element_shown m i l.cells (some p) ≡ element_shown m i l'.cells (some p)
  unfolding element_shown
  element_at p i w =
      let n = (head_in (heap_of m.cells l'.cells) p).count in
      rw (heap_alike m.cells (front_of k.cells)) (if_same (ltb i n) _ (λ e.
      let x : i < n = ltb-true i n e in
      let y = w.ends in
      let h : suc p + i < m.cells = omega arith in
      rw (heap_to m.cells (front_of k.cells) p (omega arith), value_alike m.cells (front_of k.cells) (suc p + i) h, shown_alike m.cells (front_of k.cells) (suc p + i) h)))

  element_by : (x : Value) (i : ℕ) → Placed m.program.text (heap_of m.cells l'.cells) m.cells x → element_shown m i l.cells (header_at x) ≡ element_shown m i l'.cells (header_at x)
  unfolding element_shown header_at if_list if_struct
  element_by (v.Scalar x) i e = refl
  element_by (v.Boolean x) i e = refl
  element_by (v.String o n) i e = refl
  element_by (v.FunctionReference o n) i e = refl
  element_by (v.List p) i e = element_at p i (list_of _ _ _ p e)
  element_by (v.StructInstance p) i e = element_at p i (struct_of _ _ _ p e)

  element_shown_lem : (x : Value) (i : ℕ) → element_of m x i l.cells ≡ element_of m x i l'.cells
  unfolding element_of reads
  element_shown_lem x i =
      let a = leb m.cells (places 2 l'.cells) in
      let b = placed_below m.program.text (heap_of m.cells l'.cells) m.cells x in
      rw (places_alike l.cells l'.cells k.cells.room 2, heap_alike m.cells (front_of k.cells)) (if_same (a && b) _ (λ e. element_by x i (and_right a b e)))

  pub ask_alike : (q : Ask) → DoneAlike (done q (here l)) (done q (here l'))
  unfolding done new_machine_of load_machine_of
  ask_alike new = unless_alike m.run.on _ _
  ask_alike (load image) = unless_alike m.run.on _ _
  ask_alike (add_op op place) = emits_alike _
  ask_alike (add_op1 op a place) = emits_alike _
  ask_alike (add_op2 op a b place) = emits_alike _
  ask_alike (add_op3 op a b c place) = emits_alike _
  ask_alike (patch offset word) = emits_alike _
  ask_alike (add_constant x text) = emits_alike _
  ask_alike (add_struct text) = emits_alike _
  ask_alike (begin_function text) = emits_alike _
  ask_alike end_function = emits_alike _
  ask_alike (set_strict b) = rw (set_is b m s l, set_is b m s l', ← order_alike m s k) (set_by_lem b (run_order m s l) m.run.on)
  ask_alike current_offset = looks_alike refl
  ask_alike (function_idx text) = looks_alike refl
  ask_alike (save out) = looks_alike refl
  ask_alike (disassemble out) = looks_alike refl
  ask_alike (backtrace out) = looks_alike (ap (put out) (trace_alike m s l.stack l'.stack (places_same 2 l.stack l'.stack k.stack.room) k.frames out))
  ask_alike last_result = looks_alike refl
  ask_alike (stack_value i) = looks_alike (ap shown (value_shown_lem i))
  ask_alike (block_header x) = looks_alike (ap headed (header_shown_lem x))
  ask_alike (element x i) = looks_alike (ap shown (element_shown_lem x i))
  ask_alike (text_bytes x out) = looks_alike refl
