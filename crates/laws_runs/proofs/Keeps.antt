-- A step keeps good order.
use Rattle.std.specs.Prelude.{if◌then◌else◌}
use mathlib.Core.Path.{◌≡◌, refl, ap, subst}
use mathlib.Core.Bool.{Bool, true, false}
use mathlib.Core.List.{List, [], ◌∷◌}
use Prim.Native.Nat.{ℕ, zero, suc, ◌-◌, ◌≤◌, ◌<◌}
use native.Mathlib.Omega.{arith}
use borrow.Author.Tests.{lt-ltb, leb-false}
use lib.Dec.{eqb}
use lib.ListN.{length, drop, length-drop}
use Rattle.model.specs.declared.Value.{Value}
use Rattle.model.specs.declared.Frame.{Frame}
use Rattle.model.specs.Heap.{Cell}
use Rattle.model.specs.Programs.{Function, function_at, word_at}
use Rattle.model.specs.Steps.{World, State, Outcome, went, returned, faulted, short, with_stack, with_heap, at, position, code_of, cut, step_of}
use Rattle.model.specs.Runs.{over, traceable, cut_at}
use Rattle.cells.proofs.Order.{Placed}
use Rattle.laws_runs.specs.Sane.{AllPlaced, LastPlaced, CodesFit, SaneWorld, FrameFits, CallerFits, CallersFit, Rooted, Rising, Sane, SameFrames, Faults, Kept}
use Rattle.laws_runs.proofs.Does.{Below, here, under, truth, Held, constant, slot, last, Does, fault, spent, full, push, answer, compare, fall, leap, call, build, field, back, home, fetched_at, Stepped, unpaid, unread, ran, step_one}
use Rattle.laws_runs.proofs.Adds.{built_grows}
use Rattle.laws_runs.proofs.Placed.{grows_placed, plain_placed, all_at, all_below, all_drop, all_grows, last_grows, built_made, field_placed}

-- ---- lengths and numbers

below_length : {q vs : List Value} → Below q vs → length q ≤ length vs
below_length here = omega arith
below_length (under b) = let z = below_length b in omega arith

drop_length : (n : ℕ) (vs : List Value) → length (drop n vs) ≤ length vs
drop_length n vs = simp length-drop (omega arith)

pub code_fits : (fs : List Function) → CodesFit fs → (i : ℕ) → length (function_at fs i).code ≤ 65535
unfolding CodesFit function_at
code_fits [] c i = omega arith
code_fits (f ∷ fs) c zero = c.0
code_fits (f ∷ fs) c (suc i) = code_fits fs c.1 i

word_fits : (w : World) → SaneWorld w → (s : State) (i : ℕ) → word_at (code_of w s) i ≤ 65535
unfolding word_at code_of
word_fits w good s i = omega (arith, good.bytes s.frame.function i, good.bytes s.frame.function (suc i))

-- ---- frames

rooted_at : (f : Frame) (i : ℕ) (cs : List Frame) → Rooted f cs → Rooted (record { function = f.function; position = i; base = f.base; entered = f.entered }) cs
unfolding Rooted
rooted_at f i [] r = r
rooted_at f i (c ∷ cs) r = r

-- a later bound, and the frame elsewhere
rises : (most n i : ℕ) (f : Frame) (cs : List Frame) → most ≤ n → Rising most (f ∷ cs)
    → Rising n (record { function = f.function; position = i; base = f.base; entered = f.entered } ∷ cs)
unfolding Rising
rises most n i f cs h r = (let z = r.0 in omega arith, r.1)

module _ (w : World) where
  trace_on : (f : Frame) (cs : List Frame) → f.position - 1 < length (function_at w.functions f.function).code → traceable w.functions cs ≡ true → traceable w.functions (f ∷ cs) ≡ true
  unfolding traceable
  trace_on f cs l e = rw (lt-ltb _ _ l) e

  -- the callers' places lie inside their codes
  pub callers_traced : (cs : List Frame) → CallersFit w cs → traceable w.functions cs ≡ true
  unfolding CallersFit
  callers_traced [] c = unfold traceable in refl
  callers_traced (f ∷ cs) c = trace_on f cs (let a = c.0.from in let b = c.0.to in omega arith) (callers_traced cs c.1)

-- ---- a state

-- s when e units are spent and u are left
abbrev dealing : (e u : ℕ) → State → State
dealing e u s = record { stack = s.stack; frame = s.frame; callers = s.callers; heap = s.heap; last = s.last; spent = e; units = u }

-- the bytes of text
abbrev text : World → ℕ
text w = length w.text

module _ (w : World) (s : State) (sane : Sane w s) where
  -- the current frame elsewhere
  moved : (i : ℕ) → i ≤ 131070 → FrameFits w (at i s).frame
  moved i h = record { known = sane.frame.known; base = sane.frame.base; position = omega arith }

  -- another stack, another position, more units spent
  stacked : (e u i : ℕ) (vs : List Value) → s.spent ≤ e → FrameFits w (at i s).frame → length vs ≤ w.stack_room → AllPlaced (text w) s.heap vs
      → Sane w (with_stack vs (at i (dealing e u s)))
  stacked e u i vs h f l a = record {
    stack = l;
    frames = sane.frames;
    cells = sane.cells;
    heap = sane.heap;
    placed = a;
    last = sane.last;
    frame = f;
    callers = sane.callers;
    root = rooted_at s.frame i s.callers sane.root;
    rising = rises s.spent e i s.frame s.callers h sane.rising;
  }

  -- a stack that is not higher
  popped : (e u i : ℕ) (vs : List Value) → s.spent ≤ e → FrameFits w (at i s).frame → length vs ≤ length s.stack → AllPlaced (text w) s.heap vs
      → Sane w (with_stack vs (at i (dealing e u s)))
  popped e u i vs h f l a = stacked e u i vs h f (let z = sane.stack in omega arith) a

  -- a fault at i
  stops : (e u i : ℕ) (vs : List Value) (H : List Cell) → i - 1 < length (code_of w s) → Faults w s (with_stack vs (with_heap H (at i (dealing e u s))))
  unfolding code_of
  stops e u i vs H h = record {
    frames = record { function = refl; base = refl; callers = refl };
    traced = trace_on w (at i s).frame s.callers h (callers_traced w s.callers sane.callers);
  }

-- ---- an instruction: s has read it whole

module _ (w : World) (good : SaneWorld w) (s : State) (sane : Sane w s) (ready : CallerFits w s.frame) where
  here_stops : (vs : List Value) (H : List Cell) → Faults w s (with_stack vs (with_heap H s))
  unfolding code_of
  here_stops vs H = stops w s sane s.spent s.units (position s) vs H (let a = ready.from in let b = ready.to in omega arith)

  -- the stack becomes vs, which is not higher
  here_popped : (e u : ℕ) (vs : List Value) → s.spent ≤ e → length vs ≤ length s.stack → AllPlaced (text w) s.heap vs → Sane w (with_stack vs (dealing e u s))
  here_popped e u vs h l a = popped w s sane e u (position s) vs h sane.frame l a

  -- and no units are spent
  here_left : (vs : List Value) → length vs ≤ length s.stack → AllPlaced (text w) s.heap vs → Sane w (with_stack vs s)
  here_left vs l a = here_popped s.spent s.units vs (omega arith) l a

  within : position s ≤ 65535
  within = let z = ready.to in let y = code_fits w.functions good.codes s.frame.function in omega arith

  held_placed : {x : Value} → Held w s x → Placed (text w) s.heap (length s.heap) x
  unfolding LastPlaced
  held_placed (constant i l) = grows_placed (text w) (record { more = s.heap; is = refl }) _ (all_at (text w) [] w.constants good.constants i l)
  held_placed (slot i l) = all_at (text w) s.heap s.stack sane.placed i l
  held_placed (last e) = subst (LastPlaced (text w) s.heap) e sane.last

  rest : {x : Value} {r : List Value} → Below (x ∷ r) s.stack → AllPlaced (text w) s.heap r
  unfolding AllPlaced
  rest b = (all_below (text w) s.heap b sane.placed).1

  first : {x : Value} {r : List Value} → Below (x ∷ r) s.stack → Placed (text w) s.heap (length s.heap) x
  unfolding AllPlaced
  first b = (all_below (text w) s.heap b sane.placed).0

  does_kept : {a : ℕ} {t : State} {x y : Outcome} → a ≤ 65535 → Does w a s t x y → Kept w s x
  unfolding AllPlaced LastPlaced CallersFit Rooted Rising cut
  does_kept h (fault n) = here_stops s.stack s.heap
  does_kept h (spent x) = tt
  does_kept h (full b) = here_stops _ _
  does_kept h (push g l) = stacked w s sane s.spent s.units (position s) _ (omega arith) sane.frame l (held_placed g, sane.placed)
  does_kept h (answer b p) = here_left _ (below_length b) (plain_placed (text w) s.heap _ p, rest b)
  does_kept h (compare b k l g) = here_popped _ _ _ (omega arith) (below_length l) (plain_placed (text w) s.heap _ (truth b), rest l)
  does_kept h (fall b) = here_left _ (below_length b) (all_below (text w) s.heap b sane.placed)
  does_kept h (leap b) =
      popped w s sane s.spent s.units _ _ (omega arith) (moved w s sane _ (let z = within in omega arith)) (below_length b) (all_below (text w) s.heap b sane.placed)
  does_kept h (call i n b l m g) = let z = below_length b in let y = sane.stack in record {
    stack = omega arith;
    frames = g;
    cells = sane.cells;
    heap = sane.heap;
    placed = all_below (text w) s.heap b sane.placed;
    last = sane.last;
    frame = record { known = l; base = omega arith; position = omega arith };
    callers = (ready, sane.callers);
    root = sane.root;
    rising = (omega arith, sane.rising);
  }
  does_kept h (build {n = n} {H = H} b l) =
      let m = built_made (text w) sane.heap sane.placed b in
      let g = built_grows _ _ _ _ b.gives in
      record {
        stack = l;
        frames = sane.frames;
        cells = m.fits;
        heap = m.good;
        placed = (m.placed, all_drop (text w) H n s.stack (all_grows (text w) g s.stack sane.placed));
        last = last_grows (text w) g s.last sane.last;
        frame = sane.frame;
        callers = sane.callers;
        root = sane.root;
        rising = sane.rising;
      }
  does_kept h (field p i b e) = here_left _ (below_length b) (field_placed (text w) s.heap sane.heap p i (first b) e, rest b)
  does_kept h (back {r = r} {c = c} {cs = cs} b e) =
      let all : CallersFit w (c ∷ cs) = subst (CallersFit w) e sane.callers in
      let root : Rooted s.frame (c ∷ cs) = subst (Rooted s.frame) e sane.root in
      let rising : Rising s.frame.entered (c ∷ cs) = subst (Rising s.frame.entered) e sane.rising.1 in
      let z : length s.callers ≡ suc (length cs) = ap length e in
      let y = below_length b in let x = sane.stack in let n = drop_length (length r - s.frame.base) r in
      record {
        stack = omega arith;
        frames = let f = sane.frames in omega arith;
        cells = sane.cells;
        heap = sane.heap;
        placed = (first b, all_drop (text w) s.heap (length r - s.frame.base) r (rest b));
        last = sane.last;
        frame = all.0.frame;
        callers = all.1;
        root = root;
        rising = (let f = sane.rising.0 in let d = rising.0 in omega arith, rising.1);
      }
  does_kept h (home b e) = record {
    sane = record {
      stack = let y = below_length b in let x = sane.stack in omega arith;
      frames = sane.frames;
      cells = sane.cells;
      heap = sane.heap;
      placed = rest b;
      last = first b;
      frame = sane.frame;
      callers = sane.callers;
      root = sane.root;
      rising = sane.rising;
    };
    last = refl;
    frames = record { function = refl; base = refl; callers = refl };
  }

-- ---- a step

module _ (w : World) (good : SaneWorld w) (s : State) (sane : Sane w s) (l : position s < length (code_of w s)) where
  same_before : (i : ℕ) {t : State} → SameFrames (fetched_at i s) t → SameFrames s t
  same_before i f = record { function = f.function; base = f.base; callers = f.callers }

  kept_before : (i : ℕ) (x : Outcome) → Kept w (fetched_at i s) x → Kept w s x
  kept_before i (went t) k = k
  kept_before i (returned y t) k = record { sane = k.sane; last = k.last; frames = same_before i k.frames }
  kept_before i (faulted n t) k = record { frames = same_before i k.frames; traced = k.traced }
  kept_before i short k = tt

  stepped_kept : {t : State} {x y : Outcome} → Stepped w s t x y → Kept w s x
  unfolding code_of
  stepped_kept (unpaid e x) = tt
  stepped_kept (unread h n) = stops w s sane _ _ (suc (position s)) s.stack s.heap (omega arith)
  stepped_kept {x = x} (ran i a h g k e d) =
      let z : length (code_of w s) ≤ 65535 = code_fits w.functions good.codes s.frame.function in
      let f : FrameFits w (at i s).frame = moved w s sane i (omega arith) in
      let b : Sane w (fetched_at i s) = stacked w s sane _ _ i s.stack (omega arith) f sane.stack sane.placed in
      kept_before i x (does_kept w good (fetched_at i s) b (record { frame = f; from = omega arith; to = k }) (rw e (word_fits w good s (suc (position s)))) d)

-- a run that is given up is cut where it stands, or behind an opcode that was fetched
pub cut_faults : (w : World) (s : State) → Sane w s → over w s ≡ false → Faults w s (cut_at s)
unfolding over cut_at
cut_faults w s sane o = let l : position s < length (code_of w s) = leb-false _ _ o in stops w s sane s.spent s.units _ s.stack s.heap (by (eqb s.units 0) l)
  where
    by : (b : Bool) → position s < length (code_of w s) → (if b then position s else suc (position s)) - 1 < length (code_of w s)
    by true l = omega arith
    by false l = omega arith

pub step_keeps : (w : World) (s : State) → SaneWorld w → Sane w s → over w s ≡ false → Kept w s (step_of w s)
unfolding over
step_keeps w s good sane o = stepped_kept w good s sane (leb-false _ _ o) (step_one w s)
