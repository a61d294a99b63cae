-- What the run's loop leans on, and what it ensures.
use Rattle.std.specs.Prelude.{◌≡◌, Bool, true, false, List, ◌∷◌, ℕ, ◌≤◌, ◌<◌, eqb, length, take, if◌then◌else◌}
use Rattle.model.specs.declared.Fault.{Fault}
use Rattle.model.specs.declared.Frame.{Frame}
use Rattle.model.specs.Heap.{heap_of}
use Rattle.model.specs.Programs.{function_at}
use Rattle.model.specs.Steps.{World, State}
use Rattle.model.specs.Runs.{Ended, ended, stopped, paused, over as isEnd, traceable, end_from}
use Rattle.model.specs.Stores.{part, code_word}
use Rattle.laws_runs.specs.Sane.{Sane}
use Rattle.frames.specs.Links.{callers_of}
use Rattle.run_arms.specs.declared.Fixed.{Fixed}
use Rattle.run_arms.specs.declared.Going.{Going}
use Rattle.run_arms.specs.Links.{Around, around, state_of, frame_in}
use Rattle.run_steps.specs.Links.{Lent, Fits, progress_in}
use Rattle.run_loop.specs.declared.Course.{Course}
use Rattle.run_loop.specs.declared.Turn.{Turn}
use Rattle.run_loop.specs.declared.Turn.TheVariants as t

-- the code of function i, by its word: main and the others have separate stores
unfoldable pub code_in : List ℕ → List ℕ → List ℕ → ℕ → List ℕ
code_in functions main other i = part (if eqb i 0 then main else other) (code_word functions i)

-- the frame of a machine was entered at e units, and its callers stand in the lent frames
abbrev pub around_in : Going → (entered : ℕ) → (frames : List Frame) → Around
around_in g e frames = around e (callers_of g.callers frames)

abbrev pub state_in : Fixed → Going → (entered : ℕ) → (s x : List ℕ) → (frames : List Frame) → State
state_in k g e s x frames = state_of k g s x (around_in g e frames)

-- a run under way; n bytes of text are taken
pub record Under (w : World) (k : Fixed) (g : Going) (e n : ℕ) (constants functions text main other s x : List ℕ) (frames : List Frame) : Type 0 where
  pub taken : n ≤ length text
  pub lent : Lent w k constants functions (take n text) x
  pub coded : (i : ℕ) → i < k.functions → (function_at w.functions i).code ≡ code_in functions main other i
  pub room : k.frames ≤ length frames
  pub fits : Fits k g s x
  pub sane : Sane w (state_in k g e s x frames)

-- where a course stands, with the stores and the frames as they are
abbrev pub stands : Fixed → Course → (s x : List ℕ) → (frames : List Frame) → State
stands k c s x frames = state_in k c.going c.entered s x frames

-- the end e of a run as its course says it, with the stores and the frames as they then are
pub data Ends (w : World) (k : Fixed) (e : Ended) (c : Course) (s x : List ℕ) (frames : List Frame) : Type 0 where
  over : c.turn ≡ t.Over
      → e ≡ ended (progress_in c.going x) (stands k c s x frames)
      → Sane w (stands k c s x frames)
      → Ends w k e c s x frames
  pause : c.turn ≡ t.Paused
      → e ≡ paused (progress_in c.going x) (stands k c s x frames)
      → Sane w (stands k c s x frames)
      → isEnd w (stands k c s x frames) ≡ false
      → Ends w k e c s x frames
  stop : (f : Fault) → c.turn ≡ t.Stopped f
      → e ≡ stopped f (stands k c s x frames) (progress_in c.going x)
      → traceable w.functions (frame_in c.going c.entered ∷ callers_of c.going.callers frames) ≡ true
      → Ends w k e c s x frames

-- e is when the frame of the start was entered
pub record TurnsPost (w : World) (k : Fixed) (g : Going) (e : ℕ) (s x : List ℕ) (frames : List Frame) (r : Course) (s' x' : List ℕ) (frames' : List Frame) : Type 0 where
  pub ends : Ends w k (end_from w (progress_in g x) (state_in k g e s x frames)) r s' x' frames'
  pub fits : Fits k r.going s' x'
  pub spent : g.spent ≤ r.going.spent
  pub mark : g.mark ≤ r.going.mark
  pub before : (i : ℕ) → i ≤ g.mark → heap_of i x' ≡ heap_of i x

-- ---- a course after each event

abbrev pub is_on : Turn → Bool
is_on t.On = true
is_on t.Over = false
is_on t.Paused = false
is_on (t.Stopped f) = false

abbrev pub stands_paused : Turn → Bool
stands_paused t.On = false
stands_paused t.Over = false
stands_paused t.Paused = true
stands_paused (t.Stopped f) = false

abbrev pub goes_on : Going → (entered : ℕ) → Course
goes_on g e = record { going = g; entered = e; turn = t.On }

abbrev pub is_over : Going → (entered : ℕ) → Course
is_over g e = record { going = g; entered = e; turn = t.Over }

abbrev pub is_stopped : Going → (entered : ℕ) → Fault → Course
is_stopped g e f = record { going = g; entered = e; turn = t.Stopped f }

abbrev pub is_paused : Going → (entered : ℕ) → Course
is_paused g e = record { going = g; entered = e; turn = t.Paused }

-- the machine in the frame f, with n callers
abbrev pub in_frame : Going → ℕ → Frame → Going
in_frame g n f = record {
  sp = g.sp;
  function = f.function;
  position = f.position;
  base = f.base;
  callers = n;
  used = g.used;
  spent = g.spent;
  kind = g.kind;
  payload = g.payload;
  mark = g.mark;
  returns = g.returns;
}

-- the run goes on in it
abbrev pub goes_in : Going → ℕ → Frame → Course
goes_in g n f = goes_on (in_frame g n f) f.entered
