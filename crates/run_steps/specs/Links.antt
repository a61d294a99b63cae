-- What the code leans on while a run is under way, and what the steps inside one function ensure.
use Rattle.std.specs.Prelude.{◌≡◌, true, false, List, [], ◌∷◌, ℕ, suc, ◌*◌, ◌≤◌, ◌<◌, eqb, length, if◌then◌else◌, None, Option}
use Rattle.model.specs.declared.Frame.{Frame}
use Rattle.model.specs.Values.{places, kind, payload, values_from}
use Rattle.model.specs.Heap.{heap_of}
use Rattle.model.specs.Programs.{function_at}
use Rattle.model.specs.Steps.{World, State, with_frames}
use Rattle.model.specs.Runs.{Progress, Ended, ended, stopped, paused, over, end_from, traceable}
use Rattle.model.specs.Stores.{Stores}
use Rattle.layout.specs.Links.{names_lent}
use Rattle.laws_runs.specs.Sane.{Sane, SaneWorld}
use Rattle.run_arms.specs.declared.Fixed.{Fixed}
use Rattle.run_arms.specs.declared.Going.{Going}
use Rattle.run_arms.specs.declared.Completed.{Completed}
use Rattle.value.specs.Links.{Fine, last_in}
use Rattle.run_arms.specs.Links.{Around, Within, Suits, Named, CellsWithin, state_of, frame_in, entered}
use Rattle.run_steps.specs.declared.Event.{Event}
use Rattle.run_steps.specs.declared.Event.TheVariants.{Over, Call, Back, Stopped, Paused}
use Rattle.model.specs.declared.Value.{Value}

-- the world is what the lent slices say
pub record Lent (w : World) (k : Fixed) (constants functions text cells : List ℕ) : Type 0 where
  pub suits : Suits k w
  pub values : w.constants ≡ values_from k.constants 0 constants
  pub room : 2 * k.constants ≤ length constants
  -- the stores that are not lent
  pub rest : Stores
  pub named : Named k (names_lent rest functions text) w
  pub cell_room : w.cell_room ≡ places 2 cells
  pub sane : SaneWorld w

-- the answer so far: the last result, once a root Return has set it
unfoldable pub answer_in : Going → Option Value
answer_in g = if eqb g.returns 0 then None else last_in g.kind g.payload

-- how far the run has come
abbrev pub progress_in : Going → List ℕ → Progress
progress_in g x = record { answer = answer_in g; returns = g.returns; heap = heap_of g.mark x; last = last_in g.kind g.payload }

-- a completed root Return has counted: its value is the last result, and a fault goes back to here
abbrev pub counted_in : Completed → Going
counted_in c = record {
  sp = c.going.sp;
  function = c.going.function;
  position = c.going.position;
  base = c.going.base;
  callers = c.going.callers;
  used = c.going.used;
  spent = c.going.spent;
  kind = kind c.value;
  payload = payload c.value;
  mark = c.going.used;
  returns = suc c.going.returns;
}

-- the value fits a store: the types of the code say so
pub record CountedPost (c : Completed) (r : Going) : Type 0 where
  pub is : r ≡ counted_in c
  pub fine : Fine c.value

-- counts within their stores, in exact words; no more units spent than given, and one for each root Return, so that their number fits a word
pub record Fits (k : Fixed) (g : Going) (s x : List ℕ) : Type 0 where
  pub stack : Within k g s
  pub cells : CellsWithin g x
  pub mark : g.mark ≤ g.used
  pub spent : g.spent ≤ k.given
  pub returns : g.returns ≤ g.spent

-- a run under way in the function whose code this is, with these callers
pub record Ready (w : World) (a : Around) (k : Fixed) (g : Going) (code constants functions text s x : List ℕ) : Type 0 where
  pub lent : Lent w k constants functions text x
  pub callers : length a.callers ≡ g.callers
  pub coded : (function_at w.functions g.function).code ≡ code
  pub fits : Fits k g s x
  pub sane : Sane w (state_of k g s x a)

-- ---- what the steps inside one function come to

-- the run goes on in the caller
unfoldable pub back_in : World → List Frame → Progress → State → Ended
back_in w [] m t = ended m t
back_in w (c ∷ cs) m t = end_from w m (with_frames c cs t)

unfoldable pub after_event : World → Fixed → Around → Event → List ℕ → List ℕ → Ended
after_event w k a (Over n) s x = ended (progress_in n x) (state_of k n s x a)
after_event w k a (Call n i b) s x =
    end_from w (progress_in n x) (with_frames (entered i b n.spent) (frame_in n a.entered ∷ a.callers) (state_of k n s x a))
after_event w k a (Back n) s x = back_in w a.callers (progress_in n x) (state_of k n s x a)
after_event w k a (Stopped n f) s x = stopped f (state_of k n s x a) (progress_in n x)
after_event w k a (Paused n) s x = paused (progress_in n x) (state_of k n s x a)

abbrev pub going_at : Event → Going
going_at (Over n) = n
going_at (Call n i b) = n
going_at (Back n) = n
going_at (Stopped n f) = n
going_at (Paused n) = n

-- a sane machine goes on; a fault's backtrace stands; a call or a return has spent a unit more than the e that were; a paused machine stands before an
-- instruction
abbrev pub SaneBack : World → List Frame → State → Type 0
SaneBack w [] t = ⊥
SaneBack w (c ∷ cs) t = Sane w (with_frames c cs t)

abbrev pub SaneAt : World → Fixed → Around → ℕ → Event → List ℕ → List ℕ → Type 0
SaneAt w k a e (Over n) s x = Sane w (state_of k n s x a)
SaneAt w k a e (Call n i b) s x =
    (e < n.spent) × Sane w (with_frames (entered i b n.spent) (frame_in n a.entered ∷ a.callers) (state_of k n s x a))
SaneAt w k a e (Back n) s x = (e < n.spent) × SaneBack w a.callers (state_of k n s x a)
SaneAt w k a e (Stopped n f) s x = traceable w.functions (frame_in n a.entered ∷ a.callers) ≡ true
SaneAt w k a e (Paused n) s x = Sane w (state_of k n s x a) × (over w (state_of k n s x a) ≡ false)

pub record ExecPost (w : World) (a : Around) (k : Fixed) (g : Going) (s x : List ℕ) (r : Event) (s' x' : List ℕ) : Type 0 where
  pub means : end_from w (progress_in g x) (state_of k g s x a) ≡ after_event w k a r s' x'
  pub fits : Fits k (going_at r) s' x'
  pub sane : SaneAt w k a g.spent r s' x'
  pub callers : (going_at r).callers ≡ g.callers
  pub spent : g.spent ≤ (going_at r).spent
  pub mark : g.mark ≤ (going_at r).mark
  pub before : (n : ℕ) → n ≤ g.mark → heap_of n x' ≡ heap_of n x
