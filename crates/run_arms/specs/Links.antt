-- What the words of a run stand for, and what an arm ensures.
use Rattle.std.specs.Prelude.{◌≡◌, Bool, true, false, not, ◌&&◌, ◌||◌, List, [], ◌∷◌, map, ℕ, ◌-◌, ◌*◌, ◌≤◌, ◌<◌, length}
use Rattle.model.specs.declared.Value.{Value}
use Rattle.model.specs.declared.Value.TheVariants as v
use Rattle.model.specs.declared.Fault.TheVariants as f
use Rattle.model.specs.declared.Frame.{Frame}
use Rattle.model.specs.Basics.{every_from}
use Rattle.model.specs.Values.{vals, places, value_at, kind_at, payload_at, exact_value}
use Rattle.model.specs.Heap.{heap_of, heap_ok, placed_below, exact_cells}
use Rattle.model.specs.Stores.{Stores}
use Rattle.model.specs.Emission.{names_from}
use Rattle.model.specs.Steps.{World, State, Outcome, went, returned, faulted, short, with_frames, with_last}
use Rattle.value.specs.Links.{last_in}
use Rattle.run_arms.specs.declared.Fixed.{Fixed}
use Rattle.run_arms.specs.declared.Going.{Going}
use Rattle.run_arms.specs.declared.Answer.{Answer}
use Rattle.run_arms.specs.declared.Answer.TheVariants.{Went, Returned, Call, Back, Stopped, Short}

-- ---- what the words stand for: s is the stack's store, x the cells'

-- what an arm does not see of the frames: when the current one was entered, and its callers
pub record Around : Type 0 where
  pub entered : ℕ
  pub callers : List Frame

abbrev pub around : (entered : ℕ) → List Frame → Around
around e cs = record { entered = e; callers = cs }

abbrev pub frame_in : Going → (entered : ℕ) → Frame
frame_in g e = record { function = g.function; position = g.position; base = g.base; entered = e }

-- the units that are left are those given less those spent
abbrev pub state_of : Fixed → Going → List ℕ → List ℕ → Around → State
state_of k g s x a = record {
  stack = vals g.sp s;
  frame = frame_in g a.entered;
  callers = a.callers;
  heap = heap_of g.used x;
  last = last_in g.kind g.payload;
  spent = g.spent;
  units = k.given - g.spent;
}

-- the frame that a call enters, whose own unit is among those spent
abbrev pub entered : (function base spent : ℕ) → Frame
entered i b e = record { function = i; position = 0; base = b; entered = e }

-- back in the caller; there is one (`HasCaller`)
abbrev pub back_to : List Frame → State → Outcome
back_to [] t = faulted f.FramesFull t
back_to (c ∷ cs) t = went (with_frames c cs t)

-- what an answer and the stores then stand for
abbrev pub outcome_of : Fixed → Around → Answer → List ℕ → List ℕ → Outcome
outcome_of k a (Went g) s x = went (state_of k g s x a)
outcome_of k a (Returned c) s x = returned c.value (with_last c.value (state_of k c.going s x a))
outcome_of k a (Call g i b) s x = went (with_frames (entered i b g.spent) (frame_in g a.entered ∷ a.callers) (state_of k g s x a))
outcome_of k a (Back g) s x = back_to a.callers (state_of k g s x a)
outcome_of k a (Stopped g n) s x = faulted n (state_of k g s x a)
outcome_of k a (Short g) s x = short

-- ---- what the code leans on

-- n values stand in their exact words
unfoldable pub exact_stack : ℕ → List ℕ → Bool
exact_stack n s = every_from n 0 (λ i. exact_value (kind_at s i) (payload_at s i))

-- the stack is within its room, the room within the store, its words are exact, and the frames have room for the current one
pub record Within (k : Fixed) (g : Going) (s : List ℕ) : Type 0 where
  pub count : g.sp ≤ k.slots
  pub room : 2 * k.slots ≤ length s
  pub exact : exact_stack g.sp s ≡ true
  pub callers : g.callers < k.frames

-- the world has these counts and rooms
pub record Suits (k : Fixed) (w : World) : Type 0 where
  pub structs : w.structs ≡ k.structs
  pub functions : length w.functions ≡ k.functions
  pub stack_room : w.stack_room ≡ k.slots
  pub frame_room : w.frame_room ≡ k.frames
  pub strict : w.strict ≡ k.strict

-- the world's text and its functions' names are those that stand in the stores
pub record Named (k : Fixed) (s : Stores) (w : World) : Type 0 where
  pub text : w.text ≡ s.text
  pub names : map (λ f. f.name) w.functions ≡ names_from k.functions 0 s

-- the machine that an answer holds
abbrev pub going_in : Answer → Going
going_in (Went g) = g
going_in (Returned c) = c.going
going_in (Call g i b) = g
going_in (Back g) = g
going_in (Stopped g n) = g
going_in (Short g) = g

-- an arm changes neither the callers' count, nor what a fault goes back to; a root Return is the run's to count
pub record Kept (g : Going) (n : Going) : Type 0 where
  pub callers : n.callers ≡ g.callers
  pub mark : n.mark ≡ g.mark
  pub returns : n.returns ≡ g.returns

-- a Return to a caller has one
abbrev pub HasCaller : Answer → Type 0
HasCaller (Went g) = Unit
HasCaller (Returned c) = Unit
HasCaller (Call g i b) = Unit
HasCaller (Back g) = 0 < g.callers
HasCaller (Stopped g n) = Unit
HasCaller (Short g) = Unit

-- only a comparison, and a step with no unit left, can be short
abbrev pub Paid : Answer → Type 0
Paid (Went g) = Unit
Paid (Returned c) = Unit
Paid (Call g i b) = Unit
Paid (Back g) = Unit
Paid (Stopped g n) = Unit
Paid (Short g) = ⊥

-- a step that is short has written nothing: s and x are the stores before it, s' and x' behind it
abbrev pub Unwritten : Answer → (s x s' x' : List ℕ) → Type 0
Unwritten (Went g) s x s' x' = Unit
Unwritten (Returned c) s x s' x' = Unit
Unwritten (Call g i b) s x s' x' = Unit
Unwritten (Back g) s x s' x' = Unit
Unwritten (Stopped g n) s x s' x' = Unit
Unwritten (Short g) s x s' x' = (s' ≡ s) × (x' ≡ x)

-- what an arm ensures that is lent the stack alone: whatever the cells are, they stay
pub record ArmPost (rule : State → Outcome) (k : Fixed) (g : Going) (s : List ℕ) (r : Answer) (s' : List ℕ) : Type 0 where
  pub means : (x : List ℕ) (a : Around) → length a.callers ≡ g.callers → outcome_of k a r s' x ≡ rule (state_of k g s x a)
  pub within : Within k (going_in r) s'
  pub kept : Kept g (going_in r)
  pub used : (going_in r).used ≡ g.used
  pub caller : HasCaller r
  pub paid : Paid r

-- the taken cells are within the store, and in exact words
pub record CellsWithin (g : Going) (x : List ℕ) : Type 0 where
  pub count : g.used ≤ places 2 x
  pub exact : exact_cells g.used 0 x ≡ true

-- the heap is in good order over t bytes of text, the stack's values are placed in it, and no more units are spent than were given
pub record Blocks (t : ℕ) (k : Fixed) (g : Going) (s x : List ℕ) : Type 0 where
  pub stack : Within k g s
  pub cells : CellsWithin g x
  pub good : heap_ok t (heap_of g.used x) ≡ true
  pub placed : (i : ℕ) → i < g.sp → placed_below t (heap_of g.used x) g.used (value_at s i) ≡ true
  pub spent : g.spent ≤ k.given

-- what an arm ensures that is lent the cells too: the cells that were taken stay
pub record BlockPost (rule : State → Outcome) (k : Fixed) (g : Going) (s x : List ℕ) (r : Answer) (s' x' : List ℕ) : Type 0 where
  pub means : (a : Around) → length a.callers ≡ g.callers → outcome_of k a r s' x' ≡ rule (state_of k g s x a)
  pub within : Within k (going_in r) s'
  pub kept : Kept g (going_in r)
  pub cells : CellsWithin (going_in r) x'
  pub before : (n : ℕ) → n ≤ g.used → heap_of n x' ≡ heap_of n x
  pub caller : HasCaller r
  pub unwritten : Unwritten r s x s' x'

-- the value of Equal, or of NotEqual, from the verdict
unfoldable pub verdict_by : Bool → Bool → Bool
verdict_by true b = not b
verdict_by false b = b

-- the list or struct that names the cell p
unfoldable pub built_by : Bool → ℕ → Value
built_by true p = v.List p
built_by false p = v.StructInstance p

-- LogicalAnd or LogicalOr
unfoldable pub connective : Bool → Bool → Bool → Bool
connective true x y = x && y
connective false x y = x || y
