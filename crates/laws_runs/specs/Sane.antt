-- What good order says of a running machine, over the rules' own records.
use Rattle.std.specs.Prelude.{◌≡◌, true, List, [], ◌∷◌, ℕ, suc, ◌≤◌, ◌<◌, length, get_or, None, Option, Some}
use Rattle.model.specs.declared.Value.{Value}
use Rattle.model.specs.declared.Frame.{Frame}
use Rattle.model.specs.Heap.{Cell, heap_ok, placed_below}
use Rattle.model.specs.Programs.{Function, function_at}
use Rattle.model.specs.Steps.{World, State, Outcome, went, returned, faulted, short}
use Rattle.model.specs.Runs.{Progress, traceable}

-- every value is placed in the heap, over t bytes of text
unfoldable pub AllPlaced : ℕ → List Cell → List Value → Type 0
AllPlaced t H [] = Unit
AllPlaced t H (v ∷ vs) = (placed_below t H (length H) v ≡ true) × AllPlaced t H vs

unfoldable pub LastPlaced : ℕ → List Cell → Option Value → Type 0
LastPlaced t H None = Unit
LastPlaced t H (Some v) = placed_below t H (length H) v ≡ true

unfoldable pub CodesFit : List Function → Type 0
CodesFit [] = Unit
CodesFit (f ∷ fs) = (length f.code ≤ 65535) × CodesFit fs

-- a world in good order: constants that name no cells, codes within the limit, bytes in them
pub record SaneWorld (w : World) : Type 0 where
  pub constants : AllPlaced (length w.text) [] w.constants
  pub codes : CodesFit w.functions
  pub bytes : (i j : ℕ) → get_or (function_at w.functions i).code j 0 < 256

pub record FrameFits (w : World) (f : Frame) : Type 0 where
  pub known : f.function < length w.functions
  pub base : f.base ≤ w.stack_room
  pub position : f.position ≤ 131070

-- a caller stands behind an instruction
pub record CallerFits (w : World) (f : Frame) : Type 0 where
  pub frame : FrameFits w f
  pub from : 1 ≤ f.position
  pub to : f.position ≤ length (function_at w.functions f.function).code

unfoldable pub CallersFit : World → List Frame → Type 0
CallersFit w [] = Unit
CallersFit w (f ∷ fs) = CallerFits w f × CallersFit w fs

-- the outermost frame is function 0 with base 0
unfoldable pub Rooted : Frame → List Frame → Type 0
Rooted f [] = (f.function ≡ 0) × (f.base ≡ 0)
Rooted f (c ∷ cs) = Rooted c cs

-- [entered] frames, the innermost first: it was entered when at most so many units were spent, and no caller was entered later than what it called
unfoldable pub Rising : (most : ℕ) → List Frame → Type 0
Rising most [] = Unit
Rising most (f ∷ fs) = (f.entered ≤ most) × Rising f.entered fs

pub record Sane (w : World) (s : State) : Type 0 where
  pub stack : length s.stack ≤ w.stack_room
  pub frames : suc (length s.callers) ≤ w.frame_room
  pub cells : length s.heap ≤ w.cell_room
  pub heap : heap_ok (length w.text) s.heap ≡ true
  pub placed : AllPlaced (length w.text) s.heap s.stack
  pub last : LastPlaced (length w.text) s.heap s.last
  pub frame : FrameFits w s.frame
  pub callers : CallersFit w s.callers
  pub root : Rooted s.frame s.callers
  pub rising : Rising s.spent (s.frame ∷ s.callers)

-- what a fault goes back to
pub record SaneMark (w : World) (m : Progress) : Type 0 where
  pub cells : length m.heap ≤ w.cell_room
  pub heap : heap_ok (length w.text) m.heap ≡ true
  pub last : LastPlaced (length w.text) m.heap m.last

-- ---- what a step from s keeps

-- the frames of s, but for the current position
pub record SameFrames (s s' : State) : Type 0 where
  pub function : s'.frame.function ≡ s.frame.function
  pub base : s'.frame.base ≡ s.frame.base
  pub callers : s'.callers ≡ s.callers

pub record Returns (w : World) (s : State) (x : Value) (s' : State) : Type 0 where
  pub sane : Sane w s'
  pub last : s'.last ≡ Some x
  pub frames : SameFrames s s'

-- a fault has dropped and added no frame, and its backtrace stands
pub record Faults (w : World) (s s' : State) : Type 0 where
  pub frames : SameFrames s s'
  pub traced : traceable w.functions (s'.frame ∷ s'.callers) ≡ true

abbrev pub Kept : World → State → Outcome → Type 0
Kept w s (went s') = Sane w s'
Kept w s (returned x s') = Returns w s x s'
Kept w s (faulted n s') = Faults w s s'
Kept w s short = Unit
