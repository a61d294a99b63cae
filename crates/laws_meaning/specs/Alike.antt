-- Machines that mean the same: their texts and cells may stand at other places, and other cells may be taken, as long as as many are free.
use Rattle.std.specs.Prelude.{◌≡◌, true, List, [], ◌∷◌, ℕ, ◌+◌, length, None, Option, Some}
use Rattle.model.specs.declared.Value.{Value}
use Rattle.model.specs.declared.Fault.{Fault}
use Rattle.model.specs.Values.{fault_number}
use Rattle.model.specs.Heap.{Cell, placed_below}
use Rattle.model.specs.Trees.{meaning}
use Rattle.model.specs.Steps.{World, State, Outcome, went, returned, faulted, short}
use Rattle.model.specs.Runs.{Machine, machine_of, Progress, Under}

-- ---- values, each over its text and in its heap

abbrev pub AlikeValue : List ℕ → List ℕ → List Cell → List Cell → Value → Value → Type 0
AlikeValue t t' H H' x x' = meaning t H x ≡ meaning t' H' x'

pub data AlikeValues (t t' : List ℕ) (H H' : List Cell) : List Value → List Value → Type 0 where
  none : AlikeValues t t' H H' [] []
  more : {x x' : Value} {xs xs' : List Value} → AlikeValue t t' H H' x x' → AlikeValues t t' H H' xs xs' → AlikeValues t t' H H' (x ∷ xs) (x' ∷ xs')

pub data AlikeLast (t t' : List ℕ) (H H' : List Cell) : Option Value → Option Value → Type 0 where
  nothing : AlikeLast t t' H H' None None
  is : {x x' : Value} → AlikeValue t t' H H' x x' → AlikeLast t t' H H' (Some x) (Some x')

-- and each is placed in its heap
pub record Both (t t' : List ℕ) (H H' : List Cell) (x x' : Value) : Type 0 where
  pub alike : AlikeValue t t' H H' x x'
  pub left : placed_below (length t) H (length H) x ≡ true
  pub right : placed_below (length t') H' (length H') x' ≡ true

-- ---- worlds

-- what may differ: where texts lie, and so the words of constants; and the room of cells. The program, the other rooms and the setting may not
pub record Layout : Type 0 where
  pub text : List ℕ
  pub constants : List Value
  pub cell_room : ℕ

-- the world w, laid out so
abbrev pub laid_out : Layout → World → World
laid_out o w = record {
  constants = o.constants;
  text = o.text;
  structs = w.structs;
  functions = w.functions;
  stack_room = w.stack_room;
  frame_room = w.frame_room;
  cell_room = o.cell_room;
  strict = w.strict;
}

-- its constants mean those of w; a constant names no cells
abbrev pub AlikeConstants : World → Layout → Type 0
AlikeConstants w o = AlikeValues w.text o.text [] [] w.constants o.constants

-- ---- machines

-- as many cells are free: room less taken
abbrev pub SameFree : ℕ → ℕ → List Cell → List Cell → Type 0
SameFree n n' H H' = n + length H' ≡ n' + length H

-- m in w, and m' in w laid out as o; their frames are the same, with the units at which they were entered
pub record AlikeMachine (w : World) (o : Layout) (m m' : Machine) : Type 0 where
  pub stack : AlikeValues w.text o.text m.heap m'.heap m.stack m'.stack
  pub last : AlikeLast w.text o.text m.heap m'.heap m.last m'.last
  pub frame : m'.frame ≡ m.frame
  pub callers : m'.callers ≡ m.callers
  pub free : SameFree w.cell_room o.cell_room m.heap m'.heap

pub record AlikeState (w : World) (o : Layout) (s s' : State) : Type 0 where
  pub machine : AlikeMachine w o (machine_of s) (machine_of s')
  pub spent : s'.spent ≡ s.spent
  pub units : s'.units ≡ s.units

-- ---- outcomes of a step

pub data AlikeOutcome (w : World) (o : Layout) : Outcome → Outcome → Type 0 where
  goes : {s s' : State} → AlikeState w o s s' → AlikeOutcome w o (went s) (went s')
  returns : {x x' : Value} {s s' : State} → AlikeValue w.text o.text s.heap s'.heap x x' → AlikeState w o s s' → AlikeOutcome w o (returned x s) (returned x' s')
  faults : {i i' : Fault} {s s' : State} → fault_number i ≡ fault_number i' → AlikeState w o s s' → AlikeOutcome w o (faulted i s) (faulted i' s')
  runs_short : AlikeOutcome w o short short

-- ---- runs under way

-- how far they have come: what a fault would go back to, and how many root Returns they have completed
pub record AlikeMark (w : World) (o : Layout) (k k' : Progress) : Type 0 where
  pub last : AlikeLast w.text o.text k.heap k'.heap k.last k'.last
  pub free : SameFree w.cell_room o.cell_room k.heap k'.heap
  pub returns : k.returns ≡ k'.returns

-- the answers so far: none on either side, or the last results
pub data Answers (s s' : State) (l l' : Option Value) : Type 0 where
  not_yet : l ≡ None → l' ≡ None → Answers s s' l l'
  latest : l ≡ s.last → l' ≡ s'.last → Answers s s' l l'

pub record AlikeUnder (w : World) (o : Layout) (r r' : Under) : Type 0 where
  pub given : r'.given ≡ r.given
  pub state : AlikeState w o r.state r'.state
  pub start : AlikeValues w.text o.text r.progress.heap r'.progress.heap r.start r'.start
  pub marks : AlikeMark w o r.progress r'.progress
  pub answers : Answers r.state r'.state r.progress.answer r'.progress.answer
