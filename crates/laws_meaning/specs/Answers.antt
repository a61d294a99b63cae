-- What a run answers, by meaning, beside the run of a machine that means the same.
use Rattle.std.specs.Prelude.{◌≡◌, List, ◌++◌, ℕ}
use Rattle.model.specs.declared.Tally.{Tally}
use Rattle.model.specs.Heap.{Cell}
use Rattle.model.specs.Trees.{Tree, meaning}
use Rattle.model.specs.Steps.{World}
use Rattle.model.specs.Runs.{Entry, Reply, Ran, Under, Part}
use Rattle.model.specs.Runs as r
use Rattle.laws_meaning.specs.Alike.{Layout, laid_out, AlikeMachine, AlikeUnder}

-- a reply that has the value's tree in place of the value
pub data Meant : Type 0 where
  value : Tree → Tally → Meant
  continue : Tally → Meant
  fault : ℕ → Tally → List Entry → Meant

unfoldable pub meant_in : List ℕ → List Cell → Reply → Meant
meant_in t H (r.value x n) = value (meaning t H x) n
meant_in t H (r.continue n) = continue n
meant_in t H (r.fault i n es) = fault i n es

-- the value is in the cells that the run leaves
unfoldable pub meant : World → Ran → Meant
meant w x = meant_in w.text x.machine.heap x.reply

-- two runs: the same answer by meaning, and they leave machines that mean the same
pub record AlikeRan (w : World) (o : Layout) (x x' : Ran) : Type 0 where
  pub answer : meant w x ≡ meant (laid_out o w) x'
  pub machine : AlikeMachine w o x.machine x'.machine

-- two parts of runs: both are over, or both are paused
pub data AlikePart (w : World) (o : Layout) : Part → Part → Type 0 where
  ends : {x x' : Ran} → AlikeRan w o x x' → AlikePart w o (r.ends x) (r.ends x')
  pauses : {x x' : Under} → AlikeUnder w o x x' → AlikePart w o (r.pauses x) (r.pauses x')

-- the text u has t at its front
pub record Begins (t u : List ℕ) : Type 0 where
  pub more : List ℕ
  pub is : u ≡ t ++ more
