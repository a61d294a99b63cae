-- States that agree: what no answer can tell apart.
use Rattle.std.specs.Prelude.{◌≡◌, List, ℕ, ◌*◌, length, take}
use Rattle.model.specs.declared.Vm.{Vm}
use Rattle.model.specs.Machines.{Lent}
use Rattle.demands.specs.Host.{Held, Answer}

-- stores with the same first n entries, however long
pub record Front {A : Type 0} (n : ℕ) (a b : List A) : Type 0 where
  pub front : take n a ≡ take n b

-- stores of the same length, with the same first n entries
pub record Alike {A : Type 0} (n : ℕ) (a b : List A) : Type 0 where
  pub front : take n a ≡ take n b
  pub room : length a ≡ length b

-- stores of the same lengths
pub record Rooms (l l' : Lent) : Type 0 where
  pub stack : length l.stack ≡ length l'.stack
  pub cells : length l.cells ≡ length l'.cells
  pub frames : length l.frames ≡ length l'.frames
  pub copy : length l.copy ≡ length l'.copy
  pub backtrace : length l.backtrace ≡ length l'.backtrace

-- the same below the counts of stack, cells and frames, and the copy as far as a run under way has saved its stack there. Of the rest of the copy, and of
-- the backtrace store, only the lengths count: nothing reads them.
pub record LentAlike (m : Vm) (l l' : Lent) : Type 0 where
  pub stack : Alike (2 * m.stack) l.stack l'.stack
  pub cells : Alike (2 * m.cells) l.cells l'.cells
  pub frames : Alike m.frames l.frames l'.frames
  pub copy : Alike (2 * m.run.saved) l.copy l'.copy
  pub backtrace : length l.backtrace ≡ length l'.backtrace

-- the same counts and last result, the same record of a run, the same setting, the same program stores, and the lent stores the same below the counts
pub record Agree (h h' : Held) : Type 0 where
  pub vm : h.vm ≡ h'.vm
  pub stores : h.stores ≡ h'.stores
  pub lent : LentAlike h.vm h.lent h'.lent

-- of two chains of calls: the same answers, and what the host then holds agrees
pub record SameChain (xs ys : List Answer) (h k : Held) : Type 0 where
  pub answers : xs ≡ ys
  pub agree : Agree h k
