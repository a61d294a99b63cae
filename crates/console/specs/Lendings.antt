-- A call over frames that is lent a part of the copy store and of the backtrace store.
use Rattle.std.specs.Prelude.{◌≡◌, List, ◌++◌, ℕ, ◌*◌, ◌/◌, min, length, take, drop}
use Rattle.model.specs.declared.Vm.{Vm}
use Rattle.console_frames.specs.declared.Call.{Call}
use Rattle.console_frames.specs.declared.Answer.{Answer}
use Rattle.console_frames.specs.Calls.{Held, Bridged}
use Rattle.console.specs.declared.commands.Lent.{Lent}
use Rattle.console.specs.Said.{after_answer}

-- the words of so many places of a store, at most all; each place is so many words
unfoldable pub words_lent : (each room : ℕ) (store : List ℕ) → ℕ
words_lent each room store = each * min room (length store / each)

-- the stores, those two cut to what is lent of them
unfoldable pub lent_to : (lent : Lent) (s : Held) → Held
lent_to lent s = record {
  program = s.program;
  stack = s.stack;
  cells = s.cells;
  copy = take (words_lent 2 lent.copy s.copy) s.copy;
  trace = take (words_lent 3 lent.trace s.trace) s.trace;
  frames = s.frames;
}

-- behind what was lent the two are as they were
unfoldable pub back_from : (lent : Lent) (s left : Held) → Held
back_from lent s left = record {
  program = left.program;
  stack = left.stack;
  cells = left.cells;
  copy = left.copy ++ drop (words_lent 2 lent.copy s.copy) s.copy;
  trace = left.trace ++ drop (words_lent 3 lent.trace s.trace) s.trace;
  frames = left.frames;
}

-- the machine is then the one that the answer tells
pub record OverFrames (m : Vm) (call : Call) (image : List ℕ) (lent : Lent) (s : Held) (r : Vm) (s' : Held) : Type 0 where
  pub answer : Answer
  pub left : Held
  pub bridged : Bridged m call image (lent_to lent s) answer left
  pub stores : s' ≡ back_from lent s left
  pub machine : r ≡ after_answer m answer
