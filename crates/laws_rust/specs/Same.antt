-- [same] What it is that the rules and the Rust do the same: the Rust's state is what the rules' state means.
use Rattle.std.specs.Prelude.{◌≡◌, Bool, true, false, ◌&&◌, ◌||◌, List, [], ◌∷◌, map, ℕ, leb, eqb, Float, None, Option, Some}
use Rattle.std.proofs.Math.Option.{Option as Maybe, none, some}
use Rattle.model.specs.declared.Fault.{Fault}
use Rattle.model.specs.declared.Fault.TheVariants as f
use Rattle.model.specs.declared.Frame.{Frame}
use Rattle.model.specs.declared.Value.{Value}
use Rattle.model.specs.Values.{fault_number}
use Rattle.model.specs.Scalars.{finite}
use Rattle.model.specs.Heap.{Cell}
use Rattle.model.specs.Trees.{Tree, meaning, scalar}
use Rattle.model.specs.Programs.{Function}
use Rattle.model.specs.Steps.{World, State, Outcome, went, returned, faulted, short}
use Rattle.model.specs.Runs.{Machine, Ended, ended, stopped, paused, Reply, value, continue, fault, Ran}
use Rattle.laws_rust.specs.Vm as rust
use Rattle.laws_rust.specs.Vm.{Vm, Chunk, CallFrame, Did, Result}

-- ---- the rules' state as the Rust's

abbrev pub chunk_of : Function → Chunk
chunk_of f = record { name = f.name; code = f.code }

abbrev pub frame_of : Frame → CallFrame
frame_of f = record { function_idx_lem = f.function; ip = f.position; fp = f.base }

abbrev pub last_in : List ℕ → List Cell → Option Value → Maybe Tree
last_in t H None = none
last_in t H (Some v) = some (meaning t H v)

-- a machine between runs, and so the state of a run: units, when frames were entered, cells, and the setting are not the Rust's
unfoldable pub rust_of : World → Machine → Vm
rust_of w m = record {
  bytecode = map chunk_of w.functions;
  constants = map (meaning w.text []) w.constants;
  struct_infos = w.structs;
  last_result_lem = last_in w.text m.heap m.last;
  frames = map frame_of (m.frame ∷ m.callers);
  stack = map (meaning w.text m.heap) m.stack;
}

abbrev pub rust_at : World → State → Vm
rust_at w s = rust_of w (record { stack = s.stack; frame = s.frame; callers = s.callers; heap = s.heap; last = s.last })

-- ---- one step

-- the Rust panics: in the arm, or in the loop's test behind it, as where a Call names no function
unfoldable pub Panics : Did → Type 0
Panics (rust.went vm) = rust.is_at_the_end vm ≡ none
Panics (rust.returned v vm) = ⊥
Panics (rust.division_by_zero vm) = ⊥
Panics rust.panic = Unit {0}
Panics rust.cast = ⊥
Panics rust.not_carried = ⊥

-- the Rust returns its error from vm; the operands are popped
unfoldable pub DividesByZero : Vm → Did → Type 0
DividesByZero vm d = (vs : List Tree) × (d ≡ rust.division_by_zero (rust.with_stack_lem vs vm))

-- the Rust goes on from vm: the operands are popped, and a number that is not finite is pushed
pub record GoesOn (vm : Vm) (d : Did) : Type 0 where
  pub number : Float
  pub rest : List Tree
  pub escaped : finite number ≡ false
  pub is : d ≡ rust.went (rust.with_stack_lem (scalar number ∷ rest) vm)

-- THE TABLE: what the Rust does where the rules fault, from a state that is the Rust's vm. Of a limit it knows nothing; and it has no strict machine: where
-- one faults by 26, it goes on.
unfoldable pub FaultsAs : Vm → Fault → Did → Type 0
FaultsAs vm f.UnknownOpcode d = d ≡ rust.cast
FaultsAs vm f.NotCarried d = d ≡ rust.not_carried
FaultsAs vm f.CodeEnds d = Panics d
FaultsAs vm f.TooFewValues d = Panics d
FaultsAs vm (f.WrongKind v) d = Panics d
FaultsAs vm f.OutOfRange d = Panics d
FaultsAs vm f.NoLastResult d = Panics d
FaultsAs vm f.ZeroDivisor d = DividesByZero vm d
FaultsAs vm f.NotFinite d = GoesOn vm d
FaultsAs vm f.StackFull d = Unit {0}
FaultsAs vm f.FramesFull d = Unit {0}
FaultsAs vm f.CellsFull d = Unit {0}
FaultsAs vm f.TooDeep d = Unit {0}
FaultsAs vm f.NoFunction d = Panics d

-- a step of the rules, and a turn of the Rust's loop, from the same state; the Rust knows no units
unfoldable pub Agrees : World → Outcome → Did → Type 0
Agrees w (went s) d = d ≡ rust.went (rust_at w s)
Agrees w (returned v s) d = d ≡ rust.returned (meaning w.text s.heap v) (rust_at w s)
Agrees w (faulted n s) d = FaultsAs (rust_at w s) n d
Agrees w short d = Unit {0}

-- ---- a run

-- what `run` answers where the rules' run ends so; `left` is the machine that it leaves. Where it ends in 26, the machine is strict, and the Rust goes on
unfoldable pub RunAs : World → (left : Machine) → Ended → Result → Type 0
RunAs w left (ended k s) r = r ≡ rust.ok (last_in w.text s.heap k.answer) (rust_of w left)
RunAs w left (stopped f.UnknownOpcode s k) r = r ≡ rust.casts
RunAs w left (stopped f.NotCarried s k) r = r ≡ rust.leaves
RunAs w left (stopped f.CodeEnds s k) r = r ≡ rust.panics
RunAs w left (stopped f.TooFewValues s k) r = r ≡ rust.panics
RunAs w left (stopped (f.WrongKind v) s k) r = r ≡ rust.panics
RunAs w left (stopped f.OutOfRange s k) r = r ≡ rust.panics
RunAs w left (stopped f.NoLastResult s k) r = r ≡ rust.panics
RunAs w left (stopped f.ZeroDivisor s k) r = r ≡ rust.err (rust_of w left)
RunAs w left (stopped f.NotFinite s k) r = w.strict ≡ true
RunAs w left (stopped f.StackFull s k) r = Unit {0}
RunAs w left (stopped f.FramesFull s k) r = Unit {0}
RunAs w left (stopped f.CellsFull s k) r = Unit {0}
RunAs w left (stopped f.TooDeep s k) r = Unit {0}
RunAs w left (stopped f.NoFunction s k) r = r ≡ rust.panics
RunAs w left (paused k s) r = Unit {0}

-- ---- the other way: what the rules answer, by what `run` comes to

-- the loop comes to an end within the turns that it is looked at for
abbrev pub Ends : Result → Type 0
Ends (rust.ok r vm) = Unit
Ends (rust.err vm) = Unit
Ends rust.panics = Unit
Ends rust.casts = Unit
Ends rust.leaves = Unit
Ends rust.goes_on_lem = ⊥

-- faults that are not the Rust's: those for a limit, and, on a strict machine, 26. On a machine that is not strict 26 never comes, and nothing is left out for it
abbrev pub not_the_rusts : (strict : Bool) → ℕ → Bool
not_the_rusts strict n = (leb 9 n && leb n 12) || (strict && eqb n 26)

-- no limit is met: the rules' run does not stop by 9 to 12, nor, on a strict machine, by 26, and its units reach
unfoldable pub Unlimited : World → Ended → Type 0
Unlimited w (ended k s) = Unit {0}
Unlimited w (stopped n s k) = not_the_rusts w.strict (fault_number n) ≡ false
Unlimited w (paused k s) = ⊥

-- the answer is that value, or "continue" if there is none
unfoldable pub Means : World → Machine → Reply → Maybe Tree → Type 0
Means w left (value x t) r = r ≡ some (meaning w.text left.heap x)
Means w left (continue t) r = r ≡ none
Means w left (fault n t es) r = ⊥

-- the answer is a fault of such a number
unfoldable pub IsFault : (ℕ → Bool) → Reply → Type 0
IsFault such (value x t) = ⊥
IsFault such (continue t) = ⊥
IsFault such (fault n t es) = such n ≡ true

-- the faults of the rules where the Rust panics
abbrev pub is_panic : ℕ → Bool
is_panic n = (leb 3 n && leb n 7) || eqb n 14

unfoldable pub AnswersAs : World → Ran → Result → Type 0
AnswersAs w ran (rust.ok r vm) = Means w ran.machine ran.reply r × (vm ≡ rust_of w ran.machine)
AnswersAs w ran (rust.err vm) = IsFault (λ n. eqb n 8) ran.reply × (vm ≡ rust_of w ran.machine)
AnswersAs w ran rust.panics = IsFault is_panic ran.reply
AnswersAs w ran rust.casts = IsFault (λ n. eqb n 1) ran.reply
AnswersAs w ran rust.leaves = IsFault (λ n. eqb n 2) ran.reply
AnswersAs w ran rust.goes_on_lem = Unit {0}
