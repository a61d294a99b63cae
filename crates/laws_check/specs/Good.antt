-- THE INVARIANT of a passed program's run: each frame stands where a path of its function comes, with exactly the values that the path has.
-- "each reached position has one known height above its frame's base, starting at that count (0 in main)"
use Rattle.std.specs.Prelude.{◌≡◌, List, [], ◌∷◌, ℕ, suc, ◌+◌, ◌<◌, length}
use Rattle.model.specs.declared.Decoded.{Decoded}
use Rattle.model.specs.declared.Fault.{Fault}
use Rattle.model.specs.declared.Fault.TheVariants as f
use Rattle.model.specs.declared.Frame.{Frame}
use Rattle.model.specs.Programs.{Program}
use Rattle.model.specs.Steps.{World, State, Outcome, went, returned, faulted, short, position}
use Rattle.check_rules.specs.Rules.{Path, code_of, count_of, is_main}
use Rattle.laws_check.specs.Row.{Unsure}

-- a world of the program, which has a main: its functions, and as many constants and structs. The rooms are any, and it is strict or not
pub record Serves (p : Program) (w : World) : Type 0 where
  pub main : 0 < length p.functions
  pub functions : w.functions ≡ p.functions
  pub constants : length w.constants ≡ length p.constants
  pub structs : w.structs ≡ length p.structs

-- function f can stand at position i with h values above its frame's base
pub record Stands (p : Program) (f i h : ℕ) : Type 0 where
  pub known : f < length p.functions
  pub path : Path (is_main f) (count_of p f) (code_of p f) i h

-- a caller waits for a callee with that base: it has `waits` values of its own, and stands where it has one more, the callee's
pub record Calls (p : Program) (c : Frame) (base : ℕ) : Type 0 where
  pub waits : ℕ
  pub sum : c.base + waits ≡ base
  pub stands : Stands p c.function c.position (suc waits)

-- the callers of a frame of function f with that base, innermost first; the root is main, with base 0
unfoldable pub Waiting : Program → List Frame → (f base : ℕ) → Type 0
Waiting p [] f base = (f ≡ 0) × (base ≡ 0)
Waiting p (c ∷ cs) f base = Calls p c base × Waiting p cs c.function c.base

pub record Good (p : Program) (s : State) : Type 0 where
  pub waiting : Waiting p s.callers s.frame.function s.frame.base
  pub height : ℕ
  pub sum : s.frame.base + height ≡ length s.stack
  pub stands : Stands p s.frame.function (position s) height

-- ---- what a step keeps

-- the faults that an instruction can still meet
abbrev pub Allowed : Decoded → Fault → Type 0
Allowed x f.UnknownOpcode = ⊥
Allowed x f.NotCarried = ⊥
Allowed x f.CodeEnds = ⊥
Allowed x f.TooFewValues = ⊥
Allowed x (f.WrongKind v) = Unit
Allowed x f.OutOfRange = Unsure x
Allowed x f.NoLastResult = Unit
Allowed x f.ZeroDivisor = Unit
Allowed x f.NotFinite = Unit
Allowed x f.StackFull = Unit
Allowed x f.FramesFull = Unit
Allowed x f.CellsFull = Unit
Allowed x f.TooDeep = Unit
Allowed x f.NoFunction = ⊥

-- of a step of the opcode x
abbrev pub Safe : Program → Decoded → Outcome → Type 0
Safe p x (went t) = Good p t
Safe p x (returned v t) = Good p t
Safe p x (faulted n t) = Allowed x n
Safe p x short = Unit
