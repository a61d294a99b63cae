-- [step] An opcode's row, tied to its step: what it pops, what it pushes and what its operands name is what an instruction does.
-- So the check counts right: "no instruction pops below the base, reads a slot at or above the height or passes more arguments than the height".
use Rattle.std.specs.Prelude.{◌≡◌, Bool, true, false, ◌||◌, List, [], ◌∷◌, ℕ, suc, ◌+◌, ◌-◌, ◌≤◌, ◌<◌, min, eqb, length}
use Rattle.model.specs.declared.Value.{Value}
use Rattle.model.specs.declared.Names.TheVariants as n
use Rattle.model.specs.declared.Op.TheVariants as o
use Rattle.model.specs.declared.Decoded.{Decoded}
use Rattle.model.specs.declared.Decoded.TheVariants.{Carried}
use Rattle.model.specs.declared.Fault.{Fault}
use Rattle.model.specs.declared.Fault.TheVariants as f
use Rattle.model.specs.declared.Frame.{Frame}
use Rattle.model.specs.Opcodes.{first_names, popped, opcode_at}
use Rattle.model.specs.Steps.{World, State, Outcome, went, returned, faulted, short, at, position}
use Rattle.check_rules.specs.Rules.{get_local, jump_if_false, jump, call, call_callable, return}

-- the two opcodes that ask for a number which no check knows
pub data Unsure : Decoded → Type 0 where
  upvalue : Unsure (Carried o.GetUpvalue)
  field : Unsure (Carried o.AccessStructField)

-- why opcode k with the operands a and b asks for what is not there: its row's number operand, or its slot
pub data Missing (k a b : ℕ) (w : World) (s : State) : Type 0 where
  constant : first_names (opcode_at k) ≡ n.Constant → length w.constants ≤ a → Missing k a b w s
  function : first_names (opcode_at k) ≡ n.Function → length w.functions ≤ a → Missing k a b w s
  struct : first_names (opcode_at k) ≡ n.Struct → w.structs ≤ a → Missing k a b w s
  slot : k ≡ get_local → length s.stack ≤ s.frame.base + a → Missing k a b w s
  unsure : Unsure (opcode_at k).what → Missing k a b w s

-- why an instruction that has been read can fault by n: fewer values than its row pops, a number that is missing, a machine that is strict, a name that is not found
abbrev pub Why : (k a b : ℕ) → World → State → Fault → Type 0
Why k a b w s f.UnknownOpcode = ⊥
Why k a b w s f.NotCarried = ⊥
Why k a b w s f.CodeEnds = ⊥
Why k a b w s f.TooFewValues = length s.stack < popped (opcode_at k) a b
Why k a b w s (f.WrongKind v) = Unit
Why k a b w s f.OutOfRange = Missing k a b w s
Why k a b w s f.NoLastResult = Unit
Why k a b w s f.ZeroDivisor = Unit
Why k a b w s f.NotFinite = w.strict ≡ true
Why k a b w s f.StackFull = Unit
Why k a b w s f.FramesFull = Unit
Why k a b w s f.CellsFull = Unit
Why k a b w s f.TooDeep = Unit
Why k a b w s f.NoFunction = k ≡ call_callable

-- from s to t in the same frame, which then stands at i: the row's values are popped, and the row's number of values pushed
pub record Onward (k a b i : ℕ) (s t : State) : Type 0 where
  pub enough : popped (opcode_at k) a b ≤ length s.stack
  pub stack : length t.stack ≡ length s.stack - popped (opcode_at k) a b + (opcode_at k).pushes
  pub frame : t.frame ≡ (at i s).frame
  pub callers : t.callers ≡ s.callers

-- into function g: of the values that the row pops those that an operand counts stay, above the new base; the frame was entered at the units that are spent
pub record Inward (k a b g : ℕ) (s t : State) : Type 0 where
  pub enough : popped (opcode_at k) a b ≤ length s.stack
  pub stack : length t.stack ≡ length s.stack - (opcode_at k).pops
  pub frame : t.frame ≡ record { function = g; position = 0; base = length s.stack - popped (opcode_at k) a b; entered = s.spent }
  pub callers : t.callers ≡ s.frame ∷ s.callers

-- back to the caller c: no more values than the base says are left, and one is pushed
pub record Outward (k a b : ℕ) (c : Frame) (cs : List Frame) (s t : State) : Type 0 where
  pub enough : popped (opcode_at k) a b ≤ length s.stack
  pub stack : length t.stack ≡ suc (min s.frame.base (length s.stack - popped (opcode_at k) a b))
  pub from : s.callers ≡ c ∷ cs
  pub frame : t.frame ≡ c
  pub callers : t.callers ≡ cs

-- WHAT A ROW SAYS: all that opcode k with the operands a and b can do from s, which stands behind the operands
pub data Tied (k a b : ℕ) (w : World) (s : State) : Outcome → Type 0 where
  goes : {t : State} → eqb k jump ≡ false → eqb k return ≡ false → Onward k a b (position s) s t → Tied k a b w s (went t)
  leaps : {t : State} → (eqb k jump_if_false || eqb k jump) ≡ true → Onward k a b (position s + a) s t → Tied k a b w s (went t)
  calls : {t : State} → k ≡ call → Inward k a b a s t → Tied k a b w s (went t)
  calls_named : {t : State} (g : ℕ) → k ≡ call_callable → Inward k a b g s t → Tied k a b w s (went t)
  comes_back : {t : State} (c : Frame) (cs : List Frame) → k ≡ return → Outward k a b c cs s t → Tied k a b w s (went t)
  ends : {t : State} {v : Value} → k ≡ return → s.callers ≡ [] → Onward k a b (position s) s t → Tied k a b w s (returned v t)
  faults : {n : Fault} {t : State} → Why k a b w s n → Tied k a b w s (faulted n t)
  pauses : Tied k a b w s short

-- in short, where it neither calls nor returns
unfoldable pub calls_or_returns : ℕ → Bool
calls_or_returns k = eqb k call || eqb k call_callable || eqb k return

pub record Counted (k a b : ℕ) (s t : State) : Type 0 where
  pub enough : popped (opcode_at k) a b ≤ length s.stack
  pub stack : length t.stack ≡ length s.stack - popped (opcode_at k) a b + (opcode_at k).pushes
