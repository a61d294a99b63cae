-- Demand 2: each unit is tied to a written step.
use Rattle.std.specs.Prelude.{◌≡◌, Bool, true, false, List, [], ◌∷◌, ℕ, suc, ◌+◌, ◌≤◌, ◌<◌}
use Rattle.model.specs.declared.Op.{Op}
use Rattle.model.specs.declared.Op.TheVariants as o
use Rattle.model.specs.declared.Decoded.{Decoded}
use Rattle.model.specs.declared.Decoded.TheVariants as d
use Rattle.model.specs.declared.Value.{Value}
use Rattle.model.specs.declared.Vm.{Vm}
use Rattle.model.specs.declared.Fault.{Fault}
use Rattle.model.specs.declared.Tally.{Tally}
use Rattle.model.specs.Values.{fault_number}
use Rattle.model.specs.Heap.{Cell}
use Rattle.model.specs.Programs.{opcode_in}
use Rattle.model.specs.Equality.{Same, same, same_of}
use Rattle.model.specs.Steps.{World, State, Outcome, went, returned, faulted, short, position, code_of, step_of}
use Rattle.model.specs.Runs.{Machine, begin, machine_of, Progress, at_start, over, Entry, trace_of, Reply, value, continue, fault, Ran, answered, cut_at, recovered}
use Rattle.model.specs.Stores.{Stores}
use Rattle.model.specs.Machines.{Lent, machine_in, world_of, Unchanged}
use Rattle.laws_runs.specs.Ordered.{CodeBytes}
use Rattle.laws_runs.specs.Paths.{Steps, none, on, ret, root_returns}
use Rattle.demands.specs.Trees.{AsTrees}

-- ---- a step

unfoldable pub pairs : Same → ℕ
pairs (same b k) = k

-- the pairs that a comparison of the two topmost values visits below the top pair
unfoldable pub top_pairs : World → List Cell → List Value → ℕ
top_pairs w H [] = 0
top_pairs w H (y ∷ []) = 0
top_pairs w H (y ∷ x ∷ r) = pairs (same_of w.text H x y)

-- Equal and NotEqual spend one more for each pair; no other opcode does
unfoldable pub pairs_of : World → Op → List Cell → List Value → ℕ
pairs_of w o.Equal H vs = top_pairs w H vs
pairs_of w o.NotEqual H vs = top_pairs w H vs
pairs_of w o.LoadConstant H vs = 0
pairs_of w o.GetLocal H vs = 0
pairs_of w o.GetUpvalue H vs = 0
pairs_of w o.GetLastResult H vs = 0
pairs_of w o.Negate H vs = 0
pairs_of w (o.Arithmetic x) H vs = 0
pairs_of w (o.Ordering x) H vs = 0
pairs_of w o.LogicalAnd H vs = 0
pairs_of w o.LogicalOr H vs = 0
pairs_of w o.LogicalNeg H vs = 0
pairs_of w o.JumpIfFalse H vs = 0
pairs_of w o.Jump H vs = 0
pairs_of w o.Call H vs = 0
pairs_of w o.CallCallable H vs = 0
pairs_of w o.BuildStructInstance H vs = 0
pairs_of w o.AccessStructField H vs = 0
pairs_of w o.BuildList H vs = 0
pairs_of w o.Return H vs = 0

unfoldable pub pairs_by : World → Decoded → State → ℕ
pairs_by w (d.Carried p) s = pairs_of w p s.heap s.stack
pairs_by w d.NotCarried s = 0
pairs_by w d.Unknown s = 0

-- the pairs of the instruction at the current position
unfoldable pub pairs_at : World → State → ℕ
pairs_at w s = pairs_by w (opcode_in (code_of w s) (position s)).what s

-- from s to t, k units fewer are left and k more are spent
pub record SpentBetween (k : ℕ) (s t : State) : Type 0 where
  pub left : s.units ≡ t.units + k
  pub spent : t.spent ≡ s.spent + k

-- k units are spent by a step that completes, i by one that faults; a step is short only if fewer than k are left
abbrev pub Spent : (k i : ℕ) → State → Outcome → Type 0
Spent k i s (went t) = SpentBetween k s t
Spent k i s (returned x t) = SpentBetween k s t
Spent k i s (faulted n t) = SpentBetween i s t
Spent k i s short = s.units < k

-- a step costs k units: one that completes has spent them, and one that faults its opcode's
abbrev pub Costs : ℕ → State → Outcome → Type 0
Costs k s x = Spent k 1 s x

-- ---- a path

-- one for each step, and one for each pair that it visits
abbrev pub spent_on : {w : World} {n : ℕ} {m k : Progress} {s t : State} → Steps w n m s k t → ℕ
spent_on none = 0
spent_on {w} (on {s = s} o q p) = suc (pairs_at w s) + spent_on p
spent_on {w} (ret {s = s} o q p) = suc (pairs_at w s) + spent_on p

-- ---- a run of m with u units

-- what a path did: the units spent on its steps, and the root Returns among them
abbrev pub did_on : {w : World} {n : ℕ} {m k : Progress} {s t : State} → Steps w n m s k t → Tally
did_on p = record { spent = spent_on p; returns = root_returns p }

-- the same with a step behind it that faults
abbrev pub did_until : {w : World} {n : ℕ} {m k : Progress} {s t : State} → Steps w n m s k t → Tally
did_until p = record { spent = spent_on p + 1; returns = root_returns p }

-- the same where the run is given up behind it: all u units that it was given count
abbrev pub did_given : {w : World} {n : ℕ} {m k : Progress} {s t : State} → ℕ → Steps w n m s k t → Tally
did_given u p = record { spent = u; returns = root_returns p }

-- the run is n written steps to a state where it is over, or up to a step that faults or cannot be paid for: its reply and what it leaves are theirs
pub data RunIs (w : World) (m : Machine) (u : ℕ) : Ran → Type 0 where
  ends : {n : ℕ} {k : Progress} {t : State} (p : Steps w n (at_start (begin m u)) (begin m u) k t) → over w t ≡ true
      → RunIs w m u (record { reply = answered k.answer (did_on p); machine = machine_of t })
  faults : {n : ℕ} {k : Progress} {s t : State} {i : Fault} (p : Steps w n (at_start (begin m u)) (begin m u) k s) → over w s ≡ false → step_of w s ≡ faulted i t
      → RunIs w m u (record { reply = fault (fault_number i) (did_until p) (trace_of w.functions (t.frame ∷ t.callers)); machine = recovered w m.stack k })
  gives_up : {n : ℕ} {k : Progress} {s : State} (p : Steps w n (at_start (begin m u)) (begin m u) k s) → over w s ≡ false → step_of w s ≡ short
      → RunIs w m u (record { reply = fault 13 (did_given u p) (trace_of w.functions ((cut_at s).frame ∷ (cut_at s).callers)); machine = recovered w m.stack k })

-- the faults of a run: 1 to 14, and on a strict machine 26
pub data FaultOf (strict : Bool) (n : ℕ) : Type 0 where
  of_any : 1 ≤ n → n ≤ 14 → FaultOf strict n
  of_a_strict : strict ≡ true → n ≡ 26 → FaultOf strict n

-- the units spent are at most those given, and a fault is one of a run; a value is answered where a root Return was completed, "continue" where none was
abbrev pub Within : (strict : Bool) → ℕ → Reply → Type 0
Within strict u (value x did) = (did.spent ≤ u) × (1 ≤ did.returns)
Within strict u (continue did) = (did.spent ≤ u) × (did.returns ≡ 0)
Within strict u (fault n did es) = (did.spent ≤ u) × FaultOf strict n

-- DEMAND 2, of a run that was begun by m, strict or not, and given u units in all, in however many parts; c is the program and the setting that it left, and
-- x what its last result and the lent stores then stand for
pub record Demand2 (m : Vm) (s : Stores) (l : Lent) (u : ℕ) (c : Unchanged) (x : Ran) : Type 0 where
  pub program : c.program ≡ m.program
  pub strict : c.strict ≡ m.strict
  -- its answer, stack, frames, last result and units are those of the written steps
  pub steps : RunIs (world_of m s l) (machine_in m l) u x
  pub within : Within m.strict u x.reply
  -- where the units were too few, the units spent are the whole budget
  pub whole : (did : Tally) (es : List Entry) → x.reply ≡ fault 13 did es → did.spent ≡ u
  -- in each state that it comes to, values are trees
  pub trees : CodeBytes s → {n : ℕ} {k : Progress} {t : State} → Steps (world_of m s l) n (at_start (begin (machine_in m l) u)) (begin (machine_in m l) u) k t → AsTrees (world_of m s l) t
