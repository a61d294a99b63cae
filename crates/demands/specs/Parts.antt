-- A run in parts, over calls: begun, continued, and abandoned where it is paused; whatever other calls come in between.
use Rattle.std.specs.Prelude.{◌≡◌, true, false, ℕ, ◌+◌, ◌*◌}
use Rattle.model.specs.Runs.{begin, at_start, end_of, Reply, value, continue, fault, Ran, Under, Part, ends, pauses, part_of, run_of}
use Rattle.model.specs.Machines.{run_order, Unchanged, begins, continues, abandons, RunCall, no_run}
use Rattle.model.specs.Machines as m
use Rattle.laws_runs.specs.Paths.{root_returns, PausedBy}
use Rattle.laws_runs.specs.Entered.{entered_in, noted_along}
use Rattle.demands.specs.Units.{spent_on}
use Rattle.demands.specs.Host.{Held, Ask, Call, run, ask, Answer, ran, emitted, started, changed, told, put, shown, headed, RanBy, After}
use Rattle.demands.specs.Agree.{Front, Rooms, Agree}
use Rattle.demands.specs.Meant.{world_in, machine_of, under_of}

-- ---- the calls

-- a run that was begun by h: it was given g units in all, its last part came to x, and k is then held
pub data Parts (h : Held) : (g : ℕ) → Part → Held → Type 0 where
  begun : {c : Unchanged} {x : Part} {k : Held} → RanBy begins h (ran (m.ran c x)) k → Parts h 0 x k
  continued : {g u : ℕ} {r : Under} {c : Unchanged} {x : Part} {k k' : Held} → Parts h g (pauses r) k → RanBy (continues u) k (ran (m.ran c x)) k' → Parts h (g + u) x k'
  -- between two parts: readers look, and what would change the program, the machine or its setting is refused
  asked : {g : ℕ} {r : Under} (q : Ask) {a : Answer} {k k' : Held} → Parts h g (pauses r) k → After (ask q) k a k' → Parts h g (pauses r) k'
  -- and a call of the run may be refused too
  refused : {g n : ℕ} {r : Under} {c : RunCall} {k k' : Held} → Parts h g (pauses r) k → RanBy c k (ran (m.refused n)) k' → Parts h g (pauses r) k'

-- such a run that is over: it came to x by its last part, or by being abandoned where it was paused
pub data Over (h : Held) : (g : ℕ) → Ran → Held → Type 0 where
  ended : {g : ℕ} {x : Ran} {k : Held} → Parts h g (ends x) k → Over h g x k
  abandoned : {g : ℕ} {r : Under} {c : Unchanged} {x : Ran} {k k' : Held} → Parts h g (pauses r) k → RanBy abandons k (ran (m.ran c (ends x))) k' → Over h g x k'

-- ---- what they come to

-- k holds the machine that a run left, and none is under way
pub record Rests (x : Ran) (k : Held) : Type 0 where
  pub machine : machine_of k ≡ x.machine
  pub run : k.vm.run ≡ no_run

-- the run r is under way in k
pub record Waits (r : Under) (k : Held) : Type 0 where
  pub under : under_of k ≡ r
  pub on : k.vm.run.on ≡ true

abbrev pub Stands : Part → Held → Type 0
Stands (ends x) k = Rests x k
Stands (pauses r) k = Waits r k

-- k holds what the calls of a run of h leave: the same program in the same stores, the same setting, lent stores of the same lengths, all in good order; and
-- the copy holds the stack that the run was begun with
pub record Beside (h k : Held) : Type 0 where
  pub program : k.vm.program ≡ h.vm.program
  pub strict : k.vm.strict ≡ h.vm.strict
  pub stores : k.stores ≡ h.stores
  pub rooms : Rooms k.lent h.lent
  pub order : run_order k.vm k.stores k.lent ≡ true
  pub copy : Front (2 * h.vm.stack) k.lent.copy h.lent.stack

-- THE DEALING LAW, over calls, of a machine strict or not: however g units were dealt out, the run has come to what one run comes to that is given g
pub record CameTo (h : Held) (g : ℕ) (x : Part) (k : Held) : Type 0 where
  pub order : run_order h.vm h.stores h.lent ≡ true
  pub idle : h.vm.run.on ≡ false
  pub one : x ≡ part_of (world_in h) (machine_of h).stack g (end_of (world_in h) (begin (machine_of h) g))
  pub stands : Stands x k
  pub beside : Beside h k

-- "but paused where that run ends in 13": there, and nowhere else
abbrev pub IsThirteen : Reply → Type 0
IsThirteen (value v did) = ⊥
IsThirteen (continue did) = ⊥
IsThirteen (fault n did trace) = n ≡ 13

abbrev pub PausedAtThirteen : Reply → Part → Type 0
PausedAtThirteen y (ends x) = IsThirteen y → ⊥
PausedAtThirteen y (pauses r) = IsThirteen y

-- the same of a run that is over: it is one run, given g units
pub record IsOne (h : Held) (g : ℕ) (x : Ran) (k : Held) : Type 0 where
  pub order : run_order h.vm h.stores h.lent ≡ true
  pub idle : h.vm.run.on ≡ false
  pub one : x ≡ run_of (world_in h) (machine_of h) g
  pub rests : Rests x k
  pub beside : Beside h k

-- DEMAND 2, of a run that is paused in k: written steps lead to where it stands, before an instruction that cannot be paid for; the record tells the units
-- that it was given, those that the steps have spent, and the root Returns among them; and each frame tells what was spent when its step had entered it
pub record StandsBefore (h : Held) (g : ℕ) (k : Held) : Type 0 where
  pub by : PausedBy (world_in h) (at_start (begin (machine_of h) g)) (begin (machine_of h) g) (under_of k).progress (under_of k).state
  pub given : k.vm.run.given ≡ g
  pub spent : k.vm.run.spent ≡ spent_on by.path
  pub returns : k.vm.run.returns ≡ root_returns by.path
  pub entered : entered_in (under_of k).state ≡ noted_along by.path (entered_in (begin (machine_of h) g))

-- the units that a continuing with u units gives: all, unless it is refused
abbrev pub granted_of : (u : ℕ) → Answer → ℕ
granted_of u (ran (m.ran c x)) = u
granted_of u (ran (m.refused n)) = 0
granted_of u (emitted a) = 0
granted_of u (started a) = 0
granted_of u (changed a) = 0
granted_of u (told a) = 0
granted_of u (put out a) = 0
granted_of u (shown a) = 0
granted_of u (headed a) = 0

-- the units that a call gives to the run that is under way: no call but a continuing gives any
abbrev pub units_given : Call → Answer → ℕ
units_given (run begins) a = 0
units_given (run (continues u)) a = granted_of u a
units_given (run abandons) a = 0
units_given (ask q) a = 0

-- a run that was begun by h and given g units in all is paused in k, or it is over
pub data Onward (h : Held) (g : ℕ) (k : Held) : Type 0 where
  paused : {r : Under} → Parts h g (pauses r) k → Onward h g k
  over : {x : Ran} → Over h g x k → Onward h g k

-- of two ways to deal units out: they come to the same, and what is then held agrees
pub record SameParts (x y : Part) (k d : Held) : Type 0 where
  pub comes : x ≡ y
  pub agree : Agree k d

pub record SameEnd (x y : Ran) (k d : Held) : Type 0 where
  pub answer : x ≡ y
  pub agree : Agree k d
