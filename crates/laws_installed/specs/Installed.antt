-- WHAT IS SAID of a rule that passed the check, once it is installed and run through the entries.
use Rattle.std.specs.Prelude.{◌≡◌, false, List, [], ◌∷◌, ℕ, ◌+◌, ◌≤◌, ◌<◌, length, get_or, Err, Ok, Result}
use Rattle.model.specs.declared.Frame.{Frame}
use Rattle.model.specs.declared.Vm.{Vm}
use Rattle.model.specs.declared.Halt.TheVariants as r
use Rattle.model.specs.Programs.{Program}
use Rattle.model.specs.Stores.{Stores, program_in}
use Rattle.model.specs.Steps.{State}
use Rattle.model.specs.Runs.{Progress, begin, root}
use Rattle.model.specs.Machines.{Lent, innermost, machine_in, under_in, world_of, RunCall, begins, continues, abandons, entries_in, RunPost}
use Rattle.laws_runs.specs.Paths.{Steps, more}
use Rattle.embed_words.specs.Coding.{Coded, vm_in, RunThrough}
use Rattle.check_rules.specs.Rules.{Greatest, code_of, count_of, is_main}
use Rattle.laws_check.specs.Passed.{ruled_out, Asked}
use Rattle.model.specs.declared.Halt.{Halt}
use Rattle.model.specs.declared.Refusal.{Refusal}

-- the counts and the program's stores stand for p, and the machine over them has not run: nothing on its stack, one frame at the start of main.
-- Its cells, its last result and all that is lent besides are any, and it is strict or not
pub record Installed (p : Program) (m : Vm) (s : Stores) (l : Lent) : Type 0 where
  pub main : 0 < length p.functions
  pub program : program_in m.program s ≡ p
  pub stack : m.stack ≡ 0
  pub frames : m.frames ≡ 1
  pub frame : innermost 1 l.frames ≡ root 0

-- ---- its run, in parts

-- how a host calls a part of a run: which call, on which machine, over what is lent; what it answers, and what is lent as it then is
abbrev pub Calling : Type 1
Calling = RunCall → Vm → (lent : Lent) → Result Halt Refusal → (left : Lent) → Type 0

-- through the machine's own entries
abbrev pub by_entries : Stores → Calling
by_entries s c m l x l' = RunPost c m s l x l'

-- from C: the words that the host hands in stand for the machine
pub record FromC (s : Stores) (c : RunCall) (m : Vm) (l : Lent) (x : Result Halt Refusal) (l' : Lent) : Type 0 where
  pub words : List ℕ
  pub answer : List ℕ
  pub is : vm_in words ≡ m
  pub coded : Coded
  pub run : RunThrough c words answer s l coded l'
  pub result : run.result ≡ x

-- a run that was begun by m over l is paused: it was given g units in all, k is the machine, and l' what is lent as it then is
pub data UnderWay (Part : Calling) (m : Vm) (l : Lent) : (g : ℕ) → Vm → Lent → Type 0 where
  begun : {k : Vm} {l' : Lent} → Part begins m l (Ok (r.Paused k)) l' → UnderWay Part m l 0 k l'
  continued : {g u : ℕ} {k k' : Vm} {l₁ l' : Lent} → UnderWay Part m l g k l₁ → Part (continues u) k l₁ (Ok (r.Paused k')) l' → UnderWay Part m l (g + u) k' l'

-- what a part of such a run answers; it was given g units in all, with this part
pub data Answers (Part : Calling) (m : Vm) (l : Lent) : (g : ℕ) → Result Halt Refusal → Lent → Type 0 where
  beginning : {x : Result Halt Refusal} {l' : Lent} → Part begins m l x l' → Answers Part m l 0 x l'
  continuing : {g u : ℕ} {k : Vm} {x : Result Halt Refusal} {l₁ l' : Lent} → UnderWay Part m l g k l₁ → Part (continues u) k l₁ x l' → Answers Part m l (g + u) x l'
  abandoning : {g : ℕ} {k : Vm} {x : Result Halt Refusal} {l₁ l' : Lent} → UnderWay Part m l g k l₁ → Part abandons k l₁ x l' → Answers Part m l g x l'

-- "faults 1 to 4 and 14 never come, and 6 comes only from GetUpvalue or a field": of what a part answers, with what it leaves; g units were given in all
abbrev pub FaultsSo : Vm → Stores → (lent : Lent) (g : ℕ) (left : Lent) → Result Halt Refusal → Type 0
FaultsSo m s l g l' (Ok (r.Value k v n)) = Unit
FaultsSo m s l g l' (Ok (r.Continue k n)) = Unit
FaultsSo m s l g l' (Ok (r.Fault k n did j)) = (ruled_out n ≡ false) × (n ≡ 6 → Asked (world_of m s l) (machine_in m l) g did (entries_in j 0 l'.backtrace))
FaultsSo m s l g l' (Ok (r.Paused k)) = Unit
FaultsSo m s l g l' (Err e) = Unit

-- ---- how high its stack grows

-- the store of heights tells each function's greatest
abbrev pub Tells : Program → (heights : List ℕ) → Type 0
Tells p hs = (f : ℕ) → f < length p.functions → Greatest (is_main f) (count_of p f) (code_of p f) (get_or hs f 0)

-- each frame's part of the stack, from its base to where the next inner frame's begins or the stack ends, is at most the height that is told of its function
unfoldable pub PartsBelow : (heights : List ℕ) → List Frame → (end : ℕ) → Type 0
PartsBelow hs [] end = Unit
PartsBelow hs (r ∷ rs) end = ((r.base ≤ end) × (end ≤ r.base + get_or hs r.function 0)) × PartsBelow hs rs r.base

-- the heights of the frames' functions together
unfoldable pub together : (heights : List ℕ) → List Frame → ℕ
together hs [] = 0
together hs (r ∷ rs) = get_or hs r.function 0 + together hs rs

-- in a state of a run: no frame exceeds its function's height, and the whole stack has no more values than the heights of the functions that are
-- being called, together
pub record Within (hs : List ℕ) (s : State) : Type 0 where
  pub parts : PartsBelow hs (s.frame ∷ s.callers) (length s.stack)
  pub sum : length s.stack ≤ together hs (s.frame ∷ s.callers)

-- in every state that the run of a machine comes to: given all its units at once, or continued with more where it was paused
pub record StaysWithin (Part : Calling) (m : Vm) (s : Stores) (l : Lent) (hs : List ℕ) : Type 0 where
  pub whole : (u n : ℕ) (before after : Progress) (t : State) → Steps (world_of m s l) n before (begin (machine_in m l) u) after t → Within hs t
  pub parts : {g : ℕ} {k : Vm} {l' : Lent} → UnderWay Part m l g k l' → (u n : ℕ) (before after : Progress) (t : State)
      → Steps (world_of k s l') n before (more u (under_in k l').state) after t → Within hs t
