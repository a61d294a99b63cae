-- Calls from C, one after another; and a run from C.
use Rattle.std.specs.Prelude.{◌≡◌, true, false, List, [], ◌∷◌, ℕ, ◌+◌, get_or}
use Rattle.model.specs.Runs.{recovered}
use Rattle.model.specs.Machines.{machine_in, world_of, RunCall, begins, continues, abandons, entries_in}
use Rattle.embed_words.specs.Coding.{under_way}
use Rattle.demands.specs.Host.{Call, run, Answer, Chain}
use Rattle.demands.specs.Jobs.{anew, AllTyped}
use Rattle.demands.specs.Meant.{AlikeHeld, said}
use Rattle.demands.specs.Recovery.{SetUp, Demand3}
use Rattle.laws_hosts.specs.Hosts.{CHeld, CDone, left_by, Through}
use Rattle.laws_hosts.specs.Crossed.{held_in, Taken, Handed, Tells}

-- a call from C: what it hands over crosses, and the export does what it promises
pub record Called (c : Call) (a : List ℕ) (g : CHeld) (d : CDone) : Type 0 where
  pub handed : Handed c a
  pub through : Through c a g d

pub data CChain : List Call → CHeld → List CDone → CHeld → Type 0 where
  none : {g : CHeld} → CChain [] g [] g
  more : {c : Call} {cs : List Call} {a : List ℕ} {g k : CHeld} {d : CDone} {ds : List CDone} → Called c a g d → CChain cs (left_by d) ds k → CChain (c ∷ cs) g (d ∷ ds) k

-- what came back of each call tells its answer
pub data AllTell : List Answer → List CDone → Type 0 where
  none : AllTell [] []
  more : {a : List ℕ} {x : Answer} {xs : List Answer} {d : CDone} {ds : List CDone} → Tells a x d → AllTell xs ds → AllTell (x ∷ xs) (d ∷ ds)

-- CALLS FROM C are host calls, from what the host in C held to what it then holds
pub record HostChain (cs : List Call) (g : CHeld) (ds : List CDone) (k : CHeld) : Type 0 where
  pub answers : List Answer
  pub chain : Chain cs (held_in g) answers (held_in k)
  pub tell : AllTell answers ds
  pub taken : Taken k

-- what came back of two chains tells the same answers
pub record SameTold (ds es : List CDone) : Type 0 where
  pub answers : List Answer
  pub one : AllTell answers ds
  pub other : AllTell answers es

-- two chains say the same
pub record SameSaid (cs : List Call) (g : CHeld) (ds : List CDone) (k g' : CHeld) (es : List CDone) (k' : CHeld) : Type 0 where
  pub one : HostChain cs g ds k
  pub other : HostChain cs g' es k'
  pub says : said one.chain ≡ said other.chain

-- ---- a run from C

-- it was begun over what g holds, where none was under way; whatever calls came since have left it under way in k
pub data Waiting (g : CHeld) : CHeld → Type 0 where
  begun : {a : List ℕ} {d : CDone} → under_way g.words ≡ false → Called (run begins) a g d → under_way d.coded.vm ≡ true → Waiting g (left_by d)
  since : {c : Call} {a : List ℕ} {k : CHeld} {d : CDone} → Waiting g k → Called c a k d → under_way d.coded.vm ≡ true → Waiting g (left_by d)

abbrev pub answer_word : CDone → ℕ → ℕ
answer_word d i = get_or d.coded.answer i 0

-- then a call was not refused, and its answer is a fault: the run ended so, or was abandoned
pub record Faulted (g k : CHeld) (c : RunCall) (a : List ℕ) (d : CDone) : Type 0 where
  pub waiting : Waiting g k
  pub called : Called (run c) a k d
  pub done : d.coded.number ≡ 0
  pub fault : answer_word d 0 ≡ 3

-- the units that a call gives
abbrev pub units_of : RunCall → ℕ
units_of begins = 0
units_of (continues u) = u
units_of abandons = 0

-- DEMAND 3, of such a run from C. It was given the units that its record told and those of the last call; the answer tells the fault's number, the units
-- spent, the root Returns, and how many entries of the backtrace stand in the store that was lent for it
pub record CDemand3 (g k : CHeld) (c : RunCall) (d : CDone) : Type 0 where
  pub leaves : Demand3 ((held_in k).vm.run.given + units_of c) (held_in g) (answer_word d 3) (record { spent = answer_word d 1; returns = answer_word d 2 })
      (entries_in (answer_word d 4) 0 d.lent.backtrace) (held_in (left_by d))
  pub taken : Taken (left_by d)
  -- whatever calls come then from C, they say what they say of any machine that was set up in that state with the same free cells
  pub later : {e : CHeld} {calls : List Call} → Taken e → AlikeHeld (anew calls) (held_in (left_by d)) (held_in e) → AllTyped calls
      → {ds es : List CDone} {f f' : CHeld} → CChain calls (left_by d) ds f → CChain calls e es f' → SameSaid calls (left_by d) ds f e es f'
  -- and where it was set up in the same words, what comes back tells the same answers
  pub exact : (e : CHeld) → Taken e
      → SetUp (recovered (world_of (held_in g).vm g.stores g.lent) (machine_in (held_in g).vm g.lent).stack leaves.leaves.rules.kept) (held_in g) (held_in e)
      → (calls : List Call) (ds es : List CDone) (f f' : CHeld) → CChain calls (left_by d) ds f → CChain calls e es f' → SameTold ds es
