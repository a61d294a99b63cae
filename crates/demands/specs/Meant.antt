-- Demand 3, by meaning: machines that mean the same, wherever their texts and cells lie, and what their answers say.
use Rattle.std.specs.Prelude.{◌≡◌, Bool, true, List, [], ◌∷◌, ℕ, length, Err, Ok}
use Rattle.model.specs.declared.Tally.{Tally}
use Rattle.model.specs.Heap.{Cell}
use Rattle.model.specs.Trees.{Tree, meaning}
use Rattle.model.specs.Steps.{World}
use Rattle.model.specs.Runs.{Machine, tally, Under, ends, pauses}
use Rattle.model.specs.Stores.{Stores, program_in}
use Rattle.model.specs.Machines.{machine_in, under_in, world_of}
use Rattle.model.specs.Machines as m
use Rattle.laws_runs.specs.Ordered.{CodeBytes}
use Rattle.laws_meaning.specs.Alike.{Layout, AlikeMachine, AlikeUnder}
use Rattle.laws_meaning.specs.Answers.{Meant, meant_in}
use Rattle.demands.specs.Host.{Held, Call, run, ask, Answer, ran, emitted, started, changed, told, put, shown, headed, Chain, none, more}
use Rattle.demands.specs.Kept.{InOrder}
use Rattle.demands.specs.Jobs.{Job, makes, writes, sets, looks, handed, job_of}

abbrev pub world_in : Held → World
world_in h = world_of h.vm h.stores h.lent

abbrev pub machine_of : Held → Machine
machine_of h = machine_in h.vm h.lent

-- the run that is under way
abbrev pub under_of : Held → Under
under_of h = under_in h.vm h.lent

-- ---- what a host holds: h and d mean the same

-- program stores of the same lengths
pub record AsLong (s s' : Stores) : Type 0 where
  pub constants : length s.constants ≡ length s'.constants
  pub structs : length s.structs ≡ length s'.structs
  pub functions : length s.functions ≡ length s'.functions
  pub text : length s.text ≡ length s'.text
  pub main : length s.main ≡ length s'.main
  pub main_places : length s.main_places ≡ length s'.main_places
  pub other : length s.other ≡ length s'.other
  pub other_places : length s.other_places ≡ length s'.other_places

-- where the texts of h lie, its constants, and the room of its cells
abbrev pub layout_of : Held → Layout
layout_of h = record { text = (world_in h).text; constants = (world_in h).constants; cell_room = (world_in h).cell_room }

-- in good order, and the code is bytes, as the types say
pub record Fine (h : Held) : Type 0 where
  pub order : InOrder h
  pub code : CodeBytes h.stores

-- `anew`: whether machines may be made anew. A new machine has all its cells free; otherwise it is enough that as many are.
pub record AlikeHeld (anew : Bool) (h d : Held) : Type 0 where
  -- the same program, wherever its texts lie, with as much room
  pub counts : d.vm.program ≡ h.vm.program
  pub program : program_in d.vm.program d.stores ≡ program_in h.vm.program h.stores
  pub stores : AsLong d.stores h.stores
  -- both are strict, or neither is
  pub strict : d.vm.strict ≡ h.vm.strict
  -- stack and last result of the same trees, the same frames with the units at which they were entered, as many cells free
  pub machine : AlikeMachine (world_in h) (layout_of d) (machine_of h) (machine_of d)
  -- a run is under way in both or in neither; in both it was given and has spent as much, has come as far, and its starting stack is of the same trees
  pub on : d.vm.run.on ≡ h.vm.run.on
  pub under : h.vm.run.on ≡ true → AlikeUnder (world_in h) (layout_of d) (under_of h) (under_of d)
  -- the lent stores as long
  pub stack : length d.lent.stack ≡ length h.lent.stack
  pub frames : length d.lent.frames ≡ length h.lent.frames
  pub copy : length d.lent.copy ≡ length h.lent.copy
  pub backtrace : length d.lent.backtrace ≡ length h.lent.backtrace
  pub cells : anew ≡ true → length d.lent.cells ≡ length h.lent.cells
  pub fine : Fine h
  pub beside : Fine d

-- ---- what an answer says

pub data Said : Type 0 where
  -- a run that is over: the tree of its value, or "continue", or the fault with its backtrace; and what it did
  ended : Meant → Said
  -- one that is paused: the units that it was given, and what it has done so far
  paused : (given : ℕ) → Tally → Said
  -- a value that is told: its tree
  value : Tree → Said
  -- the setting that the machine now has
  set : (strict : Bool) → Said
  -- all else, as it was answered
  plain : Answer → Said
  -- to a reader that was handed a value: it names cells of one machine, so that the same value is not the same question to another.
  -- Of values that mean the same, `crates/laws_meaning` says that header, elements and text are the same (`AlikeBlock`).
  own : Said

-- values are those of the machine that is then held
unfoldable pub said_in : List ℕ → List Cell → Answer → Said
said_in t H (ran (m.ran c (ends x))) = ended (meant_in t H x.reply)
said_in t H (ran (m.ran c (pauses r))) = paused r.given (tally r.state.spent r.progress)
said_in t H (ran (m.refused n)) = plain (ran (m.refused n))
said_in t H (emitted a) = plain (emitted a)
said_in t H (started a) = plain (started a)
said_in t H (changed (Ok x)) = set x.strict
said_in t H (changed (Err e)) = plain (changed (Err e))
said_in t H (told a) = plain (told a)
said_in t H (put out a) = plain (put out a)
said_in t H (shown (Ok x)) = value (meaning t H x)
said_in t H (shown (Err e)) = plain (shown (Err e))
said_in t H (headed a) = plain (headed a)

-- what it says, or that it is its own
abbrev pub heard : Job → Said → Said
heard (makes image) x = x
heard (writes operands) x = x
heard sets x = x
heard looks x = x
heard handed x = own

unfoldable pub says : Call → Held → Answer → Said
says (run c) h a = said_in (world_in h).text (machine_of h).heap a
says (ask q) h a = heard (job_of q) (said_in (world_in h).text (machine_of h).heap a)

-- what calls one after another say
unfoldable pub said : {cs : List Call} {h k : Held} {xs : List Answer} → Chain cs h xs k → List Said
said none = []
said (more {c = c} {h' = h'} {a = a} p ps) = says c h' a ∷ said ps

-- two chains of the same calls: they say the same, and leave machines that mean the same
pub record AlikeChains (r : Bool) {cs : List Call} {h d e f : Held} {xs ys : List Answer} (p : Chain cs h xs e) (q : Chain cs d ys f) : Type 0 where
  pub says : said p ≡ said q
  pub held : AlikeHeld r e f
