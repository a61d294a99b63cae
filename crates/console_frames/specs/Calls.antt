-- What a call over frames answers, and what all stores then hold: by the machine's own rules.
use Rattle.std.specs.Prelude.{◌≡◌, List, ℕ, replicate, Result}
use Rattle.model.specs.declared.Vm.{Vm}
use Rattle.model.specs.declared.Frame.{Frame}
use Rattle.model.specs.Stores.{Stores}
use Rattle.model.specs.Loading.{OutRes}
use Rattle.model.specs.Machines as machine
use Rattle.model.specs.Machines.{StartRes, RunCall, begins, continues, abandons, RunPost, set_strict, new_machine_of, load_machine_of, backtrace_in}
use Rattle.frames.specs.Links.{no_frame}
use Rattle.console_script.specs.declared.stores.Stores.{Stores as AllStores}
use Rattle.console_script.specs.Stored.{stored}
use Rattle.console_frames.specs.declared.Call.{Call}
use Rattle.console_frames.specs.declared.Call.TheVariants as c
use Rattle.console_frames.specs.declared.Answer.{Answer}
use Rattle.console_frames.specs.declared.Answer.TheVariants as a
use Rattle.console_frames.specs.Resting.{all_laid, all_kept}
use Rattle.model.specs.declared.Halt.{Halt}
use Rattle.model.specs.declared.Refusal.{Refusal}

-- what the stores hold: the program's, those that a run is lent, and the words that frames rest in
pub record Held : Type 0 where
  pub program : Stores
  pub stack : List ℕ
  pub cells : List ℕ
  pub copy : List ℕ
  pub trace : List ℕ
  pub frames : List ℕ

-- store by store
abbrev pub held : (program : Stores) (stack cells copy trace frames : List ℕ) → Held
held program stack cells copy trace frames = record { program = program; stack = stack; cells = cells; copy = copy; trace = trace; frames = frames }

-- what all stores hold
abbrev pub held_by : AllStores → Held
held_by s = held (stored s.program) s.stack s.cells s.copy s.trace s.frames

-- ---- a call: frames are those before it, frames' those that it leaves

-- w says which machine was made: its program's stores, and its frames kept in words
unfoldable pub made_in : (w : StartRes) (s : Held) → Held
made_in w s = record { program = w.stores; stack = s.stack; cells = s.cells; copy = s.copy; trace = s.trace; frames = all_kept w.frames s.frames }

-- the answer, the frames and the stores are w's
pub record Making (w : StartRes) (s : Held) (r : Answer) (frames' : List Frame) (s' : Held) : Type 0 where
  pub answer : r ≡ a.Made w.answer
  pub frames : frames' ≡ w.frames
  pub stores : s' ≡ made_in w s

-- what a run is lent besides the program's stores
unfoldable pub lent_in : (frames : List Frame) (s : Held) → machine.Lent
lent_in frames s = record { stack = s.stack; cells = s.cells; frames = frames; copy = s.copy; backtrace = s.trace }

-- the rule of that call of a run, over the frames as records; the program's stores are as they were
pub record Running (call : RunCall) (m : Vm) (frames : List Frame) (s : Held) (r : Answer) (frames' : List Frame) (s' : Held) : Type 0 where
  pub result : Result Halt Refusal
  pub answer : r ≡ a.Ran result
  pub post : RunPost call m s.program (lent_in frames s) result (lent_in frames' s')
  pub program : s'.program ≡ s.program
  pub words : s'.frames ≡ all_kept frames' s.frames

-- w says which backtrace there is
unfoldable pub traced_in : (w : OutRes) (s : Held) → Held
traced_in w s = record { program = s.program; stack = s.stack; cells = s.cells; copy = s.copy; trace = w.out; frames = s.frames }

-- only the backtrace store is written
pub record Tracing (w : OutRes) (frames : List Frame) (s : Held) (r : Answer) (frames' : List Frame) (s' : Held) : Type 0 where
  pub answer : r ≡ a.Traced w.answer
  pub same : frames' ≡ frames
  pub stores : s' ≡ traced_in w s

-- x says what the machine's setting now is; nothing else is written
pub record Setting (x : Result Vm Refusal) (frames : List Frame) (s : Held) (r : Answer) (frames' : List Frame) (s' : Held) : Type 0 where
  pub answer : r ≡ a.Set x
  pub same : frames' ≡ frames
  pub stores : s' ≡ s

-- the machine m is called, the image beside it; r answers, and s' is what the stores then hold
unfoldable pub Called : (m : Vm) (call : Call) (image : List ℕ) (frames : List Frame) (s : Held) (r : Answer) (frames' : List Frame) (s' : Held) → Type 0
Called m c.New image frames s r frames' s' = Making (new_machine_of m.run.on s.program frames) s r frames' s'
Called m c.Load image frames s r frames' s' = Making (load_machine_of m.run.on image s.program frames) s r frames' s'
Called m c.Begin image frames s r frames' s' = Running begins m frames s r frames' s'
Called m (c.Continue units) image frames s r frames' s' = Running (continues units) m frames s r frames' s'
Called m c.Abandon image frames s r frames' s' = Running abandons m frames s r frames' s'
Called m c.Trace image frames s r frames' s' = Tracing (backtrace_in m s.program s.stack frames s.trace) frames s r frames' s'
Called m (c.Strict b) image frames s r frames' s' = Setting (set_strict b m s.program (lent_in frames s)) frames s r frames' s'

-- a call over 256 frames that rest in words
pub record Bridged (m : Vm) (call : Call) (image : List ℕ) (s : Held) (r : Answer) (s' : Held) : Type 0 where
  pub frames : List Frame
  pub called : Called m call image (all_laid s.frames (replicate 256 no_frame)) s r frames s'
