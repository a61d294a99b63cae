-- What a machine's entries are lent, and their contracts in parts.
use Rattle.std.specs.Prelude.{◌≡◌, Bool, true, false, List, ◌∷◌, ℕ, ◌+◌, ◌-◌, ◌≤◌, ◌<◌, ◌^◌, ltb, length, get_or, if◌then◌else◌, Err, Ok, Result}
use Rattle.model.specs.declared.Counts.{Counts}
use Rattle.model.specs.declared.Vm.{Vm}
use Rattle.model.specs.declared.Frame.{Frame}
use Rattle.model.specs.Values.{places}
use Rattle.model.specs.Stores.{Stores}
use Rattle.model.specs.Orders.{traces, judged_by}
use Rattle.model.specs.Loading.{OutRes}
use Rattle.model.specs.Machines.{Lent, run_order, copy_short, trace_short, RunCall, begins, continues, abandons, StartRes}
use Rattle.frames.specs.Links.{no_frame, callers_of, trace_words, written, trace_good, TraceFits}
use Rattle.model.specs.declared.Refusal.{Refusal}
use Rattle.model.specs.declared.Refusal.TheVariants as why

-- what a run is lent besides the program's stores
unfoldable pub run_lent : List ℕ → List ℕ → List Frame → List ℕ → List ℕ → Lent
run_lent stack cells frames copy backtrace = record { stack = stack; cells = cells; frames = frames; copy = copy; backtrace = backtrace }

-- what a call of a run that is not refused has been judged for, besides its good order
abbrev pub Fits : RunCall → Vm → Lent → Type 0
Fits begins m l = (m.run.on ≡ false) × (copy_short l ≡ false)
Fits (continues u) m l = (m.run.on ≡ true) × ((trace_short l ≡ false) × (m.run.given + u < 2 ^ 64))
Fits abandons m l = (m.run.on ≡ true) × (trace_short l ≡ false)

-- a call of a run that is not refused
pub record Granted (c : RunCall) (m : Vm) (s : Stores) (l : Lent) : Type 0 where
  pub order : run_order m s l ≡ true
  pub fits : Fits c m l

-- ---- the backtrace

-- what a backtrace judges of the program
unfoldable pub trace_program : Counts → Stores → Bool
trace_program c s = judged_by traces c s

-- n frames, the innermost first
unfoldable pub frames_in : ℕ → List Frame → List Frame
frames_in n frames = get_or frames (n - 1) no_frame ∷ callers_of (n - 1) frames

-- whether there may be a backtrace of n frames, before their places are looked at: refused 19 or 17
unfoldable pub trace_refusal : Bool → ℕ → List ℕ → Result Unit Refusal
trace_refusal good n out = if good then (if ltb (places 3 out) n then Err why.ResultTooShort else Ok tt) else Err why.NotInOrder

-- the frames have room, and where their places lie inside their codes they can be read
pub record Traceable (words main other : List ℕ) (n : ℕ) (frames : List Frame) (room : ℕ) : Type 0 where
  pub some : 1 ≤ n
  pub there : n ≤ length frames
  pub fits : trace_good words (frames_in n frames) ≡ true → TraceFits words main other (get_or frames (n - 1) no_frame) (n - 1) frames room

-- the backtrace of n frames in numbers, or 16
unfoldable pub trace_into : List ℕ → List ℕ → List ℕ → ℕ → List Frame → List ℕ → OutRes
trace_into words main other n frames out =
    if trace_good words (frames_in n frames)
    then record { answer = Ok n; out = written out 0 (trace_words words main other (frames_in n frames)) }
    else record { answer = Err why.PlaceOutsideCode; out = out }

-- ---- making a machine

-- what making a machine answers beside a frame store of n places, and the other stores as they then are
pub record Makes (w : List Frame → StartRes) (n : ℕ) (r : Result Vm Refusal) (s : Stores) : Type 0 where
  pub answer : (rs : List Frame) → length rs ≡ n → r ≡ (w rs).answer
  pub stores : (rs : List Frame) → length rs ≡ n → s ≡ (w rs).stores
