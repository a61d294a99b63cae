-- [parts] The entries of a machine, over what a host lends: a run in parts, the backtrace, and making a machine.
use Rattle.std.specs.Prelude.{◌≡◌, Bool, true, false, ◌&&◌, ◌||◌, List, [], ◌∷◌, reverse, ℕ, zero, suc, ◌+◌, ◌-◌, ◌*◌, min, ltb, leb, eqb, length, get_or, take, if◌then◌else◌, Err, None, Ok, Option, Result, Some}
use Rattle.model.specs.declared.Counts.{Counts}
use Rattle.model.specs.declared.Run.{Run}
use Rattle.model.specs.declared.Vm.{Vm}
use Rattle.model.specs.declared.Halt.TheVariants as r
use Rattle.model.specs.declared.Frame.{Frame}
use Rattle.model.specs.Values.{places, most_places, vals}
use Rattle.model.specs.Heap.{heap_of}
use Rattle.model.specs.Programs.{function_at}
use Rattle.model.specs.Steps.{World}
use Rattle.model.specs.Runs.{Machine, standing, Progress, root, Entry, entry, Traced, trace, untraced, backtrace_of, Reply, value, continue, fault, Under, Part, ends, pauses, begin_of, continue_of, abandon_of}
use Rattle.model.specs.Stores.{Stores, world_in, functions_from}
use Rattle.model.specs.Orders.{traces, judged_by, program_ok, cells_ok, stack_ok, last_ok, frame_store_ok}
use Rattle.model.specs.Emission.{written, new_of}
use Rattle.model.specs.Loading.{OutRes, load_of}
use Rattle.model.specs.declared.Halt.{Halt}
use Rattle.model.specs.declared.Refusal.{Refusal}
use Rattle.model.specs.declared.Value.{Value}
use Rattle.model.specs.declared.Refusal.TheVariants as why
use Rattle.model.specs.Answers.{refusal_number}

-- what a host lends a machine besides the program's stores
pub record Lent : Type 0 where
  pub stack : List ℕ
  pub cells : List ℕ
  pub frames : List Frame
  pub copy : List ℕ
  pub backtrace : List ℕ

-- the places of a slice of frames
unfoldable pub frame_room : List Frame → ℕ
frame_room fs = min (length fs) most_places

-- ---- the machine that counts and stores stand for: of n frames in a slice, the root first, the last is the innermost

unfoldable pub innermost : ℕ → List Frame → Frame
innermost n fs = get_or fs (n - 1) (root 0)

unfoldable pub callers_in : ℕ → List Frame → List Frame
callers_in n fs = reverse (take (n - 1) fs)

unfoldable pub machine_in : Vm → Lent → Machine
machine_in m l = record {
  stack = vals m.stack l.stack;
  frame = innermost m.frames l.frames;
  callers = callers_in m.frames l.frames;
  heap = heap_of m.cells l.cells;
  last = m.last;
}

unfoldable pub world_of : Vm → Stores → Lent → World
world_of m s l = world_in m.program s (places 2 l.stack) (frame_room l.frames) (places 2 l.cells) m.strict

-- how far the run under way has come: the last result is that of its last root Return, if it had one
unfoldable pub progress_in : Vm → Lent → Progress
progress_in m l = record {
  answer = if eqb m.run.returns 0 then None else m.last;
  returns = m.run.returns;
  heap = heap_of m.run.mark l.cells;
  last = m.last;
}

-- the run under way; its starting stack stands in the copy store
unfoldable pub under_in : Vm → Lent → Under
under_in m l = record {
  given = m.run.given;
  start = vals m.run.saved l.copy;
  progress = progress_in m l;
  state = standing (machine_in m l) m.run.spent (m.run.given - m.run.spent);
}

-- ---- [order.machine] the good order that a run judges: the whole program's, and then the machine's cells, stack, last result and frames

unfoldable pub machine_order : Vm → Stores → Lent → Bool
machine_order m s l =
    program_ok m.program s
    && cells_ok m.program.text m.cells l.cells
    && stack_ok m.program.text (heap_of m.cells l.cells) m.stack l.stack
    && last_ok m.program.text (heap_of m.cells l.cells) m.last
    && frame_store_ok (functions_from m.program.functions 0 s) (places 2 l.stack) m.frames l.frames

unfoldable pub some_last : Option Value → Bool
some_last None = false
some_last (Some v) = true

-- [order.run] "the units spent be at most those given and the innermost position be below its code length"; what abandoning would leave, the copy's
-- values, the last result and the cells of the mark, is in order; each root Return has spent a unit, and left a last result. The numbers of units at which
-- frames were entered "are at most the units spent": the innermost is, and no other is more.
unfoldable pub under_order : Vm → Stores → Lent → Bool
under_order m s l =
    leb m.run.spent m.run.given
    && leb m.run.returns m.run.spent
    && (eqb m.run.returns 0 || some_last m.last)
    && leb m.run.mark m.cells
    && leb m.run.saved (places 2 l.stack)
    && cells_ok m.program.text m.run.mark l.cells
    && stack_ok m.program.text (heap_of m.run.mark l.cells) m.run.saved l.copy
    && last_ok m.program.text (heap_of m.run.mark l.cells) m.last
    && leb (innermost m.frames l.frames).entered m.run.spent
    && ltb (innermost m.frames l.frames).position
    (length (function_at (functions_from m.program.functions 0 s) (innermost m.frames l.frames).function).code)

-- a machine with no run under way has one form of it
unfoldable pub idle : Run → Bool
idle r = eqb r.given 0 && eqb r.spent 0 && eqb r.returns 0 && eqb r.mark 0 && eqb r.saved 0

unfoldable pub part_order : Vm → Stores → Lent → Bool
part_order m s l = if m.run.on then under_order m s l else idle m.run

unfoldable pub run_order : Vm → Stores → Lent → Bool
run_order m s l = machine_order m s l && part_order m s l

-- 17: the copy store is shorter than the stack store; the backtrace store is shorter than the frame store
unfoldable pub copy_short : Lent → Bool
copy_short l = ltb (places 2 l.copy) (places 2 l.stack)

unfoldable pub trace_short : Lent → Bool
trace_short l = ltb (places 3 l.backtrace) (frame_room l.frames)

-- ---- [begin], [continue], [abandon] as entries: 19, then 18 or 25, 17, 22, then the run

-- what a run leaves as it is in the machine: the program's counts, and the setting
pub record Unchanged : Type 0 where
  pub program : Counts
  pub strict : Bool

abbrev pub unchanged : Vm → Unchanged
unchanged m = record { program = m.program; strict = m.strict }

-- that, and what the part comes to; or a refusal
pub data RunAnswer : Type 0 where
  ran : Unchanged → Part → RunAnswer
  refused : ℕ → RunAnswer

-- the number of a refusal; 0 where there is none
unfoldable pub refusal_of : RunAnswer → ℕ
refusal_of (ran c x) = 0
refusal_of (refused n) = n

-- "25, .. beginning while one is"
unfoldable pub begin_answer : Vm → Stores → Lent → RunAnswer
begin_answer m s l =
    if run_order m s l then
    (if m.run.on then refused 25 else
    (if copy_short l then refused 17 else
    ran (unchanged m) (begin_of (world_of m s l) (machine_in m l))))
    else refused 19

-- "18, continue or abandon with no run under way .. 22, units given in all above 64 bits, nothing run"
unfoldable pub continue_answer : Vm → Stores → Lent → (units : ℕ) → RunAnswer
continue_answer m s l u =
    if run_order m s l then
    (if m.run.on then
    (if trace_short l then refused 17 else
    (if ltb 0xFFFF_FFFF_FFFF_FFFF (m.run.given + u) then refused 22 else
    ran (unchanged m) (continue_of (world_of m s l) (under_in m l) u)))
    else refused 18)
    else refused 19

unfoldable pub abandon_answer : Vm → Stores → Lent → RunAnswer
abandon_answer m s l =
    if run_order m s l then
    (if m.run.on then
    (if trace_short l then refused 17 else
    ran (unchanged m) (ends (abandon_of (world_of m s l) (under_in m l))))
    else refused 18)
    else refused 19

-- why one run by these calls, begun, continued and abandoned where it is paused, is refused where the backtrace store is long enough; 0 where it is not
unfoldable pub run_refusal : Vm → Stores → Lent → ℕ
run_refusal m s l = if run_order m s l then (if m.run.on then 25 else (if copy_short l then 17 else 0)) else 19

-- the three calls of a run
pub data RunCall : Type 0 where
  begins : RunCall
  continues : (units : ℕ) → RunCall
  abandons : RunCall

unfoldable pub run_answer : RunCall → Vm → Stores → Lent → RunAnswer
run_answer begins m s l = begin_answer m s l
run_answer (continues u) m s l = continue_answer m s l u
run_answer abandons m s l = abandon_answer m s l

-- the starting stack at the front of the copy store, and nothing past it
unfoldable pub copied : Vm → Lent → RunAnswer → List ℕ
copied m l (ran c x) = written l.copy 0 (take (2 * m.stack) l.stack)
copied m l (refused n) = l.copy

-- a beginning copies the stack; the copy then stays as it is
unfoldable pub copy_after : RunCall → Vm → Stores → Lent → List ℕ
copy_after begins m s l = copied m l (begin_answer m s l)
copy_after (continues u) m s l = l.copy
copy_after abandons m s l = l.copy

unfoldable pub entry_words : List Entry → List ℕ
entry_words [] = []
entry_words (e ∷ es) = e.function ∷ e.place ∷ e.entered ∷ entry_words es

unfoldable pub trace_of_reply : Reply → List Entry
trace_of_reply (value v t) = []
trace_of_reply (continue t) = []
trace_of_reply (fault n t es) = es

unfoldable pub trace_of_part : Part → List Entry
trace_of_part (ends x) = trace_of_reply x.reply
trace_of_part (pauses r) = []

-- the backtrace at the front of its store, and nothing past it
unfoldable pub trace_after : Lent → RunAnswer → List ℕ
trace_after l (ran c x) = written l.backtrace 0 (entry_words (trace_of_part x))
trace_after l (refused n) = l.backtrace

-- ---- what an answer stands for, with the lent stores as they then are

unfoldable pub entries_in : ℕ → ℕ → List ℕ → List Entry
entries_in zero i b = []
entries_in (suc n) i b = entry (get_or b (3 * i) 0) (get_or b (3 * i + 1) 0) (get_or b (3 * i + 2) 0) ∷ entries_in n (suc i) b

abbrev pub ended_as : Vm → Lent → Reply → RunAnswer
ended_as m l y = ran (unchanged m) (ends (record { reply = y; machine = machine_in m l }))

-- the part that a result stands for, in the stores as it left them
unfoldable pub answer_in : (left : Lent) → Result Halt Refusal → RunAnswer
answer_in l (Ok (r.Value m v n)) = ended_as m l (value v n)
answer_in l (Ok (r.Continue m n)) = ended_as m l (continue n)
answer_in l (Ok (r.Fault m k n j)) = ended_as m l (fault k n (entries_in j 0 l.backtrace))
answer_in l (Ok (r.Paused m)) = ran (unchanged m) (pauses (under_in m l))
answer_in l (Err e) = refused (refusal_number e)

-- ---- the entries in full: the answer; copy and backtrace whole; a machine in good order, in stores as long as before; a refusal changes nothing

pub record SameRooms (l l' : Lent) : Type 0 where
  pub stack : length l'.stack ≡ length l.stack
  pub cells : length l'.cells ≡ length l.cells
  pub frames : length l'.frames ≡ length l.frames

-- a machine in good order, with a run under way or not
pub record Leaves (on : Bool) (m : Vm) (s : Stores) (l : Lent) : Type 0 where
  pub order : run_order m s l ≡ true
  pub run : m.run.on ≡ on

-- what a part leaves is in good order, and only a paused run is under way; a refusal leaves the stores as they were
abbrev pub Left : Stores → (before : Lent) → Result Halt Refusal → (after : Lent) → Type 0
Left s l (Ok (r.Value m v n)) l' = Leaves false m s l'
Left s l (Ok (r.Continue m n)) l' = Leaves false m s l'
Left s l (Ok (r.Fault m k n j)) l' = Leaves false m s l'
Left s l (Ok (r.Paused m)) l' = Leaves true m s l'
Left s l (Err e) l' = l' ≡ l

-- what a call of a run promises: s and l are the program and what was lent, r is what comes back, and l' what was lent as it then is
pub record RunPost (c : RunCall) (m : Vm) (s : Stores) (l : Lent) (r : Result Halt Refusal) (l' : Lent) : Type 0 where
  pub answer : answer_in l' r ≡ run_answer c m s l
  pub copy : l'.copy ≡ copy_after c m s l
  pub backtrace : l'.backtrace ≡ trace_after l (run_answer c m s l)
  pub rooms : SameRooms l l'
  pub left : Left s l r l'

-- ---- [strict] as an entry: 19, and "25, changing the setting with a run under way", to what it is already too

unfoldable pub set_strict : (strict : Bool) → Vm → Stores → Lent → Result Vm Refusal
set_strict b m s l =
    if run_order m s l then
    (if m.run.on then Err why.RunUnderWay else
    Ok (record { program = m.program; stack = m.stack; frames = m.frames; cells = m.cells; last = m.last; run = m.run; strict = b }))
    else Err why.NotInOrder

-- ---- [backtrace] as an entry: 19, 17 where a frame has no place in the lent store, 16

-- what it judges: the functions with their codes and places, and the frames
unfoldable pub trace_order : Vm → Stores → List ℕ → List Frame → Bool
trace_order m s stack frames = judged_by traces m.program s && frame_store_ok (functions_from m.program.functions 0 s) (places 2 stack) m.frames frames

unfoldable pub put_trace : Traced → List ℕ → OutRes
put_trace (trace es) out = record { answer = Ok (length es); out = written out 0 (entry_words es) }
put_trace (untraced e) out = record { answer = Err e; out = out }

unfoldable pub backtrace_in : Vm → Stores → List ℕ → List Frame → List ℕ → OutRes
backtrace_in m s stack frames out =
    if trace_order m s stack frames then
    (if ltb (places 3 out) m.frames then record { answer = Err why.ResultTooShort; out = out } else
    put_trace (backtrace_of (functions_from m.program.functions 0 s) (innermost m.frames frames ∷ callers_in m.frames frames)) out)
    else record { answer = Err why.NotInOrder; out = out }

-- ---- [start] a machine that has not run: an empty stack, no last result, one frame: function 0, base 0, position 0, entered at 0; "not strict, as loaded"

abbrev pub no_run : Run
no_run = record { on = false; given = 0; spent = 0; returns = 0; mark = 0; saved = 0 }

unfoldable pub fresh : Counts → Vm
fresh c = record { program = c; stack = 0; frames = 1; cells = 0; last = None; run = no_run; strict = false }

pub record StartRes : Type 0 where
  pub answer : Result Vm Refusal
  pub stores : Stores
  pub frames : List Frame

-- the frame is laid with the program; a frame store without a place is refused 21, and then nothing is written
unfoldable pub start_with : Result Counts Refusal → Stores → Stores → List Frame → StartRes
start_with (Ok c) s' s [] = record { answer = Err why.StoreFull; stores = s; frames = [] }
start_with (Ok c) s' s (r ∷ rs) = record { answer = Ok (fresh c); stores = s'; frames = root 0 ∷ rs }
start_with (Err e) s' s rs = record { answer = Err e; stores = s; frames = rs }

-- "loading: 25 first": a machine with a run under way is not loaded over
unfoldable pub unless_running : (running : Bool) → Stores → List Frame → StartRes → StartRes
unless_running true s rs x = record { answer = Err why.RunUnderWay; stores = s; frames = rs }
unless_running false s rs x = x

unfoldable pub load_machine_of : (running : Bool) → List ℕ → Stores → List Frame → StartRes
load_machine_of running image s rs = unless_running running s rs (start_with (load_of image s).answer (load_of image s).stores s rs)

unfoldable pub as_loaded : Result (Counts × ℕ) Refusal → Result Counts Refusal
as_loaded (Ok (c, n)) = Ok c
as_loaded (Err e) = Err e

unfoldable pub new_machine_of : (running : Bool) → Stores → List Frame → StartRes
new_machine_of running s rs = unless_running running s rs (start_with (as_loaded (new_of s).answer) (new_of s).stores s rs)

-- all that an example computes with here
unfoldable pub computes : Type 1
unfolding frame_room innermost callers_in machine_in world_of progress_in under_in machine_order some_last under_order idle part_order run_order copy_short trace_short begin_answer continue_answer
    abandon_answer refusal_of run_refusal run_answer copied copy_after entry_words trace_of_reply trace_of_part trace_after entries_in answer_in set_strict trace_order put_trace backtrace_in fresh start_with unless_running
    load_machine_of as_loaded new_machine_of
computes = Type 0
