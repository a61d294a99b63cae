-- What a call over frames leaves, from what the machine's entry says of it.
use mathlib.Core.Path.{◌≡◌, refl, ap}
use mathlib.Core.Bool.{Bool}
use mathlib.Core.List.{List}
use Prim.Native.Nat.{ℕ}
use Rattle.model.specs.declared.Vm.{Vm}
use Rattle.model.specs.declared.Frame.{Frame}
use Rattle.model.specs.Stores.{Stores}
use Rattle.model.specs.Loading.{OutRes}
use Rattle.model.specs.Machines.{StartRes, RunCall, begins, continues, abandons, RunPost, set_strict, new_machine_of, load_machine_of, backtrace_in}
use Rattle.layout.specs.Links.{names_lent}
use Rattle.run_ends.specs.Links.{program_lent}
use Rattle.machine.specs.Links.{run_lent}
use Rattle.console_frames.specs.declared.Call.TheVariants.{New, Load, Begin, Continue, Abandon, Trace, Strict}
use Rattle.console_frames.specs.declared.Answer.TheVariants.{Made, Ran, Traced, Set}
use Rattle.console_frames.specs.Resting.{all_kept}
use Rattle.console_frames.specs.Calls.{Held, held, made_in, Making, lent_in, Running, traced_in, Tracing, Called}
use Rattle.std.specs.Prelude.{Result}
use Rattle.model.specs.declared.Halt.{Halt}
use Rattle.model.specs.declared.Refusal.{Refusal}

making : (w : StartRes) (s : Held) {x : Result Vm Refusal} {p : Stores} {fs' : List Frame} → record { answer = x; stores = p; frames = fs' } ≡ w
    → {words' : List ℕ} → words' ≡ all_kept fs' s.frames → Making w s (Made x) fs' (held p s.stack s.cells s.copy s.trace words')
unfolding made_in
making w s e ek = rw (← e) (record { answer = refl; frames = refl; stores = rw ek })

tracing : (w : OutRes) (fs : List Frame) (s : Held) {x : Result ℕ Refusal} {out : List ℕ} → record { answer = x; out = out } ≡ w
    → Tracing w fs s (Traced x) fs (held s.program s.stack s.cells s.copy out s.frames)
unfolding traced_in
tracing w fs s e = rw (← e) (record { answer = refl; same = refl; stores = refl })

module _ (m : Vm) (image : List ℕ) (p : Stores) (stack cells copy trace words : List ℕ) (fs : List Frame) where
  abbrev before : Held
  before = held p stack cells copy trace words

  pub new_called : (functions' text' : List ℕ) {x : Result Vm Refusal} {fs' : List Frame}
      → ((rest : Stores) → record { answer = x; stores = names_lent rest functions' text'; frames = fs' } ≡ new_machine_of m.run.on (names_lent rest p.functions p.text) fs)
      → {words' : List ℕ} → words' ≡ all_kept fs' words
      → Called m New image fs before (Made x) fs' (held (names_lent p functions' text') stack cells copy trace words')
  unfolding Called names_lent
  new_called functions' text' e ek = making (new_machine_of m.run.on p fs) before (e p) ek

  pub load_called : {p' : Stores} {x : Result Vm Refusal} {fs' : List Frame} → record { answer = x; stores = p'; frames = fs' } ≡ load_machine_of m.run.on image p fs
      → {words' : List ℕ} → words' ≡ all_kept fs' words
      → Called m Load image fs before (Made x) fs' (held p' stack cells copy trace words')
  unfolding Called
  load_called e ek = making (load_machine_of m.run.on image p fs) before e ek

  running : (call : RunCall) (stack' cells' : List ℕ) (fs' : List Frame) (copy' trace' : List ℕ) {x : Result Halt Refusal}
      → RunPost call m p (run_lent stack cells fs copy trace) x (run_lent stack' cells' fs' copy' trace')
      → {words' : List ℕ} → words' ≡ all_kept fs' words
      → Running call m fs before (Ran x) fs' (held p stack' cells' copy' trace' words')
  unfolding run_lent lent_in
  running call stack' cells' fs' copy' trace' {x} post ek = record { result = x; answer = refl; post = post; program = refl; words = ek }

  -- a beginning is lent no backtrace store: this one is as any other
  pub begin_called : (fs' : List Frame) (copy' : List ℕ) {x : Result Halt Refusal}
      → ((backtrace : List ℕ) → RunPost begins m p (run_lent stack cells fs copy backtrace) x (run_lent stack cells fs' copy' backtrace))
      → {words' : List ℕ} → words' ≡ all_kept fs' words
      → Called m Begin image fs before (Ran x) fs' (held p stack cells copy' trace words')
  unfolding Called
  begin_called fs' copy' post ek = running begins stack cells fs' copy' trace (post trace) ek

  pub continue_called : (units : ℕ) (stack' cells' : List ℕ) (fs' : List Frame) (trace' : List ℕ) {x : Result Halt Refusal}
      → RunPost (continues units) m p (run_lent stack cells fs copy trace) x (run_lent stack' cells' fs' copy trace')
      → {words' : List ℕ} → words' ≡ all_kept fs' words
      → Called m (Continue units) image fs before (Ran x) fs' (held p stack' cells' copy trace' words')
  unfolding Called
  continue_called units stack' cells' fs' trace' post ek = running (continues units) stack' cells' fs' copy trace' post ek

  pub abandon_called : (stack' : List ℕ) (fs' : List Frame) (trace' : List ℕ) {x : Result Halt Refusal}
      → RunPost abandons m p (run_lent stack cells fs copy trace) x (run_lent stack' cells fs' copy trace')
      → {words' : List ℕ} → words' ≡ all_kept fs' words
      → Called m Abandon image fs before (Ran x) fs' (held p stack' cells copy trace' words')
  unfolding Called
  abandon_called stack' fs' trace' post ek = running abandons stack' cells fs' copy trace' post ek

  pub trace_called : {trace' : List ℕ} {x : Result ℕ Refusal}
      → ((structs constants : List ℕ) → record { answer = x; out = trace' } ≡ backtrace_in m
      (program_lent structs constants p.functions p.text p.main p.main_places p.other p.other_places) stack fs trace)
      → Called m Trace image fs before (Traced x) fs (held p stack cells copy trace' words)
  unfolding Called program_lent
  trace_called e = tracing (backtrace_in m p stack fs trace) fs before (e p.structs p.constants)

  -- no backtrace store is lent: this one is as any other
  pub strict_called : (b : Bool) {x : Result Vm Refusal}
      → ((backtrace : List ℕ) → x ≡ set_strict b m p (run_lent stack cells fs copy backtrace))
      → Called m (Strict b) image fs before (Set x) fs before
  unfolding Called run_lent lent_in
  strict_called b e = record { answer = ap Set (e trace); same = refl; stores = refl }
