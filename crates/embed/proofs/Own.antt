-- What an entry over call frames itself answers, as its judges know it: 19 where the order is not good, then 25 or 18, and no such number else. And what a
-- short record does not change of loading.
use Rattle.std.specs.Prelude.{if◌then◌else◌, Err, Ok, Result}
use mathlib.Core.Path.{◌≡◌, refl, ◌∙◌}
use mathlib.Core.Bool.{Bool, true, false}
use mathlib.Core.List.{List, [], ◌∷◌}
use Prim.Native.Nat.{ℕ, ◌+◌}
use lib.Dec.{ltb}
use Rattle.model.specs.declared.Vm.{Vm}
use Rattle.model.specs.declared.Frame.{Frame}
use Rattle.model.specs.Answers.{answer_number}
use Rattle.model.specs.Values.{places}
use Rattle.model.specs.Stores.{Stores, functions_from}
use Rattle.model.specs.Emission.{Res, done, refuse, new_of}
use Rattle.model.specs.Loading.{OutRes, load_of}
use Rattle.model.specs.Runs.{Entry, trace, untraced, trace_of, traceable, backtrace_of, Part}
use Rattle.model.specs.Machines.{Lent, run_order, copy_short, trace_short, Unchanged, RunAnswer, ran, refused as not_run, begins, continues, abandons, begin_answer, continue_answer, abandon_answer, run_answer, refusal_of}
use Rattle.model.specs.Machines.{trace_order, put_trace, innermost, callers_in, backtrace_in, start_with, unless_running, load_machine_of, as_loaded, new_machine_of}
use Rattle.embed_words.specs.Coding.{at_entry, among, Coded, unmade, unmade_told}
use Rattle.laws_embed.proofs.Says.{Says, late_says, says_itself}
use Rattle.model.specs.declared.Counts.{Counts}
use Rattle.model.specs.declared.Refusal.{Refusal}
use Rattle.model.specs.declared.Refusal.TheVariants as why

-- ---- the backtrace

-- none of the numbers that come before a short answer
abbrev Late : OutRes → Type 0
Late x = among at_entry (answer_number x.answer) ≡ false

traced : (b : Bool) (es : List Entry) (out : List ℕ) → Late (put_trace (if b then trace es else untraced why.PlaceOutsideCode) out)
unfolding put_trace among
traced true es out = refl
traced false es out = refl

short_first : (b : Bool) (x : OutRes) (out : List ℕ) → Late x → Late (if b then record { answer = Err why.ResultTooShort; out = out } else x)
unfolding among
short_first true x out p = refl
short_first false x out p = p

order_first : (g : Bool) (x : OutRes) (out : List ℕ) → Late x
    → Says (if g then 0 else 19) (answer_number (if g then x else record { answer = Err why.NotInOrder; out = out }).answer)
order_first true x out p = late_says (answer_number x.answer) p
order_first false x out p = says_itself 19

pub trace_says : (m : Vm) (s : Stores) (stack : List ℕ) (frames : List Frame) (out : List ℕ) (g : Bool) → g ≡ trace_order m s stack frames
    → Says (if g then 0 else 19) (answer_number (backtrace_in m s stack frames out).answer)
unfolding backtrace_in backtrace_of
trace_says m s stack frames out g e =
    let fs = functions_from m.program.functions 0 s in
    let rs = innermost m.frames frames ∷ callers_in m.frames frames in
    rw (← e) (order_first g _ out (short_first (ltb (places 3 out) m.frames) _ out (traced (traceable fs rs) (trace_of fs rs) out)))

-- ---- a run

-- a run is begun where none is under way
begin_by : (g on short : Bool) (c : Unchanged) (x : Part)
    → Says (if g then (if on then 25 else 0) else 19) (refusal_of (if g then (if on then not_run 25 else (if short then not_run 17 else ran c x)) else not_run 19))
unfolding refusal_of among
begin_by true true short c x = says_itself 25
begin_by true false true c x = late_says 17 refl
begin_by true false false c x = says_itself 0
begin_by false on short c x = says_itself 19

-- a run goes on or is abandoned where one is; y is what is answered then
under_by : (g on short : Bool) (y : RunAnswer) → among at_entry (refusal_of y) ≡ false
    → Says (if g then (if on then 0 else 18) else 19) (refusal_of (if g then (if on then (if short then not_run 17 else y) else not_run 18) else not_run 19))
unfolding refusal_of among
under_by true true true y p = late_says 17 refl
under_by true true false y p = late_says (refusal_of y) p
under_by true false short y p = says_itself 18
under_by false on short y p = says_itself 19

given_late : (over : Bool) (c : Unchanged) (x : Part) → among at_entry (refusal_of (if over then not_run 22 else ran c x)) ≡ false
unfolding refusal_of among
given_late true c x = refl
given_late false c x = refl

module _ (m : Vm) (s : Stores) (l : Lent) where
  pub begin_says : (g : Bool) → g ≡ run_order m s l → Says (if g then (if m.run.on then 25 else 0) else 19) (refusal_of (run_answer begins m s l))
  unfolding run_answer begin_answer
  begin_says g e = rw (← e) (begin_by g m.run.on (copy_short l) _ _)

  pub continue_says : (u : ℕ) (g : Bool) → g ≡ run_order m s l → Says (if g then (if m.run.on then 0 else 18) else 19) (refusal_of (run_answer (continues u) m s l))
  unfolding run_answer continue_answer
  continue_says u g e = rw (← e) (under_by g m.run.on (trace_short l) _ (given_late (ltb 0xFFFF_FFFF_FFFF_FFFF (m.run.given + u)) _ _))

  pub abandon_says : (g : Bool) → g ≡ run_order m s l → Says (if g then (if m.run.on then 0 else 18) else 19) (refusal_of (run_answer abandons m s l))
  unfolding run_answer abandon_answer
  abandon_says g e = rw (← e) (under_by g m.run.on (trace_short l) _ (given_late false _ _))

-- ---- making a machine

new_by : (fits : Bool) (c : Counts) (n : ℕ) (s' s : Stores) (rs : List Frame) (k : ℕ) (w a : List ℕ)
    → (let x : Res = if fits then done c n s' else refuse why.StoreFull s in record { number = k; vm = w; answer = a } ≡ unmade k (start_with (as_loaded x.answer) x.stores s rs).answer w a)
unfolding unmade_told start_with as_loaded
new_by true c n s' s [] k w a = refl
new_by true c n s' s (r ∷ rs) k w a = refl
new_by false c n s' s rs k w a = refl

-- a new machine is of no image
pub new_unmade : (s : Stores) (rs : List Frame) (k : ℕ) (w a : List ℕ) → record { number = k; vm = w; answer = a } ≡ unmade k (new_machine_of false s rs).answer w a
unfolding new_machine_of unless_running new_of
new_unmade s rs k w a = new_by _ _ _ _ s rs k w a

loaded_unmade : (x : Result Counts Refusal) (s' s : Stores) (rs : List Frame) (k : ℕ) (w a : List ℕ)
    → unmade k (start_with x s' s []).answer w a ≡ unmade k (start_with x s' s rs).answer w a
unfolding unmade_told start_with
loaded_unmade (Ok c) s' s [] k w a = refl
loaded_unmade (Ok c) s' s (r ∷ rs) k w a = refl
loaded_unmade (Err e) s' s rs k w a = refl

-- what is wrong with an image is so beside any frame store
pub load_unmade : (image : List ℕ) (s : Stores) (rs : List Frame) (k : ℕ) (w a : List ℕ) {x : Result Vm Refusal} → x ≡ (load_machine_of false image s []).answer → {c : Coded}
    → c ≡ unmade k x w a → c ≡ unmade k (load_machine_of false image s rs).answer w a
unfolding load_machine_of unless_running
load_unmade image s rs k w a ex ec = ec ∙ rw ex (loaded_unmade (load_of image s).answer (load_of image s).stores s rs k w a)
