-- What the runner prints: what a run of the program that was loaded answers, or why there is none.
use mathlib.Core.Path.{◌≡◌, ap, ◌∙◌}
use mathlib.Core.Bool.{Bool, true, false}
use mathlib.Core.List.{List}
use Prim.Native.Nat.{ℕ, ◌≤◌, ◌<◌, ◌^◌}
use native.Mathlib.Omega.{arith}
use lib.Dec.{eqb}
use lib.ListN.{length, get_or, replicate, length-replicate}
use borrow.Author.Tests.{lt-ltb, le-ltb}
use Rattle.model.specs.declared.Counts.{Counts}
use Rattle.model.specs.declared.Frame.{Frame}
use Rattle.model.specs.declared.Vm.{Vm}
use Rattle.model.specs.Runs.{root}
use Rattle.model.specs.Stores.{Stores}
use Rattle.model.specs.Loading.{load_of}
use Rattle.model.specs.Machines.{Lent, run_refusal, answer_in, fresh, start_with, unless_running, load_machine_of}
use Rattle.model.specs.Reports.{refused_line, report_of, empty_stores, empty_lent, started_text, started, runner_text, lister_text}
use Rattle.model.specs.Stores.{stores_of}
use Rattle.layout.specs.Lent.{program_lent, stores_in}
use Rattle.layout.specs.declared.lent.ProgramStores.{ProgramStores}
use Rattle.model.specs.Answers.{refusal_number}
use Rattle.machine.specs.Links.{run_lent}
use Rattle.layout.proofs.Bools.{either_way}
use Rattle.report_lines.specs.Links.{Shows, answer_lines, printed}
use Rattle.report.specs.Links.{image_text, OneRun, PlayPost}
use Rattle.report.proofs.Lists.{image_too_long}
use Rattle.report.proofs.OneRun.{one_answer, one_run_is}
use Rattle.report.proofs.Shown.{runner_long, run_shows}
use Rattle.std.specs.Prelude.{Err, Ok, Result}
use Rattle.model.specs.declared.Halt.{Halt}
use Rattle.model.specs.declared.Refusal.{Refusal}

-- ---- the run

abbrev runner_lent : Lent
runner_lent = empty_lent (replicate 256 (root 0))

lines_of_one : (m : Vm) (s : Stores) (l : Lent) (u : ℕ) → answer_lines (one_answer m s l u) ≡ report_of m s l u
unfolding answer_lines one_answer report_of
lines_of_one m s l u = either_way (eqb (run_refusal m s l) 0) (λ e. rw e) (λ e. rw e)

module _ (s : ProgramStores) (m : Vm) (c : Counts) (f : m ≡ fresh c) (x : Result Halt Refusal) (st ce co ba : List ℕ)
    (p : PlayPost m 1000000 (stores_in s)
    (λ frames. run_lent (replicate 2048 0) (replicate 4096 0) frames (replicate 2048 0) (replicate 768 0)) x (λ frames. run_lent st ce frames co ba)) where
  run : OneRun (fresh c) 1000000 (stores_in s) runner_lent x (run_lent st ce p.frames co ba)
  unfolding empty_lent run_lent
  run = rw f at p.run

  pub can_print : ((j : ℕ) → get_or s.main.now j 0 < 256) → ((j : ℕ) → get_or s.other.now j 0 < 256) → Shows x ce ba
  unfolding program_lent run_lent empty_lent
  can_print a b =
      let few : length {A = ℕ} (replicate 768 0) < 2 ^ 32 = omega (arith, length-replicate {A = ℕ} 768 0) in
      run_shows (fresh c) (stores_in s) runner_lent 1000000 (record { main = λ j l. a j; other = λ j l. b j }) (omega arith) runner_long few
      x (run_lent st ce p.frames co ba) run

  pub report_printed : (out : List ℕ) {r : ℕ} {out' : List ℕ}
      → ((stack : List ℕ) (frames : List Frame) (copy : List ℕ) → record { count = r; out = out' } ≡ printed
      (answer_lines (answer_in (record { stack = stack; cells = ce; frames = frames; copy = copy; backtrace = ba }) x)) out)
      → record { count = r; out = out' } ≡ printed (report_of (fresh c) (stores_in s) runner_lent 1000000) out
  unfolding run_lent
  report_printed out q =
      q st p.frames co ∙ ap (λ (b : List ℕ). printed b out)
      (ap answer_lines (one_run_is (fresh c) (stores_in s) runner_lent runner_long 1000000 (omega arith) run)
      ∙ lines_of_one (fresh c) (stores_in s) runner_lent 1000000)

-- ---- what was loaded

-- the runner's text by what loading answers
abbrev text_of : Result Counts Refusal → Stores → List ℕ
text_of a s = started (start_with a s empty_stores (replicate 256 (root 0)))

module _ (s : Stores) (out : List ℕ) {r : ℕ} {out' : List ℕ} where
  pub done_run : {a : Result Counts Refusal} {c : Counts} → a ≡ Ok c → record { count = r; out = out' } ≡ printed (report_of (fresh c) s runner_lent 1000000) out
      → record { count = r; out = out' } ≡ printed (text_of a s) out
  unfolding started started_text start_with
  done_run e p = rw e p

  pub refused_run_lem : {a : Result Counts Refusal} {e : Refusal} → a ≡ Err e → record { count = r; out = out' } ≡ printed (refused_line (refusal_number e)) out → record { count = r; out = out' } ≡ printed (text_of a s) out
  unfolding started started_text start_with
  refused_run_lem e p = rw e p

-- ---- the image

module _ (image out : List ℕ) {r : ℕ} {out' : List ℕ} where
  run_too_long : 16384 < length image → record { count = r; out = out' } ≡ printed (refused_line 22) out → record { count = r; out = out' } ≡ printed (runner_text image) out
  unfolding runner_text
  run_too_long h p = rw (lt-ltb 16384 (length image) h) p

  pub image_run : length image ≤ 16384 → (a : Result Counts Refusal) (cs ss fs tx mn mp ot op : List ℕ) → record { answer = a; stores = stores_of cs ss fs tx mn mp ot op } ≡ load_of image empty_stores
      → record { count = r; out = out' } ≡ printed (text_of a (program_lent ss cs fs tx mn mp ot op)) out → record { count = r; out = out' } ≡ printed (runner_text image) out
  unfolding runner_text load_machine_of unless_running program_lent
  image_run h a cs ss fs tx mn mp ot op e p = rw (le-ltb 16384 (length image) h, ← e) p

-- ---- run or listed

module _ (image out : List ℕ) {r : ℕ} {out' : List ℕ} where
  pub too_long : (runs : Bool) → 16384 < length image → record { count = r; out = out' } ≡ printed (refused_line 22) out → record { count = r; out = out' } ≡
      printed (image_text runs image) out
  too_long true h p = run_too_long image out h p
  too_long false h p = image_too_long image out h p

  module _ {runs : Bool} where
    pub is_run : runs ≡ true → record { count = r; out = out' } ≡ printed (runner_text image) out → record { count = r; out = out' } ≡ printed (image_text runs image) out
    is_run e p = rw e p

    pub is_listed : runs ≡ false → record { count = r; out = out' } ≡ printed (lister_text image) out → record { count = r; out = out' } ≡ printed (image_text runs image) out
    is_listed e p = rw e p
