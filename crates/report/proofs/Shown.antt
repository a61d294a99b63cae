-- What a run left can be printed: a value's cells and a fault's backtrace lie inside their stores.
use Rattle.std.specs.Prelude.{if◌then◌else◌, Err, Ok, Result}
use mathlib.Core.Path.{◌≡◌, refl, sym, ap, ◌∙◌}
use mathlib.Core.Bool.{Bool, true, false, true≢false, ◌&&◌}
use mathlib.Core.List.{List, ◌∷◌}
use Prim.Native.Nat.{ℕ, zero, suc, ◌*◌, ◌≤◌, ◌<◌, ◌^◌}
use native.Mathlib.Omega.{arith}
use lib.Dec.{eqb, leb}
use lib.ListN.{length, replicate}
use borrow.Author.Tests.{leb-true, ltb-false}
use Rattle.model.specs.declared.Vm.{Vm}
use Rattle.model.specs.declared.Value.{Value}
use Rattle.model.specs.declared.Tally.{Tally}
use Rattle.model.specs.declared.Halt.TheVariants as r
use Rattle.model.specs.Values.{places}
use Rattle.model.specs.Heap.{heap_of, heap_ok, exact_cells}
use Rattle.model.specs.Steps.{World}
use Rattle.model.specs.Runs.{Machine, begin, root, Entry, fault, Ran, ends, run_of}
use Rattle.model.specs.Stores.{Stores, world_in}
use Rattle.model.specs.Orders.{cells_ok}
use Rattle.model.specs.Machines.{Lent, frame_room, machine_in, world_of, run_order, trace_short, run_refusal, Unchanged, unchanged, ran, refused, RunCall, run_answer, entries_in, answer_in, RunPost}
use Rattle.value.proofs.Coding.{and_left}
use Rattle.layout.proofs.Bools.{either_way}
use Rattle.laws_runs.specs.Sane.{SaneWorld, Sane}
use Rattle.laws_runs.specs.Ordered.{CodeBytes}
use Rattle.model.specs.Reports.{empty_lent}
use Rattle.laws_runs.proofs.Runs.{path_sane}
use Rattle.laws_runs.proofs.Ordered.{order_of_lem, order_world, order_sane}
use Rattle.laws_runs.proofs.Demands.{run_recovered, recovered_faults}
use Rattle.machine.proofs.Traced.{length_trace}
use Rattle.report_lines.specs.Links.{Inside, Shows}
use Rattle.report.specs.Links.{OneRun, at_once, continued, abandoned}
use Rattle.report.proofs.OneRun.{one_answer, length_after, one_run_is}
use Rattle.model.specs.declared.Halt.{Halt}
use Rattle.model.specs.declared.Refusal.{Refusal}

-- ---- a fault's backtrace has an entry for each frame, and there is room for that many

trace_short_lem : (w : World) → SaneWorld w → (m : Machine) (u : ℕ) → Sane w (begin m u) → (n : ℕ) (did : Tally) (es : List Entry) → (run_of w m u).reply ≡ fault n
    did es → length es ≤ w.frame_room
trace_short_lem w good m u h n did es e =
    let r = run_recovered w m u n did es e in
    let f = recovered_faults w good h r in
    let s = path_sane w good h r.path in
    let a : length es ≡ suc (length r.after.callers) = ap length r.traced ∙ length_trace w.functions (r.after.frame ∷ r.after.callers) in
    let b : length r.after.callers ≡ length r.at.callers = ap length f.frames.callers in
    let c = s.frames in
    omega arith

-- the runner's backtrace store has a place for each frame
pub runner_long : trace_short (empty_lent (replicate 256 (root 0))) ≡ false
unfolding trace_short places frame_room empty_lent
runner_long = refl

-- ---- a run that was not refused

module _ (m : Vm) (s : Stores) (l : Lent) where
  granted_so : eqb (run_refusal m s l) 0 ≡ true → run_order m s l ≡ true
  unfolding run_refusal
  granted_so e = either_way (run_order m s l) (λ order. order) (λ bad. absurd (true≢false (sym (rw bad at e))))

  room_for_trace : trace_short l ≡ false → 3 * frame_room l.frames ≤ length l.backtrace
  unfolding trace_short places
  room_for_trace e =
      let z : frame_room l.frames ≤ places 3 l.backtrace = ltb-false _ _ e in
      omega arith

  module _ (u : ℕ) (bytes : CodeBytes s) (long : trace_short l ≡ false) where
    -- a fault's backtrace lies inside its store
    pub run_trace : eqb (run_refusal m s l) 0 ≡ true → (n : ℕ) (k : Tally) (es : List Entry) → (run_of (world_of m s l) (machine_in m l) u).reply ≡ fault n k es
        → 3 * length es ≤ length l.backtrace
    run_trace granted n k es e =
        let ok = granted_so granted in
        let a = trace_short_lem (world_of m s l) (order_world m s l ok bytes) (machine_in m l) u (order_sane m s l ok u) n k es e in
        let b : (world_of m s l).frame_room ≡ frame_room l.frames = unfold world_of world_in in refl in
        let c = room_for_trace long in
        omega arith

-- ---- what is left

length_entries : (n i : ℕ) (b : List ℕ) → length (entries_in n i b) ≡ n
unfolding entries_in
length_entries zero i b = refl
length_entries (suc n) i b = ap suc (length_entries n (suc i) b)

cells_there : (m : Vm) (s : Stores) (l : Lent) → run_order m s l ≡ true → 2 * m.cells ≤ length l.cells
unfolding cells_ok places
cells_there m s l ok =
    let t = m.program.text in
    let n = m.cells in
    let first = leb n (places 2 l.cells) in
    let z = leb-true n (places 2 l.cells) (and_left first (exact_cells n 0 l.cells)
    (and_left (first && exact_cells n 0 l.cells) (heap_ok t (heap_of n l.cells)) (order_of_lem m s l ok).cells)) in
    omega arith

not_refused : (b : Bool) (n : ℕ) (d : Unchanged) {c : Unchanged} {x y : Ran} → ran c (ends x) ≡ (if b then ran d (ends y) else refused n) → (b ≡ true) × (x ≡ y)
not_refused true n d e = (refl, cc)
not_refused false n d e = absurd (let z : ◌≡◌ {A = ℕ} 0 1 = cc in let y : ⊥ = omega arith in y)

module _ (m : Vm) (s : Stores) (l : Lent) (u : ℕ) where
  value_in_order : {k : Vm} {v : Value} {n : Tally} {l' : Lent} → OneRun m u s l (Ok (r.Value k v n)) l' → run_order k s l' ≡ true
  value_in_order (at_once post over) = post.left.order
  value_in_order (continued begun post over) = post.left.order
  value_in_order (abandoned begun more post) = post.left.order

  -- no call makes the backtrace store longer or shorter
  kept_by : {c : RunCall} {k : Vm} {l₁ : Lent} {x : Result Halt Refusal} {l₂ : Lent} → RunPost c k s l₁ x l₂ → length l₂.backtrace ≡ length l₁.backtrace
  kept_by {c} {k} {l₁} post = ap length post.backtrace ∙ length_after l₁ (run_answer c k s l₁)

  as_long : {x : Result Halt Refusal} {l' : Lent} → OneRun m u s l x l' → length l'.backtrace ≡ length l.backtrace
  as_long (at_once post over) = kept_by post
  as_long (continued begun post over) = kept_by post ∙ kept_by begun
  as_long (abandoned begun more post) = kept_by post ∙ kept_by more ∙ kept_by begun

  module _ (bytes : CodeBytes s) (small : u ≤ 0xFFFF_FFFF_FFFF_FFFF) (long : trace_short l ≡ false) (few : length l.backtrace < 2 ^ 32) where
    -- its answer can be printed
    pub run_shows : (x : Result Halt Refusal) (l' : Lent) → OneRun m u s l x l' → Shows x l'.cells l'.backtrace
    unfolding answer_in one_answer
    run_shows x l' run = record { inside = on x run; small = omega (arith, as_long run) }
      where
        on : (x : Result Halt Refusal) → OneRun m u s l x l' → Inside x (length l'.cells) (length l'.backtrace)
        on (Ok (r.Value k v n)) run = cells_there k s l' (value_in_order run)
        on (Ok (r.Continue k n)) run = tt
        on (Ok (r.Fault k n did j)) run =
            let is = not_refused (eqb (run_refusal m s l) 0) (run_refusal m s l) (unchanged m) (one_run_is m s l long u small run) in
            let a = run_trace m s l u bytes long is.0 n did (entries_in j 0 l'.backtrace) (ap (λ (y : Ran). y.reply) (sym is.1)) in
            omega (arith, a, length_entries j 0 l'.backtrace, as_long run)
        on (Ok (r.Paused k)) run = tt
        on (Err n) run = tt
