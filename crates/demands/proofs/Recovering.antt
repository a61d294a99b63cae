-- Demand 3, over lent stores.
use mathlib.Core.Path.{◌≡◌, sym, ap, subst, ◌∙◌}
use mathlib.Core.Bool.{Bool}
use mathlib.Core.List.{List}
use Prim.Native.Nat.{ℕ, suc, ◌*◌}
use lib.ListN.{length}
use Rattle.model.specs.declared.Run.{Run}
use Rattle.model.specs.declared.Tally.{Tally}
use Rattle.model.specs.Steps.{World, State, returned}
use Rattle.model.specs.Runs.{Machine, begin, Progress, at_start, Entry, fault, Ran, recovered}
use Rattle.model.specs.Machines.{innermost, machine_in, unchanged}
use Rattle.laws_runs.specs.Paths.{Adds}
use Rattle.laws_runs.specs.Demand.{Since, Recovered}
use Rattle.laws_runs.specs.Demand as d
use Rattle.laws_runs.proofs.Adds.{step_adds}
use Rattle.laws_runs.proofs.Demands.{run_recovered, recovered_faults}
use Rattle.laws_runs.proofs.Ordered.{order_world, order_sane}
use Rattle.value.proofs.Stores.{length_vals}
use Rattle.demands.specs.Host.{Held}
use Rattle.demands.specs.Agree.{Alike, Rooms, Agree}
use Rattle.demands.specs.Meant.{world_in, machine_of, under_of, Fine, AlikeHeld}
use Rattle.demands.specs.Parts.{Over, IsOne}
use Rattle.demands.specs.Recovery.{Kept, start, return, Recovers, SetUp, Demand3}
use Rattle.demands.proofs.Fronts.{rooms_back, rooms_then}
use Rattle.demands.proofs.Fixed.{Standing, standing, counted, values_fix, idle_under, machine_fixes}
use Rattle.demands.proofs.Chains.{chains_agree}
use Rattle.demands.proofs.Parting.{over_is_one}
use Rattle.demands.proofs.Traces.{a_backtrace_tells_when_its_frames_were_entered}
use Rattle.demands.proofs.MeantChains.{chain_alike, self_alike}
use Rattle.std.specs.Prelude.{Option}
use Rattle.model.specs.declared.Value.{Value}

-- what the mark of a path kept
kept_since : {w : World} {s t : State} {k : Progress} → Since w (at_start s) s k t → Kept w s t k.last k.heap
kept_since (d.Since.start p) = start p
kept_since {w} {s = s} {t = t} (d.Since.return {q = q} {q' = q'} {v = v} p o e z) =
    let x : Adds q.heap q.last (returned v q') = subst (Adds q.heap q.last) e (step_adds w q) in
    subst (λ (b : Option Value). Kept w s t b q'.heap) (sym x.1) (return p o e z)

module _ {h k : Held} {u n : ℕ} {did : Tally} {trace : List Entry} {x : Ran} (p : IsOne h u x k) (e : x.reply ≡ fault n did trace) where
  abbrev w : World
  w = world_in h

  by_rules : Recovered w (machine_of h) u n did trace
  by_rules = run_recovered w (machine_of h) u n did trace (ap (λ (z : Ran). z.reply) (sym p.one) ∙ e)

  left_machine : machine_of k ≡ recovered w (machine_of h).stack by_rules.kept
  left_machine = p.rests.machine ∙ ap (λ (z : Ran). z.machine) p.one ∙ by_rules.leaves

  before : Standing h.vm h.lent
  before = standing h.vm h.stores h.lent p.order

  after : Standing k.vm k.lent
  after = standing k.vm k.stores k.lent p.beside.order

  same_height : k.vm.stack ≡ h.vm.stack
  unfolding machine_in recovered
  same_height = sym (length_vals k.vm.stack k.lent.stack) ∙ ap (λ (z : Machine). length z.stack) left_machine ∙ length_vals h.vm.stack h.lent.stack

  same_stack : Alike (2 * h.vm.stack) k.lent.stack h.lent.stack
  unfolding machine_in recovered
  same_stack =
      values_fix h.vm.stack k.lent.stack h.lent.stack (rw same_height at after.stack) p.beside.rooms.stack (rw same_height at after.exact.stack) before.exact.stack
      (rw same_height at (ap (λ (z : Machine). z.stack) left_machine))

  one_frame : k.vm.frames ≡ 1
  unfolding machine_in recovered
  one_frame = sym (counted k.vm.frames k.lent.frames after.exact.frames after.frames) ∙ ap (λ (z : Machine). suc (length z.callers)) left_machine

  leaves_so : Recovers h.vm h.stores h.lent u k.vm n did trace k.lent
  unfolding machine_in recovered innermost
  leaves_so = record {
    rules = by_rules;
    entered = a_backtrace_tells_when_its_frames_were_entered w by_rules;
    height = same_height;
    stack = same_stack;
    frames = one_frame;
    frame = rw one_frame at (ap (λ (z : Machine). z.frame) left_machine);
    program = p.beside.program;
    strict = p.beside.strict;
    run = p.rests.run;
    kept = subst (λ (z : Machine). Kept w (begin (machine_of h) u) by_rules.at z.last z.heap) (sym left_machine) (kept_since by_rules.since);
    leaves = left_machine;
    order = rw (← p.beside.stores) p.beside.order;
    traced = λ b. recovered_faults w (order_world h.vm h.stores h.lent p.order b) (order_sane h.vm h.stores h.lent p.order u) by_rules;
  }

-- what a run that ends in a fault, or is abandoned, leaves
pub fault_leaves : {h k : Held} {u n : ℕ} {did : Tally} {trace : List Entry} {x : Ran} → Over h u x k → x.reply ≡ fault n did trace
    → Recovers h.vm h.stores h.lent u k.vm n did trace k.lent
fault_leaves p e = leaves_so (over_is_one p) e

-- two machines that are set up so: lent stores of the same lengths
rooms_same : {x : Machine} {h k d : Held} → SetUp x h k → SetUp x h d → Rooms k.lent d.lent
rooms_same a b = rooms_then a.rooms (rooms_back b.rooms)

-- and no run under way in either
idle_both : {x : Machine} {h k d : Held} → SetUp x h k → SetUp x h d → under_of k ≡ under_of d
idle_both {k = k} {d = d} a b = idle_under k.vm d.vm k.lent d.lent a.run b.run (a.machine ∙ sym b.machine)

idle_alike : {x : Machine} {h k d : Held} → SetUp x h k → SetUp x h d → k.vm.run.on ≡ d.vm.run.on
idle_alike a b = ap (λ (r : Run). r.on) (a.run ∙ sym b.run)

-- they agree
pub set_up_agrees : {x : Machine} {h k d : Held} → SetUp x h k → SetUp x h d → Agree k d
set_up_agrees {k = k} {d = d} a b =
    let same : unchanged k.vm ≡ unchanged d.vm = rw (a.program, a.strict, b.program, b.strict) in
    let f = machine_fixes k.stores d.stores a.order b.order (rooms_same a b) same (idle_alike a b) (idle_both a b) in
    record { vm = f.vm; stores = a.stores ∙ sym b.stores; lent = f.lent }

-- and they mean the same
pub set_up_alike : (r : Bool) {x : Machine} {h k d : Held} → SetUp x h k → SetUp x h d → Fine k → Fine d → AlikeHeld r k d
set_up_alike r a b o o' = self_alike r o o' (b.program ∙ sym a.program) (b.strict ∙ sym a.strict) (b.stores ∙ sym a.stores) (rooms_same b a) (idle_alike b a) (idle_both b a)

-- DEMAND 3
pub fault_recovers : {h k : Held} {u n : ℕ} {did : Tally} {trace : List Entry} {x : Ran} → Over h u x k → x.reply ≡ fault n did trace → Demand3 u h n did trace k
fault_recovers {h} {k} p e =
    let z = over_is_one p in
    let left = leaves_so z e in
    let so : SetUp (recovered (world_in h) (machine_of h).stack left.rules.kept) h k =
    record { program = left.program; strict = left.strict; stores = z.beside.stores; rooms = z.beside.rooms; machine = left.leaves; run = left.run; order = z.beside.order } in
    record { leaves = left; later = λ a t p q. (chain_alike a (λ i. i) t p q).says; exact = λ d b cs xs ys i f c q. (chains_agree (set_up_agrees so b) c q).answers }
