-- A call of a run of two machines that mean the same says the same, and leaves such machines.
use Rattle.std.specs.Prelude.{if◌then◌else◌}
use mathlib.Core.Path.{◌≡◌, refl, sym, ap, subst, ◌∙◌}
use mathlib.Core.Bool.{Bool, true, false}
use Prim.Native.Nat.{ℕ, ◌+◌}
use native.Mathlib.Omega.{arith}
use lib.Dec.{ltb}
use Rattle.model.specs.declared.Counts.{Counts}
use Rattle.model.specs.declared.Vm.{Vm}
use Rattle.model.specs.Steps.{World}
use Rattle.model.specs.Runs.{begin, machine_of as machineAt, Ran, Under, Part, ends, pauses, begin_of, continue_of, abandon_of}
use Rattle.model.specs.Programs.{Program}
use Rattle.model.specs.Stores.{program_in}
use Rattle.model.specs.Stores as st
use Rattle.model.specs.Machines.{Lent, frame_room, machine_in, under_in, world_of, run_order, copy_short, trace_short, unchanged, RunAnswer, refused, RunCall, begins, continues, abandons, begin_answer, continue_answer, abandon_answer, run_answer}
use Rattle.model.specs.Machines as m
use Rattle.laws_runs.specs.Sane.{SaneWorld, Sane}
use Rattle.laws_runs.specs.Parts.{SaneUnder}
use Rattle.laws_runs.proofs.Ordered.{order_world, order_sane, order_under}
use Rattle.laws_programs.proofs.Keeping.{good_of}
use Rattle.laws_meaning.specs.Alike.{laid_out, AlikeConstants, AlikeMachine, AlikeUnder}
use Rattle.laws_meaning.specs.Answers.{meant, AlikeRan, AlikePart}
use Rattle.laws_meaning.specs.Answers as p
use Rattle.laws_meaning.proofs.Runs.{begin_alike, continue_alike, abandon_alike}
use Rattle.demands.specs.Host.{Held, Call, run, Answer, ran, RanBy}
use Rattle.demands.specs.Meant.{world_in, machine_of, under_of, layout_of, Fine, AlikeHeld, ended, said_in, says}
use Rattle.demands.proofs.Fronts.{places_alike}
use Rattle.demands.proofs.Beside.{OneProgram, functions_same}
use Rattle.demands.proofs.Constants.{constants_mean}
use Rattle.demands.proofs.Went.{same_world, Went, answers, stays, went}

-- ---- two runs

-- the answers to one call say the same, and what is then held means the same
pub record AlikeCall (r : Bool) (c : Call) (x : Answer) (h : Held) (y : Answer) (d : Held) : Type 0 where
  pub says : says c h x ≡ says c d y
  pub held : AlikeHeld r h d

state_machine : (m : Vm) (l : Lent) → machineAt (under_in m l).state ≡ machine_in m l
unfolding under_in machine_in
state_machine m l = refl

module _ {r : Bool} {h d : Held} (a : AlikeHeld r h d) where
  abbrev c : Counts
  c = h.vm.program

  pub one_program : OneProgram c h.stores d.stores
  one_program = record { ok = a.fine.order.program; ok' = rw a.counts at a.beside.order.program; same = rw a.counts at a.program; long = a.stores }

  beside_world : world_in d ≡ laid_out (layout_of d) (world_in h)
  unfolding world_of st.world_in frame_room
  beside_world = rw (a.counts, functions_same one_program, places_alike d.lent.stack h.lent.stack a.stack 2, a.frames, a.strict)

  constants_same : AlikeConstants (world_in h) (layout_of d)
  unfolding world_of st.world_in program_in
  constants_same =
      let g = good_of c h.stores one_program.ok in
      let g' = good_of c d.stores one_program.ok' in
      rw a.counts (constants_mean c h.stores.text d.stores.text h.stores.constants d.stores.constants g.text g'.text g.constants
      g'.constants (ap (λ (p : Program). p.constants) one_program.same))

  pub sane : (u : ℕ) → Sane (world_in h) (begin (machine_of h) u)
  sane u = order_sane h.vm h.stores h.lent a.fine.order.machine u

  pub beside_sane : (u : ℕ) → Sane (laid_out (layout_of d) (world_in h)) (begin (machine_of d) u)
  beside_sane u = subst (λ (x : World). Sane x (begin (machine_of d) u)) beside_world (order_sane d.vm d.stores d.lent a.beside.order.machine u)

  -- ---- by the rules

  abbrev w : World
  w = world_in h

  good : SaneWorld w
  good = order_world h.vm h.stores h.lent a.fine.order.machine a.fine.code

  good' : SaneWorld (laid_out (layout_of d) w)
  good' = subst SaneWorld beside_world (order_world d.vm d.stores d.lent a.beside.order.machine a.beside.code)

  begun_alike : AlikePart w (layout_of d) (begin_of w (machine_of h)) (begin_of (world_in d) (machine_of d))
  begun_alike =
      subst (λ (v : World). AlikePart w (layout_of d) (begin_of w (machine_of h)) (begin_of v (machine_of d))) (sym beside_world)
      (begin_alike w (layout_of d) good good' constants_same (machine_of h) (machine_of d) (sane 0) (beside_sane 0) a.machine)

  module _ (on : h.vm.run.on ≡ true) where
    here : SaneUnder w (under_of h)
    here = order_under h.vm h.stores h.lent a.fine.order.machine on

    there : SaneUnder (laid_out (layout_of d) w) (under_of d)
    there = subst (λ (v : World). SaneUnder v (under_of d)) beside_world (order_under d.vm d.stores d.lent a.beside.order.machine (a.on ∙ on))

    continued_alike : (u : ℕ) → AlikePart w (layout_of d) (continue_of w (under_of h) u) (continue_of (world_in d) (under_of d) u)
    continued_alike u =
        subst (λ (v : World). AlikePart w (layout_of d) (continue_of w (under_of h) u) (continue_of v (under_of d) u)) (sym beside_world)
        (continue_alike w (layout_of d) good good' constants_same (under_of h) (under_of d) here there (a.under on) u)

    abandoned_alike : AlikePart w (layout_of d) (ends (abandon_of w (under_of h))) (ends (abandon_of (world_in d) (under_of d)))
    abandoned_alike =
        subst (λ (v : World). AlikePart w (layout_of d) (ends (abandon_of w (under_of h))) (ends (abandon_of v (under_of d)))) (sym beside_world)
        (p.ends (abandon_alike w (layout_of d) good good' constants_same (under_of h) (under_of d) here there (a.under on)))

    given_same : d.vm.run.given ≡ h.vm.run.given
    unfolding under_in
    given_same = (a.under on).given

  -- ---- as entries

  order_same : run_order d.vm d.stores d.lent ≡ run_order h.vm h.stores h.lent
  order_same = a.beside.order.machine ∙ sym a.fine.order.machine

  copy_short_same : copy_short d.lent ≡ copy_short h.lent
  unfolding copy_short
  copy_short_same = rw (places_alike d.lent.copy h.lent.copy a.copy 2, places_alike d.lent.stack h.lent.stack a.stack 2)

  trace_short_same : trace_short d.lent ≡ trace_short h.lent
  unfolding trace_short frame_room
  trace_short_same = rw (places_alike d.lent.backtrace h.lent.backtrace a.backtrace 3, a.frames)

  -- both are refused by one number, or come to parts that mean the same
  data AlikeAnswers : RunAnswer → RunAnswer → Type 0 where
    both_refused : (n : ℕ) → AlikeAnswers (refused n) (refused n)
    both_ran : {x x' : Part} → AlikePart w (layout_of d) x x' → AlikeAnswers (m.ran (unchanged h.vm) x) (m.ran (unchanged d.vm) x')

  alike_if : (b b' : Bool) → b' ≡ b → {x y x' y' : RunAnswer} → (b ≡ true → AlikeAnswers x x') → (b ≡ false → AlikeAnswers y y') → AlikeAnswers (if b then x else y) (if b' then x' else y')
  alike_if true true e f g = f refl
  alike_if true false e f g = absurd (let z : ◌≡◌ {A = ℕ} 0 1 = cc in let y : ⊥ = omega arith in y)
  alike_if false true e f g = absurd (let z : ◌≡◌ {A = ℕ} 0 1 = cc in let y : ⊥ = omega arith in y)
  alike_if false false e f g = g refl

  answers_alike : (c : RunCall) → AlikeAnswers (run_answer c h.vm h.stores h.lent) (run_answer c d.vm d.stores d.lent)
  unfolding run_answer begin_answer continue_answer abandon_answer
  answers_alike begins =
      alike_if _ _ order_same (λ _. alike_if _ _ a.on (λ _. both_refused 25) (λ _. alike_if _ _ copy_short_same (λ _. both_refused 17) (λ _. both_ran begun_alike))) (λ _. both_refused 19)
  answers_alike (continues u) =
      alike_if _ _ order_same (λ _. alike_if _ _ a.on (λ on. alike_if _ _ trace_short_same (λ _. both_refused 17) (λ _.
      alike_if _ _ (ap (λ (g : ℕ). ltb 0xFFFF_FFFF_FFFF_FFFF (g + u)) (given_same on)) (λ _. both_refused 22) (λ _. both_ran (continued_alike on u))))
      (λ _. both_refused 18)) (λ _. both_refused 19)
  answers_alike abandons =
      alike_if _ _ order_same (λ _. alike_if _ _ a.on (λ on. alike_if _ _ trace_short_same (λ _. both_refused 17) (λ _. both_ran (abandoned_alike on)))
      (λ _. both_refused 18)) (λ _. both_refused 19)

  -- ---- what is then held, and said

  module _ {h' d' : Held} {q q' : Part} (p : Went h q h') (p' : Went d q' d') where
    one : world_in h' ≡ world_in h
    one = same_world h h' p.program p.strict p.stores p.rooms

    other : world_in d' ≡ world_in d
    other = same_world d d' p'.program p'.strict p'.stores p'.rooms

  module _ {h' d' : Held} (o : Fine h') (o' : Fine d') where
    held_alike : {q q' : Part} → Went h q h' → Went d q' d' → AlikeMachine (world_in h') (layout_of d') (machine_of h') (machine_of d') → d'.vm.run.on ≡ h'.vm.run.on
        → (h'.vm.run.on ≡ true → AlikeUnder (world_in h') (layout_of d') (under_of h') (under_of d')) → AlikeHeld r h' d'
    held_alike p q same on under = record {
      counts = q.program ∙ a.counts ∙ sym p.program;
      program = rw (p.program, p.stores, q.program, q.stores) a.program;
      stores = rw (p.stores, q.stores) a.stores;
      strict = q.strict ∙ a.strict ∙ sym p.strict;
      machine = same;
      on = on;
      under = under;
      stack = q.rooms.stack ∙ a.stack ∙ sym p.rooms.stack;
      frames = q.rooms.frames ∙ a.frames ∙ sym p.rooms.frames;
      copy = q.rooms.copy ∙ a.copy ∙ sym p.rooms.copy;
      backtrace = q.rooms.backtrace ∙ a.backtrace ∙ sym p.rooms.backtrace;
      cells = λ e. q.rooms.cells ∙ a.cells e ∙ sym p.rooms.cells;
      fine = o;
      beside = o';
    }

  module _ (c : RunCall) {h' d' : Held} {x y : Answer} (o : Fine h') (o' : Fine d') where
    over_alike : {z z' : Ran} → x ≡ ran (m.ran (unchanged h.vm) (ends z)) → y ≡ ran (m.ran (unchanged d.vm) (ends z')) → AlikeRan w (layout_of d) z z'
        → Went h (ends z) h' → Went d (ends z') d' → AlikeCall r (run c) x h' y d'
    unfolding says said_in meant
    over_alike e e' k p q =
        let idle : h'.vm.run.on ≡ false = ap (λ (v : _). v.on) p.stands.run in
        record {
          says = rw (e, e', one p q, other p q, p.stands.machine, q.stands.machine) (ap ended k.answer);
          held = held_alike o o' p q (rw (one p q, other p q, p.stands.machine, q.stands.machine) k.machine) (ap (λ (v : _). v.on) q.stands.run ∙ sym idle)
              (λ on. absurd (let f : ◌≡◌ {A = Bool} true false = sym on ∙ idle in let n : ◌≡◌ {A = ℕ} 0 1 = cc in let b : ⊥ = omega arith in b));
        }

    waiting_alike : {z z' : Under} → x ≡ ran (m.ran (unchanged h.vm) (pauses z)) → y ≡ ran (m.ran (unchanged d.vm) (pauses z')) → AlikeUnder w (layout_of d) z z'
        → Went h (pauses z) h' → Went d (pauses z') d' → AlikeCall r (run c) x h' y d'
    unfolding says said_in
    waiting_alike e e' k p q =
        let under : AlikeUnder (world_in h') (layout_of d') (under_of h') (under_of d') = rw (one p q, other p q, p.stands.under, q.stands.under) k in
        record {
          says = rw (e, e', k.given, k.state.spent, k.marks.returns);
          held = held_alike o o' p q (rw (state_machine h'.vm h'.lent, state_machine d'.vm d'.lent) at under.state.machine) (q.stands.on ∙ sym p.stands.on) (λ _. under);
        }

    parts_alike : {z z' : Part} → x ≡ ran (m.ran (unchanged h.vm) z) → y ≡ ran (m.ran (unchanged d.vm) z') → AlikePart w (layout_of d) z z'
        → Went h z h' → Went d z' d' → AlikeCall r (run c) x h' y d'
    parts_alike e e' (p.ends k) p q = over_alike e e' k p q
    parts_alike e e' (p.pauses k) p q = waiting_alike e e' k p q

    refused_alike : (n : ℕ) → x ≡ ran (refused n) → y ≡ ran (refused n) → h' ≡ h → d' ≡ d → AlikeCall r (run c) x h' y d'
    unfolding says said_in
    refused_alike n e e' p q = record { says = rw (e, e'); held = rw (p, q) a }

    said_by : RanBy c h x h' → RanBy c d y d' → {b b' : RunAnswer} → run_answer c h.vm h.stores h.lent ≡ b → run_answer c d.vm d.stores d.lent ≡ b' → AlikeAnswers b b'
        → AlikeCall r (run c) x h' y d'
    said_by p q e e' (both_refused n) = refused_alike n (answers p ∙ ap ran e) (answers q ∙ ap ran e') (stays p n e) (stays q n e')
    said_by p q e e' (both_ran k) = parts_alike (answers p ∙ ap ran e) (answers q ∙ ap ran e') k (went p e) (went q e')

    pub run_said : RanBy c h x h' → RanBy c d y d' → AlikeCall r (run c) x h' y d'
    run_said p q = said_by p q refl refl (answers_alike c)
