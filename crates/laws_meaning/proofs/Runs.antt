-- A run of two machines that mean the same: the same answer by meaning, and machines that mean the same again, after a fault too.
use Rattle.std.specs.Prelude.{Option}
use mathlib.Core.Path.{◌≡◌, refl, sym, ap, subst, ◌∙◌}
use mathlib.Core.Bool.{Bool, true, false}
use mathlib.Core.List.{List, ◌∷◌, map}
use Prim.Native.Nat.{ℕ, zero, suc, ◌+◌}
use lib.ListN.{length}
use Rattle.model.specs.declared.Value.{Value}
use Rattle.model.specs.declared.Fault.{Fault}
use Rattle.model.specs.declared.Tally.{Tally}
use Rattle.model.specs.Values.{fault_number}
use Rattle.model.specs.Heap.{Cell, heap_ok}
use Rattle.model.specs.Steps.{World, State, Outcome, code_of}
use Rattle.model.specs.Runs.{Machine, unentered, begin, Progress, at_start, Ended, ended, stopped, paused, over, next, turn, run_for, end_from, end_of, machine_of, trace_of, fault, tally, answered, cut_at, recovered, Under, Part, part_of, begin_of, continue_of, abandon_of, given_up, run_of}
use Rattle.cells.proofs.Meaning.{meaning_kept}
use Rattle.laws_runs.specs.Sane.{SaneWorld, Sane, SaneMark, Kept}
use Rattle.laws_runs.specs.Paths.{Grows, Adds, By, Marked, more}
use Rattle.laws_runs.specs.Parts.{SaneUnder, SanePart}
use Rattle.laws_runs.proofs.Adds.{step_adds}
use Rattle.laws_runs.proofs.Paths.{run_by, marked, mark_grows}
use Rattle.laws_runs.proofs.Keeps.{step_keeps}
use Rattle.laws_runs.proofs.Runs.{any_units, mark_sane, first_part_sane}
use Rattle.laws_meaning.specs.Alike.{AlikeValue, AlikeValues, AlikeLast, nothing, is, Layout, laid_out, AlikeConstants, AlikeMachine, AlikeState, AlikeMark, Answers, not_yet, latest, AlikeUnder, AlikeOutcome, goes, returns, faults, runs_short, Both}
use Rattle.laws_meaning.specs.Answers.{meant_in, meant, AlikeRan, AlikePart, ends, pauses}
use Rattle.laws_meaning.proofs.Values.{Boths, boths_of, values_on}
use Rattle.laws_meaning.proofs.Steps.{step_alike}

-- ---- the ends of two runs

data AlikeEnded (w : World) (lay : Layout) : Ended → Ended → Type 0 where
  over_both : {k k' : Progress} {s s' : State} → AlikeLast w.text lay.text s.heap s'.heap k.answer k'.answer → k.returns ≡ k'.returns → AlikeState w lay s s'
      → AlikeEnded w lay (ended k s) (ended k' s')
  stops : {i i' : Fault} {s s' : State} {k k' : Progress} → fault_number i ≡ fault_number i' → AlikeState w lay s s' → AlikeMark w lay k k' → AlikeEnded w lay (stopped i s k) (stopped i' s' k')
  waits : {s s' : State} {k k' : Progress} → AlikeState w lay s s' → AlikeMark w lay k k' → Answers s s' k.answer k'.answer → AlikeEnded w lay (paused k s) (paused k' s')

pub record Running (w : World) (lay : Layout) (k k' : Progress) (s s' : State) : Type 0 where
  pub alike : AlikeState w lay s s'
  pub left : Sane w s
  pub right : Sane (laid_out lay w) s'
  pub answers : Answers s s' k.answer k'.answer
  pub marks : AlikeMark w lay k k'

-- cells behind both heaps change no meaning
grown_alike : {t t' : List ℕ} {H H' K K' : List Cell} → heap_ok (length t) H ≡ true → heap_ok (length t') H' ≡ true → Grows H K → Grows H' K' → (x x' : Value)
    → Both t t' H H' x x' → AlikeValue t t' K K' x x'
grown_alike {t} {t'} {H} {H'} e e' g g' x x' b = rw (g.is, g'.is) (meaning_kept t H g.more e x b.left ∙ b.alike ∙ sym (meaning_kept t' H' g'.more e' x' b.right))

-- the cells of the mark are at the front of those of any later one
abbrev GrowsTo : List Cell → Ended → Type 0
GrowsTo H (ended k t) = Unit
GrowsTo H (stopped n t k) = Grows H k.heap
GrowsTo H (paused k t) = Grows H k.heap

marks_grow : (w : World) (m : Progress) (s : State) → Marked m s → (e : Ended) → By w m s e → GrowsTo m.heap e
marks_grow w m s g (ended k t) r = tt
marks_grow w m s g (stopped n t k) r = mark_grows w g r.path
marks_grow w m s g (paused k t) r = mark_grows w g r.path

module _ (w : World) (lay : Layout) (good : SaneWorld w) (beside-good : SaneWorld (laid_out lay w)) (same_constants : AlikeConstants w lay) where
  answer_alike : {l l' : Option Value} {s s' : State} → AlikeState w lay s s' → Answers s s' l l' → AlikeLast w.text lay.text s.heap s'.heap l l'
  answer_alike a (not_yet q q') = rw (q, q') nothing
  answer_alike a (latest q q') = rw (q, q') a.machine.last

  still : {l l' : Option Value} {s s' t t' : State} → t.last ≡ s.last → t'.last ≡ s'.last → Answers s s' l l' → Answers t t' l l'
  still p p' (not_yet q q') = not_yet q q'
  still p p' (latest q q') = latest (q ∙ sym p) (q' ∙ sym p')

  over_alike : (s s' : State) → AlikeState w lay s s' → over w s ≡ over (laid_out lay w) s'
  unfolding over code_of
  over_alike s s' a = rw a.machine.frame

  -- two ways to go on that end alike
  module _ (k k' : Progress → State → Ended) (on : (m m' : Progress) (s s' : State) → Running w lay m m' s s' → AlikeEnded w lay (k m s) (k' m' s')) where
    next_alike : {m m' : Progress} {s s' : State} {x x' : Outcome} → AlikeState w lay s s' → Answers s s' m.answer m'.answer → AlikeMark w lay m m' → AlikeOutcome w lay x x' → Kept w s x → Kept (laid_out lay w) s' x'
        → Adds s.heap s.last x → Adds s'.heap s'.last x' → AlikeEnded w lay (next k m s x) (next k' m' s' x')
    unfolding next
    next_alike q c z (goes a) h h' d d' = on _ _ _ _ (record { alike = a; left = h; right = h'; answers = still d.1 d'.1 c; marks = z })
    next_alike q c z (returns b a) h h' d d' = on _ _ _ _ (record {
      alike = a;
      left = h.sane;
      right = h'.sane;
      answers = latest (sym d.1) (sym d'.1);
      marks = record { last = a.machine.last; free = a.machine.free; returns = ap suc z.returns };
    })
    next_alike q c z (faults e a) h h' d d' = stops e a z
    next_alike q c z runs_short h h' d d' = waits q z c

    turn_alike : (m m' : Progress) (s s' : State) → Running w lay m m' s s' → (b : Bool) → over w s ≡ b → AlikeEnded w lay (turn w k b m s) (turn (laid_out lay w) k' b m' s')
    unfolding turn
    turn_alike m m' s s' r true o = over_both (answer_alike r.alike r.answers) r.marks.returns r.alike
    turn_alike m m' s s' r false o =
        next_alike r.alike r.answers r.marks (step_alike w lay good beside-good same_constants s s' r.left r.right r.alike) (step_keeps w s good r.left o)
        (step_keeps (laid_out lay w) s' beside-good r.right (sym (over_alike s s' r.alike) ∙ o)) (step_adds w s) (step_adds (laid_out lay w) s')

  turns_alike : (j : ℕ) (m m' : Progress) (s s' : State) → Running w lay m m' s s' → AlikeEnded w lay (run_for w j m s) (run_for (laid_out lay w) j m' s')
  unfolding run_for
  turns_alike zero m m' s s' r = waits r.alike r.marks r.answers
  turns_alike (suc j) m m' s s' r =
      rw (← over_alike s s' r.alike) (turn_alike (run_for w j) (run_for (laid_out lay w) j) (turns_alike j) m m' s s' r (over w s) refl)

  -- ---- parts of runs

  answered_alike : {l l' : Option Value} {H H' : List Cell} (j : Tally) → AlikeLast w.text lay.text H H' l l' → meant_in w.text H (answered l j) ≡ meant_in lay.text H' (answered l' j)
  unfolding meant_in answered
  answered_alike j nothing = refl
  answered_alike j (is b) = rw b

  -- two runs that have come as far as m and m', and stand at s and s'; their starting stacks stand in the cells of their marks
  module _ {m m' : Progress} {s s' : State} {vs vs' : List Value} (r : Running w lay m m' s s') (mark : SaneMark w m) (mark' : SaneMark (laid_out lay w) m')
      (front : Marked m s) (front' : Marked m' s') (start : Boths w.text lay.text m.heap m'.heap vs vs') where
    start_on : {H H' : List Cell} → Grows m.heap H → Grows m'.heap H' → AlikeValues w.text lay.text H H' vs vs'
    start_on g g' = values_on (grown_alike mark.heap mark'.heap g g') start

    -- what is left where both go back to marks that mean the same
    recovered_alike : {k k' : Progress} → AlikeMark w lay k k' → AlikeValues w.text lay.text k.heap k'.heap vs vs'
        → AlikeMachine w lay (recovered w vs k) (recovered (laid_out lay w) vs' k')
    unfolding recovered
    recovered_alike k b = record { stack = b; last = k.last; frame = refl; callers = refl; free = k.free }

    ended_alike : (k k' : Progress) {t t' : State} → AlikeLast w.text lay.text t.heap t'.heap k.answer k'.answer → k.returns ≡ k'.returns → AlikeState w lay t t'
        → AlikeRan w lay (record { reply = answered k.answer (tally t.spent k); machine = machine_of t })
        (record { reply = answered k'.answer (tally t'.spent k'); machine = machine_of t' })
    unfolding meant
    ended_alike k k' b c a = record { answer = rw (a.spent, c) (answered_alike _ b); machine = a.machine }

    stopped_alike : (i i' : Fault) {k k' : Progress} {t t' : State} → fault_number i ≡ fault_number i' → AlikeState w lay t t' → AlikeMark w lay k k'
        → AlikeValues w.text lay.text k.heap k'.heap vs vs'
        → AlikeRan w lay (record { reply = fault (fault_number i) (tally t.spent k) (trace_of w.functions (t.frame ∷ t.callers)); machine = recovered w vs k })
        (record { reply = fault (fault_number i') (tally t'.spent k') (trace_of w.functions (t'.frame ∷ t'.callers)); machine = recovered (laid_out lay w) vs' k' })
    unfolding meant meant_in
    stopped_alike i i' e b k c = record {
      answer = rw (e, b.spent, k.returns, b.machine.frame, b.machine.callers);
      machine = recovered_alike k c;
    }

    came_alike : (g : ℕ) {x x' : Ended} → AlikeEnded w lay x x' → GrowsTo m.heap x → GrowsTo m'.heap x' → AlikePart w lay (part_of w vs g x) (part_of (laid_out lay w) vs' g x')
    unfolding part_of
    came_alike g (over_both {k = k} {k' = k'} b c a) q q' = ends (ended_alike k k' b c a)
    came_alike g (stops {i = i} {i' = i'} e b k) q q' = ends (stopped_alike i i' e b k (start_on q q'))
    came_alike g (waits b k c) q q' = pauses (record { given = refl; state = b; start = start_on q q'; marks = k; answers = c })

    pub part_alike : (g : ℕ) → AlikePart w lay (part_of w vs g (end_from w m s)) (part_of (laid_out lay w) vs' g (end_from (laid_out lay w) m' s'))
    unfolding end_from
    part_alike g =
        came_alike g
        (subst (λ (j : ℕ). AlikeEnded w lay (end_from w m s) (run_for (laid_out lay w) (suc j) m' s')) (sym r.alike.units) (turns_alike (suc s.units) m m' s s' r))
        (marks_grow w m s front (end_from w m s) (run_by w m s))
        (marks_grow (laid_out lay w) m' s' front' (end_from (laid_out lay w) m' s') (run_by (laid_out lay w) m' s'))

  -- ---- a beginning, a continuing, an abandoning

  -- machines do not have units, and when their frames were entered is 0 for all
  started : {m m' : Machine} (u : ℕ) → AlikeMachine w lay m m' → AlikeState w lay (begin m u) (begin m' u)
  started u a = record {
    machine = record { stack = a.stack; last = a.last; frame = ap unentered a.frame; callers = ap (map unentered) a.callers; free = a.free };
    spent = refl;
    units = refl;
  }

  running : {m m' : Machine} (u : ℕ) → Sane w (begin m u) → Sane (laid_out lay w) (begin m' u) → AlikeMachine w lay m m'
      → Running w lay (at_start (begin m u)) (at_start (begin m' u)) (begin m u) (begin m' u)
  running u h h' a = record { alike = started u a; left = h; right = h'; answers = not_yet refl refl; marks = record { last = a.last; free = a.free; returns = refl } }

  pub begin_alike : (m m' : Machine) → Sane w (begin m 0) → Sane (laid_out lay w) (begin m' 0) → AlikeMachine w lay m m' → AlikePart w lay (begin_of w m) (begin_of (laid_out lay w) m')
  unfolding begin_of end_of
  begin_alike m m' h h' a =
      part_alike (running 0 h h' a) (mark_sane h) (mark_sane h') (marked (begin m 0)) (marked (begin m' 0)) (boths_of a.stack h.placed h'.placed) 0

  module _ (r r' : Under) (h : SaneUnder w r) (h' : SaneUnder (laid_out lay w) r') (a : AlikeUnder w lay r r') where
    starts : Boths w.text lay.text r.progress.heap r'.progress.heap r.start r'.start
    starts = boths_of a.start h.placed h'.placed

    given_more : (u : ℕ) → Running w lay r.progress r'.progress (more u r.state) (more u r'.state)
    given_more u = record {
      alike = record { machine = a.state.machine; spent = a.state.spent; units = rw a.state.units };
      left = any_units r.state h.state;
      right = any_units r'.state h'.state;
      answers = still refl refl a.answers;
      marks = a.marks;
    }

    pub continue_alike : (u : ℕ) → AlikePart w lay (continue_of w r u) (continue_of (laid_out lay w) r' u)
    unfolding continue_of
    continue_alike u =
        rw a.given
        (part_alike (given_more u) h.mark h'.mark (record { last = h.marked.last; heap = h.marked.heap }) (record { last = h'.marked.last; heap = h'.marked.heap }) starts (r.given + u))

    pub abandon_alike : AlikeRan w lay (abandon_of w r) (abandon_of (laid_out lay w) r')
    unfolding abandon_of cut_at recovered meant meant_in
    abandon_alike = record {
      answer = rw (a.given, a.marks.returns, a.state.units, a.state.machine.frame, a.state.machine.callers);
      machine = record { stack = a.start; last = a.marks.last; frame = refl; callers = refl; free = a.marks.free };
    }

  -- ---- one run of u units

  given_up_alike : {x x' : Part} → SanePart w x → SanePart (laid_out lay w) x' → AlikePart w lay x x' → AlikeRan w lay (given_up w x) (given_up (laid_out lay w) x')
  unfolding given_up
  given_up_alike h h' (ends a) = a
  given_up_alike h h' (pauses a) = abandon_alike _ _ h h' a

  pub run_alike : (m m' : Machine) (u : ℕ) → Sane w (begin m u) → Sane (laid_out lay w) (begin m' u) → AlikeMachine w lay m m' → AlikeRan w lay (run_of w m u) (run_of (laid_out lay w) m' u)
  unfolding run_of end_of
  run_alike m m' u h h' a =
      given_up_alike
      (first_part_sane w good m u h)
      (first_part_sane (laid_out lay w) beside-good m' u h')
      (part_alike (running u h h' a) (mark_sane h) (mark_sane h') (marked (begin m u)) (marked (begin m' u)) (boths_of a.stack h.placed h'.placed) u)
