-- One run by the three calls: it comes to what one run comes to by the rules, or is refused as one run would be.
use Rattle.std.specs.Prelude.{if◌then◌else◌, Err, Ok, Result}
use mathlib.Core.Path.{◌≡◌, refl, sym, ap, ◌∙◌}
use mathlib.Core.Bool.{true, false, true≢false}
use mathlib.Core.List.{[], ◌∷◌}
use Prim.Native.Nat.{ℕ, ◌+◌, ◌≤◌}
use native.Mathlib.Omega.{arith}
use lib.Dec.{ltb, eqb}
use lib.ListN.{length}
use lib.Seq.{length-sets}
use borrow.Author.Tests.{le-ltb}
use Rattle.model.specs.declared.Vm.{Vm}
use Rattle.model.specs.declared.Halt.TheVariants as r
use Rattle.model.specs.Values.{places}
use Rattle.model.specs.Steps.{World}
use Rattle.model.specs.Runs.{Machine, Ended, ended, stopped, paused, begin, end_of, Ran, Under, Part, ends, pauses, part_of, begin_of, continue_of, abandon_of, dealt, given_up, run_of}
use Rattle.model.specs.Stores.{Stores, world_in}
use Rattle.model.specs.Emission.{written}
use Rattle.model.specs.Machines.{Lent, frame_room, machine_in, under_in, world_of, run_order, copy_short, trace_short, run_refusal, Unchanged, unchanged, RunAnswer, ran, refused, begin_answer, continue_answer, abandon_answer, RunCall, begins, continues, run_answer, entry_words, trace_of_part, trace_after, answer_in, SameRooms, RunPost}
use Rattle.layout.proofs.Bools.{either_way}
use Rattle.laws_runs.specs.Parts.{sum_of}
use Rattle.laws_runs.proofs.Parts.{parts_are_one_run}
use Rattle.report.specs.Links.{is_paused, OneRun, at_once, continued, abandoned}
use Rattle.model.specs.declared.Halt.{Halt}
use Rattle.model.specs.declared.Refusal.{Refusal}

-- what one run of u units comes to
unfoldable pub one_answer : Vm → Stores → Lent → (u : ℕ) → RunAnswer
one_answer m s l u = if eqb (run_refusal m s l) 0 then ran (unchanged m) (ends (run_of (world_of m s l) (machine_in m l) u)) else refused (run_refusal m s l)

-- ---- an answer by the rules

not_ran : {n : ℕ} {c : Unchanged} {x : Part} → refused n ≡ ran c x → ⊥
not_ran e = let z : ◌≡◌ {A = ℕ} 0 1 = cc in omega arith

same_ran : {c d : Unchanged} {x y : Part} → ran c x ≡ ran d y → (c ≡ d) × (x ≡ y)
same_ran e = (cc, cc)

-- units dealt out once are one run with them
module _ (w : World) (m : Machine) (u : ℕ) where
  given_is_one : (x : Part) → dealt w (begin_of w m) (u ∷ []) ≡ x → given_up w x ≡ run_of w m u
  unfolding sum_of
  given_is_one x e = let z : u + 0 ≡ u = omega arith in ap (given_up w) (sym e) ∙ (rw z at (parts_are_one_run w m (u ∷ [])))

  over_at_once : (y : Ran) → ends y ≡ begin_of w m → y ≡ run_of w m u
  unfolding dealt given_up
  over_at_once y e = given_is_one (ends y) (rw (← e) refl)

  over_when_continued : (r : Under) → pauses r ≡ begin_of w m → (y : Ran) → ends y ≡ continue_of w r u → y ≡ run_of w m u
  unfolding dealt given_up
  over_when_continued r e y f = given_is_one (ends y) (rw (← e, ← f) refl)

  over_when_abandoned : (r : Under) → pauses r ≡ begin_of w m → (r' : Under) → pauses r' ≡ continue_of w r u → abandon_of w r' ≡ run_of w m u
  unfolding dealt given_up
  over_when_abandoned r e r' f = given_is_one (pauses r') (rw (← e, ← f) refl)

-- a run that is begun has been given nothing
module _ (w : World) (m : Machine) where
  none_given_by : (e : Ended) (r : Under) → pauses r ≡ part_of w m.stack 0 e → r.given ≡ 0
  unfolding part_of
  none_given_by (ended p s) r e = absurd (let z : ◌≡◌ {A = ℕ} 0 1 = cc in let y : ⊥ = omega arith in y)
  none_given_by (stopped n s p) r e = absurd (let z : ◌≡◌ {A = ℕ} 0 1 = cc in let y : ⊥ = omega arith in y)
  none_given_by (paused p s) r e = cc

  none_given : (r : Under) → pauses r ≡ begin_of w m → r.given ≡ 0
  unfolding begin_of
  none_given r e = none_given_by (end_of w (begin m 0)) r e

-- ---- by the entries

-- what is paused leaves the backtrace store, and all stores as long as they were
module _ (s : Stores) {l l' : Lent} (rooms : SameRooms l l') where
  same_world : (m k : Vm) → unchanged m ≡ unchanged k → world_of k s l' ≡ world_of m s l
  unfolding world_of world_in places frame_room
  same_world m k e =
      let program : m.program ≡ k.program = ap (λ (c : Unchanged). c.program) e in
      let setting : m.strict ≡ k.strict = ap (λ (c : Unchanged). c.strict) e in
      rw (← program, ← setting, rooms.stack, rooms.cells, rooms.frames)

  still_long : length l'.backtrace ≡ length l.backtrace → trace_short l ≡ false → trace_short l' ≡ false
  unfolding trace_short places frame_room
  still_long b h = rw (b, rooms.frames) h

module _ (l : Lent) where
  pub length_after : (a : RunAnswer) → length (trace_after l a) ≡ length l.backtrace
  unfolding trace_after written
  length_after (ran c x) = length-sets l.backtrace 0 (entry_words (trace_of_part x))
  length_after (refused n) = refl

-- a part that is over ends the run
record EndsIn (x : Part) : Type 0 where
  ran_so : Ran
  is : x ≡ ends ran_so

over_ends : (l : Lent) (x : Result Halt Refusal) → is_paused x ≡ false → {c : Unchanged} {y : Part} → answer_in l x ≡ ran c y → EndsIn y
unfolding answer_in is_paused
over_ends l (Ok (r.Value m v n)) o e = record { ran_so = _; is = sym (same_ran e).1 }
over_ends l (Ok (r.Continue m n)) o e = record { ran_so = _; is = sym (same_ran e).1 }
over_ends l (Ok (r.Fault m k n j)) o e = record { ran_so = _; is = sym (same_ran e).1 }
over_ends l (Ok (r.Paused m)) o e = absurd (true≢false o)
over_ends l (Err n) o e = absurd (not_ran e)

module _ (m : Vm) (s : Stores) (l : Lent) (long : trace_short l ≡ false) where
  abbrev w : World
  w = world_of m s l

  abbrev x₀ : Machine
  x₀ = machine_in m l

  granted : (u : ℕ) → run_order m s l ≡ true → m.run.on ≡ false → copy_short l ≡ false → ran (unchanged m) (ends (run_of w x₀ u)) ≡ one_answer m s l u
  unfolding one_answer run_refusal
  granted u order off fits = rw (order, off, fits)

  -- over at once, or refused
  begun_over : (u : ℕ) (l' : Lent) (x : Result Halt Refusal) → is_paused x ≡ false → answer_in l' x ≡ begin_answer m s l → answer_in l' x ≡ one_answer m s l u
  unfolding begin_answer one_answer run_refusal world_of machine_in
  begun_over u l' x o e =
      either_way (run_order m s l)
      (λ order. either_way m.run.on (λ on. rw (order, on) (rw (order, on) at e))
      (λ off. either_way (copy_short l) (λ short. rw (order, off, short) (rw (order, off, short) at e))
      (λ fits.
      let f : answer_in l' x ≡ ran (unchanged m) (begin_of w x₀) = rw (order, off, fits) at e in
      let over = over_ends l' x o f in
      f ∙ ap (ran (unchanged m)) (over.is ∙ ap ends (over_at_once w x₀ u over.ran_so (sym over.is))) ∙ granted u order off fits)))
      (λ bad. rw bad (rw bad at e))

  -- paused at its beginning
  record Begun (k : Vm) (l₁ : Lent) : Type 0 where
    order : run_order m s l ≡ true
    off : m.run.on ≡ false
    fits : copy_short l ≡ false
    same : unchanged m ≡ unchanged k
    is : pauses (under_in k l₁) ≡ begin_of w x₀

  begun_paused : (k : Vm) (l₁ : Lent) → RunPost begins m s l (Ok (r.Paused k)) l₁ → Begun k l₁
  unfolding run_answer begin_answer answer_in world_of machine_in
  begun_paused k l₁ post =
      let e = post.answer in
      either_way (run_order m s l)
      (λ order. either_way m.run.on (λ on. absurd (not_ran (sym (rw (order, on) at e))))
      (λ off. either_way (copy_short l) (λ short. absurd (not_ran (sym (rw (order, off, short) at e))))
      (λ fits.
      let f = same_ran (rw (order, off, fits) at e) in
      record { order = order; off = off; fits = fits; same = sym f.0; is = f.1 })))
      (λ bad. absurd (not_ran (sym (rw bad at e))))

  long_after : {c : RunCall} {k k' : Vm} {l₁ l₂ : Lent} → RunPost c k s l₁ (Ok (r.Paused k')) l₂ → trace_short l₁ ≡ false → trace_short l₂ ≡ false
  long_after {c} {k} {k'} {l₁} post h = still_long s post.rooms (ap length post.backtrace ∙ length_after l₁ (run_answer c k s l₁)) h

  module _ (u : ℕ) (small : u ≤ 0xFFFF_FFFF_FFFF_FFFF) (k : Vm) (l₁ : Lent) (post : RunPost begins m s l (Ok (r.Paused k)) l₁) where
    abbrev start : Begun k l₁
    start = begun_paused k l₁ post

    world : world_of k s l₁ ≡ w
    world = same_world s post.rooms m k start.same

    -- it is continued, and not refused
    continued_so : continue_answer k s l₁ u ≡ ran (unchanged k) (continue_of w (under_in k l₁) u)
    unfolding continue_answer
    continued_so =
        let none : k.run.given ≡ 0 = (unfold under_in in none_given w x₀ (under_in k l₁) start.is) in
        let few : ltb 0xFFFF_FFFF_FFFF_FFFF (k.run.given + u) ≡ false = le-ltb 0xFFFF_FFFF_FFFF_FFFF (k.run.given + u) (omega arith) in
        rw (world, post.left.order, long_after post long, few, post.left.run)

    continued_over : (l' : Lent) (x : Result Halt Refusal) → is_paused x ≡ false → answer_in l' x ≡ continue_answer k s l₁ u → answer_in l' x ≡ one_answer m s l u
    continued_over l' x o e =
        let f = e ∙ continued_so in
        let over = over_ends l' x o f in
        f ∙ ap (λ (c : Unchanged). ran c (continue_of w (under_in k l₁) u)) (sym start.same)
        ∙ ap (ran (unchanged m)) (over.is ∙ ap ends (over_when_continued w x₀ u (under_in k l₁) start.is over.ran_so (sym over.is)))
        ∙ granted u start.order start.off start.fits

    -- paused again
    module _ (k' : Vm) (l₂ : Lent) (more : RunPost (continues u) k s l₁ (Ok (r.Paused k')) l₂) where
      again : (unchanged k' ≡ unchanged k) × (pauses (under_in k' l₂) ≡ continue_of w (under_in k l₁) u)
      unfolding run_answer answer_in
      again = same_ran (more.answer ∙ continued_so)

      -- it is abandoned, and not refused
      abandoned_so : abandon_answer k' s l₂ ≡ ran (unchanged k') (ends (abandon_of w (under_in k' l₂)))
      unfolding abandon_answer
      abandoned_so =
          let there : world_of k' s l₂ ≡ w = same_world s more.rooms k k' (sym again.0) ∙ world in
          rw (there, more.left.order, long_after more (long_after post long), more.left.run)

      abandoned_over : abandon_answer k' s l₂ ≡ one_answer m s l u
      abandoned_over =
          abandoned_so ∙ ap (λ (c : Unchanged). ran c (ends (abandon_of w (under_in k' l₂)))) (again.0 ∙ sym start.same)
          ∙ ap (λ (y : Ran). ran (unchanged m) (ends y)) (over_when_abandoned w x₀ u (under_in k l₁) start.is (under_in k' l₂) again.1)
          ∙ granted u start.order start.off start.fits

  pub one_run_is : (u : ℕ) → u ≤ 0xFFFF_FFFF_FFFF_FFFF → {x : Result Halt Refusal} {l' : Lent} → OneRun m u s l x l' → answer_in l' x ≡ one_answer m s l u
  unfolding run_answer
  one_run_is u small {x} {l'} (at_once post over) = begun_over u l' x over post.answer
  one_run_is u small (continued {k} {x} {l₁} {l'} post more over) = continued_over u small k l₁ post l' x over more.answer
  one_run_is u small (abandoned {k} {k'} {x} {l₁} {l₂} {l'} post more end) = end.answer ∙ abandoned_over u small k l₁ post k' l₂ more
