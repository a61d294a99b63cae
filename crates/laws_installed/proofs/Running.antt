-- A program that passed the check, installed: what a run then answers, however its units are dealt out, and how high the stack grows.
use Rattle.std.specs.Prelude.{if◌then◌else◌, Err, Ok, Result}
use mathlib.Core.Path.{◌≡◌, refl, sym, ap, subst, ◌∙◌}
use mathlib.Core.Bool.{Bool, true, false}
use mathlib.Core.List.{List, [], ◌∷◌}
use Prim.Native.Nat.{ℕ, zero, suc, ◌+◌, ◌≤◌}
use native.Mathlib.Omega.{arith}
use lib.Dec.{ltb}
use lib.ListN.{length, get_or}
use Rattle.model.specs.declared.Frame.{Frame}
use Rattle.model.specs.declared.Vm.{Vm}
use Rattle.model.specs.declared.Halt.TheVariants as r
use Rattle.model.specs.Values.{places, vals, values_from}
use Rattle.model.specs.Programs.{Program}
use Rattle.model.specs.Stores.{Stores, constants_from, structs_from, program_in, world_in}
use Rattle.model.specs.Steps.{World, State}
use Rattle.model.specs.Runs.{Machine, fault, Ran, at_start, Ended, ended, stopped, paused, end_of, begin, Under, Part, ends, pauses, part_of, begin_of, continue_of, abandon_of, dealt, given_up, run_of}
use Rattle.model.specs.Machines.{Lent, frame_room, innermost, callers_in, machine_in, under_in, world_of, run_order, copy_short, trace_short, Unchanged, unchanged, RunAnswer, ran, refused, begin_answer, continue_answer, abandon_answer, RunCall, begins, continues, abandons, run_answer, answer_in, entries_in, SameRooms, set_strict}
use Rattle.laws_runs.specs.Paths.{PausedBy, more}
use Rattle.laws_runs.specs.Parts.{onward, sum_of}
use Rattle.laws_runs.proofs.Ends.{end_of_lem}
use Rattle.laws_runs.proofs.Paths.{run_path}
use Rattle.laws_runs.proofs.Parts.{dealt_as_one}
use Rattle.check_rules.specs.Rules.{Passed}
use Rattle.laws_check.specs.Good.{Serves, Waiting, Good}
use Rattle.laws_check.specs.Passed.{JustLoaded, Parts}
use Rattle.laws_check.proofs.Theorems.{a_fresh_machine_is_good, a_run_stays_good, passed_runs_so, passed_runs_ask_in_range, good_frames_fit}
use Rattle.laws_installed.specs.Installed.{Installed, by_entries, UnderWay, begun, continued, Answers, beginning, continuing, abandoning, FaultsSo, Tells, PartsBelow, together, Within, StaysWithin}
use Rattle.model.specs.declared.Halt.{Halt}
use Rattle.model.specs.declared.Refusal.{Refusal}
use Rattle.model.specs.declared.Refusal.TheVariants as why

-- ---- as the theorems of the check ask for it

length_constants : (n i : ℕ) (cs t : List ℕ) → length (constants_from n i cs t) ≡ n
unfolding constants_from
length_constants zero i cs t = refl
length_constants (suc n) i cs t = ap suc (length_constants n (suc i) cs t)

length_values : (n i : ℕ) (cs : List ℕ) → length (values_from n i cs) ≡ n
unfolding values_from
length_values zero i cs = refl
length_values (suc n) i cs = ap suc (length_values n (suc i) cs)

length_structs : (n i : ℕ) (ss t : List ℕ) → length (structs_from n i ss t) ≡ n
unfolding structs_from
length_structs zero i ss t = refl
length_structs (suc n) i ss t = ap suc (length_structs n (suc i) ss t)

module _ {p : Program} {m : Vm} {s : Stores} {l : Lent} (here : Installed p m s l) where
  pub serves_it : Serves p (world_of m s l)
  unfolding world_of world_in program_in
  serves_it =
      let c = m.program in
      let same = here.program in
      record {
        main = here.main;
        functions = ap (λ (q : Program). q.functions) same;
        constants = length_values c.constants 0 s.constants ∙ sym (length_constants c.constants 0 s.constants s.text)
            ∙ ap (λ (q : Program). length q.constants) same;
        structs = sym (length_structs c.structs 0 s.structs s.text) ∙ ap (λ (q : Program). length q.structs) same;
      }

  pub just_loaded : JustLoaded (machine_in m l)
  unfolding machine_in callers_in vals
  just_loaded = record {
    stack = rw here.stack;
    frame = ap (λ (n : ℕ). innermost n l.frames) here.frames ∙ here.frame;
    callers = rw here.frames;
  }

-- ---- a host makes it strict, or not strict, before its run: what was installed is as it was but for that

abbrev strictly : (strict : Bool) → Vm → Vm
strictly b m = record { program = m.program; stack = m.stack; frames = m.frames; cells = m.cells; last = m.last; run = m.run; strict = b }

-- by what is judged
set_installed : {p : Program} {m : Vm} {s : Stores} {l : Lent} → Installed p m s l → (b order on : Bool) {k : Vm}
    → (if order then (if on then Err why.RunUnderWay else Ok (strictly b m)) else Err why.NotInOrder) ≡ Ok k → Installed p k s l
set_installed here b true true e = absurd (let z : ◌≡◌ {A = ℕ} 0 1 = cc in let y : ⊥ = omega arith in y)
set_installed {p} {m} {s} {l} here b true false {k} e =
    let same : strictly b m ≡ k = cc in
    subst (λ (x : Vm). Installed p x s l) same
    (record { main = here.main; program = here.program; stack = here.stack; frames = here.frames; frame = here.frame })
set_installed here b false on e = absurd (let z : ◌≡◌ {A = ℕ} 0 1 = cc in let y : ⊥ = omega arith in y)

pub a_setting_keeps_what_is_installed : {p : Program} {m : Vm} {s : Stores} {l : Lent} → Installed p m s l → (b : Bool) {k : Vm} → set_strict b m s l ≡ Ok k → Installed p k s l
unfolding set_strict
a_setting_keeps_what_is_installed {m = m} {s} {l} here b e = set_installed here b (run_order m s l) m.run.on e

-- ---- a run through its entries: what a part comes to, where it is not refused

abbrev Carries : RunAnswer → Unchanged → Part → Type 0
Carries (ran c x) d y = (c ≡ d) × (x ≡ y)
Carries (refused n) d y = ⊥

only_begun : (order on short : Bool) (c : Unchanged) (x : Part) {d : Unchanged} {y : Part}
    → Carries (if order then (if on then refused 25 else (if short then refused 17 else ran c x)) else refused 19) d y → (c ≡ d) × (x ≡ y)
only_begun true true short c x h = absurd h
only_begun true false true c x h = absurd h
only_begun true false false c x h = h
only_begun false on short c x h = absurd h

only_continued : (order on short many : Bool) (c : Unchanged) (x : Part) {d : Unchanged} {y : Part}
    → Carries (if order then (if on then (if short then refused 17 else (if many then refused 22 else ran c x)) else refused 18) else refused 19) d y → (c ≡ d) × (x ≡ y)
only_continued true true true many c x h = absurd h
only_continued true true false true c x h = absurd h
only_continued true true false false c x h = h
only_continued true false short many c x h = absurd h
only_continued false on short many c x h = absurd h

only_abandoned : (order on short : Bool) (c : Unchanged) (x : Part) {d : Unchanged} {y : Part}
    → Carries (if order then (if on then (if short then refused 17 else ran c x) else refused 18) else refused 19) d y → (c ≡ d) × (x ≡ y)
only_abandoned true true true c x h = absurd h
only_abandoned true true false c x h = h
only_abandoned true false short c x h = absurd h
only_abandoned false on short c x h = absurd h

-- an answer that stands for a part, not for a refusal
ran_as : {a : RunAnswer} {d : Unchanged} {y : Part} → ran d y ≡ a → Carries a d y
ran_as {d = d} {y = y} e = subst (λ (x : RunAnswer). Carries x d y) e (refl, refl)

-- the part that each call comes to, by the rules
abbrev comes_to : RunCall → World → Vm → Lent → Part
comes_to begins w m l = begin_of w (machine_in m l)
comes_to (continues u) w m l = continue_of w (under_in m l) u
comes_to abandons w m l = ends (abandon_of w (under_in m l))

part_is : (c : RunCall) (m : Vm) (s : Stores) (l : Lent) {d : Unchanged} {y : Part} → ran d y ≡ run_answer c m s l → (unchanged m ≡ d) × (comes_to c (world_of m s l) m l ≡ y)
unfolding run_answer begin_answer continue_answer abandon_answer
part_is begins m s l e = only_begun (run_order m s l) m.run.on (copy_short l) (unchanged m) _ (ran_as e)
part_is (continues u) m s l e = only_continued (run_order m s l) m.run.on (trace_short l) (ltb 0xFFFF_FFFF_FFFF_FFFF (m.run.given + u)) (unchanged m) _ (ran_as e)
part_is abandons m s l e = only_abandoned (run_order m s l) m.run.on (trace_short l) (unchanged m) _ (ran_as e)

-- ---- units dealt out are one run with their sum

module _ (w : World) where
  dealt_once : (u : ℕ) (x : Part) → dealt w x (u ∷ []) ≡ onward w u x
  unfolding dealt onward
  dealt_once u (ends x) = refl
  dealt_once u (pauses r) = refl

  dealt_twice : (u v : ℕ) (x : Part) → dealt w x (u ∷ v ∷ []) ≡ onward w v (dealt w x (u ∷ []))
  unfolding dealt onward
  dealt_twice u v (ends x) = refl
  dealt_twice u v (pauses r) = dealt_once v (continue_of w r u)

  module _ (m : Machine) where
    -- one run that was given g units, up to where it is over or paused
    abbrev one_run : ℕ → Part
    one_run g = part_of w m.stack g (end_of w (begin m g))

    more_is_one : (g u : ℕ) → onward w u (one_run g) ≡ one_run (g + u)
    unfolding sum_of
    more_is_one g u =
        let once = dealt_as_one w m g [] in
        let twice = dealt_as_one w m g (u ∷ []) in
        let z : g + 0 ≡ g = omega arith in
        let y : g + (u + 0) ≡ g + u = omega arith in
        ap (onward w u) (sym (rw z at once)) ∙ sym (dealt_twice g u (begin_of w m)) ∙ (rw y at twice)

    -- where it is over, or is abandoned
    over_is_one : (g : ℕ) {x : Ran} → ends x ≡ one_run g → run_of w m g ≡ x
    unfolding run_of given_up
    over_is_one g e = ap (given_up w) (sym e)

    given_up_is_one : (g : ℕ) {r : Under} → pauses r ≡ one_run g → run_of w m g ≡ abandon_of w r
    unfolding run_of given_up
    given_up_is_one g e = ap (given_up w) (sym e)

-- ---- the run under way

module _ (s : Stores) where
  -- the setting is what it was, so that it is the same world
  part_world : (m k : Vm) {l l' : Lent} → unchanged m ≡ unchanged k → SameRooms l l' → world_of k s l' ≡ world_of m s l
  unfolding world_of world_in places frame_room
  part_world m k e same =
      let program = ap (λ (c : Unchanged). c.program) e in
      let strict = ap (λ (c : Unchanged). c.strict) e in
      rw (← program, ← strict, same.stack, same.cells, same.frames)

  module _ (m : Vm) (l : Lent) where
    -- it has come to what one run comes to that is given its units at once, in the world in which it was begun
    record CameTo (g : ℕ) (k : Vm) (l' : Lent) : Type 0 where
      world : world_of k s l' ≡ world_of m s l
      one : pauses (under_in k l') ≡ one_run (world_of m s l) (machine_in m l) g

    went_on : {g : ℕ} {k : Vm} {l₁ : Lent} → CameTo g k l₁ → (u : ℕ) → continue_of (world_of k s l₁) (under_in k l₁) u ≡ one_run (world_of m s l) (machine_in m l) (g + u)
    unfolding onward
    went_on {g} was u = rw was.world (ap (onward (world_of m s l) u) was.one ∙ more_is_one (world_of m s l) (machine_in m l) g u)

    came_to : {g : ℕ} {k : Vm} {l' : Lent} → UnderWay (by_entries s) m l g k l' → CameTo g k l'
    unfolding answer_in begin_of
    came_to (begun {k} post) =
        let is = part_is begins m s l post.answer in
        record { world = part_world m k is.0 post.rooms; one = sym is.1 }
    came_to (continued {g} {u} {k} {k'} {l₁} {l'} before post) =
        let was = came_to before in
        let is = part_is (continues u) k s l₁ post.answer in
        record { world = part_world k k' is.0 post.rooms ∙ was.world; one = sym is.1 ∙ went_on was u }

    same_end : {a b : Ran} → ends a ≡ ends b → a ≡ b
    same_end e = cc

    -- a part that ends the run, by a fault too: it is one run, given all the units
    came_to_an_end : {g : ℕ} {x : Result Halt Refusal} {l' : Lent} → Answers (by_entries s) m l g x l' → {c : Unchanged} {y : Ran} → answer_in l' x ≡ ran c (ends y)
        → run_of (world_of m s l) (machine_in m l) g ≡ y
    unfolding begin_of
    came_to_an_end (beginning post) e = over_is_one (world_of m s l) (machine_in m l) 0 (sym (part_is begins m s l (sym e ∙ post.answer)).1)
    came_to_an_end (continuing {g} {u} {k} {x} {l₁} before post) e =
        over_is_one (world_of m s l) (machine_in m l) (g + u) (sym (part_is (continues u) k s l₁ (sym e ∙ post.answer)).1 ∙ went_on (came_to before) u)
    came_to_an_end (abandoning {g} {k} {x} {l₁} before post) e =
        let was = came_to before in
        given_up_is_one (world_of m s l) (machine_in m l) g was.one ∙ same_end (rw was.world at (part_is abandons k s l₁ (sym e ∙ post.answer)).1)

-- "faults 1 to 4 and 14 never come, and 6 comes only from GetUpvalue or a field"
module _ (m : Vm) (s : Stores) (l : Lent) {g : ℕ} {l' : Lent} where
  pub installed_runs_so : {p : Program} → Passed p → Installed p m s l → (x : Result Halt Refusal) → Answers (by_entries s) m l g x l' → FaultsSo m s l g l' x
  unfolding answer_in
  installed_runs_so ok here (Ok (r.Value k v n)) h = tt
  installed_runs_so ok here (Ok (r.Continue k n)) h = tt
  installed_runs_so {p} ok here (Ok (r.Fault k n did j)) h =
      let w = world_of m s l in
      let x = machine_in m l in
      let es = entries_in j 0 l'.backtrace in
      let said : (run_of w x g).reply ≡ fault n did es = ap (λ (y : Ran). y.reply) (came_to_an_end s m l h refl) in (
        passed_runs_so p ok w (serves_it here) x (just_loaded here) g n did es said,
        λ e. passed_runs_ask_in_range p ok w (serves_it here) x (just_loaded here) g did es (subst (λ (i : ℕ). (run_of w x g).reply ≡ fault i did es) e said),
      )
  installed_runs_so ok here (Ok (r.Paused k)) h = tt
  installed_runs_so ok here (Err e) h = tt

-- ---- how high the stack grows

module _ (p : Program) (hs : List ℕ) (tells : Tells p hs) where
  parts_below : (rs : List Frame) (end : ℕ) → Parts p rs end → PartsBelow hs rs end
  unfolding Parts PartsBelow
  parts_below [] end h = tt
  parts_below (r ∷ rs) end h =
      let part = h.0 in
      ((part.begins, part.fits (get_or hs r.function 0) (tells r.function part.known)), parts_below rs r.base h.1)

  -- the root's base is 0, so that the parts make up the whole
  callers_sum : (cs : List Frame) (f base : ℕ) → Waiting p cs f base → PartsBelow hs cs base → base ≤ together hs cs
  unfolding Waiting PartsBelow together
  callers_sum [] f base w h = omega (arith, w.1)
  callers_sum (c ∷ cs) f base w h = let rest = callers_sum cs c.function c.base w.1 h.1 in omega (arith, rest, h.0.1)

  within_so : (t : State) → Good p t → Parts p (t.frame ∷ t.callers) (length t.stack) → Within hs t
  unfolding PartsBelow together
  within_so t good parts =
      let below = parts_below (t.frame ∷ t.callers) (length t.stack) parts in
      let rest = callers_sum t.callers t.frame.function t.frame.base good.waiting below.1 in
      record { parts = below; sum = omega (arith, rest, below.0.1) }

-- the state in which a run is paused is one that its written steps come to
module _ (w : World) (m : Machine) (g : ℕ) where
  paused_by : (e : Ended) → end_of w (begin m g) ≡ e → {r : Under} → pauses r ≡ part_of w m.stack g e → PausedBy w (at_start (begin m g)) (begin m g) r.progress r.state
  unfolding part_of
  paused_by (ended k t) q e = absurd (let z : ◌≡◌ {A = ℕ} 0 1 = cc in let y : ⊥ = omega arith in y)
  paused_by (stopped n t k) q e = absurd (let z : ◌≡◌ {A = ℕ} 0 1 = cc in let y : ⊥ = omega arith in y)
  paused_by (paused k t) q {r} e =
      let s = begin m g in
      let same : r ≡ record { given = g; start = m.stack; progress = k; state = t } = cc in
      let by : PausedBy w (at_start s) s k t = run_path w (at_start s) s (sym (end_of_lem w s) ∙ q) in
      rw same by

module _ {p : Program} (ok : Passed p) {m : Vm} {s : Stores} {l : Lent} (here : Installed p m s l) (hs : List ℕ) (tells : Tells p hs) where
  abbrev w : World
  w = world_of m s l

  abbrev x : Machine
  x = machine_in m l

  good_within : (t : State) → Good p t → Within hs t
  good_within t good = within_so p hs tells t good (good_frames_fit p ok t good)

  good_at_start : (u : ℕ) → Good p (begin x u)
  good_at_start u = a_fresh_machine_is_good p ok here.main x (just_loaded here) u

  -- units are no part of it
  good_with_more : (t : State) (u : ℕ) → Good p t → Good p (more u t)
  good_with_more t u good = record { waiting = good.waiting; height = good.height; sum = good.sum; stands = good.stands }

  good_where_paused : {g : ℕ} {k : Vm} {l' : Lent} → UnderWay (by_entries s) m l g k l' → Good p (under_in k l').state
  good_where_paused {g} way =
      a_run_stays_good p ok w (serves_it here) (good_at_start g) (paused_by w x g (end_of w (begin x g)) refl (came_to s m l way).one).path

  -- "each function's greatest height, which no frame of it exceeds"; and the stack has no more values than the frames' heights together
  pub installed_stays_within : StaysWithin (by_entries s) m s l hs
  installed_stays_within = record {
    whole = λ u n before after t path. good_within t (a_run_stays_good p ok w (serves_it here) (good_at_start u) path);
    parts = λ {g} {k} {l'} way u n before after t path. good_within t
        (a_run_stays_good p ok w (serves_it here) (good_with_more (under_in k l').state u (good_where_paused way)) (rw (came_to s m l way).world at path));
  }
