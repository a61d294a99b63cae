-- A run in parts, over calls, comes to what one run comes to that is given the sum.
use mathlib.Core.Path.{◌≡◌, sym, ap, subst, ◌∙◌}
use mathlib.Core.Bool.{Bool, true, false}
use mathlib.Core.List.{List, [], ◌∷◌}
use Prim.Native.Nat.{ℕ, ◌+◌, ◌*◌, ◌≤◌}
use native.Mathlib.Omega.{arith}
use borrow.Author.Tests.{ltb-false}
use lib.ListN.{length, take}
use lib.Seq.{length-take-le}
use Rattle.model.specs.declared.Run.{Run}
use Rattle.model.specs.declared.Tally.{Tally}
use Rattle.model.specs.Values.{places}
use Rattle.model.specs.Steps.{World}
use Rattle.model.specs.Runs.{Machine, begin, end_of, Entry, fault, Ran, Under, Part, ends, pauses, part_of, begin_of, continue_of, abandon_of, dealt, given_up, run_of}
use Rattle.model.specs.Emission.{written}
use Rattle.model.specs.Machines.{run_order, copy_short, Unchanged, unchanged, RunAnswer, RunCall, begins, continues, abandons, run_answer, copied, copy_after}
use Rattle.model.specs.Machines as m
use Rattle.layout.proofs.Parts.{two_words}
use Rattle.laws_programs.proofs.Reading.{part_longer}
use Rattle.laws_runs.specs.Parts.{sum_of}
use Rattle.laws_runs.proofs.More.{more_units}
use Rattle.laws_runs.proofs.Parts.{dealt_as_one}
use Rattle.demands.specs.Host.{Held, Ask, Call, run, ask, Answer, ran, Done, RanBy, After}
use Rattle.demands.specs.Agree.{Front, Agree}
use Rattle.demands.specs.Meant.{world_in, machine_of, under_of}
use Rattle.demands.specs.Parts.{Parts, begun, continued, asked, refused, Over, ended, abandoned, Stands, Beside, CameTo, IsOne, units_given, Onward, paused, over, SameParts, SameEnd}
use Rattle.demands.proofs.Fronts.{rooms_back, rooms_then}
use Rattle.demands.proofs.Fixed.{stack_fits, standing, idle_under, machine_fixes}
use Rattle.demands.proofs.Went.{by_rules, same_world, Went, answers, stays, went, answered_so, refused_so}
use Rattle.demands.proofs.WhileRunning.{kept_while_running}

-- ---- by the rules

module _ (w : World) (m : Machine) where
  -- what one run comes to that is given g units
  abbrev whole : ℕ → Part
  whole g = part_of w m.stack g (end_of w (begin m g))

  dealt_once : (g : ℕ) → dealt w (begin_of w m) (g ∷ []) ≡ whole g
  unfolding sum_of
  dealt_once g = let z : g + 0 ≡ g = omega arith in rw z at (dealt_as_one w m g [])

  dealt_twice : (g u : ℕ) → dealt w (begin_of w m) (g ∷ u ∷ []) ≡ whole (g + u)
  unfolding sum_of
  dealt_twice g u = let z : g + (u + 0) ≡ g + u = omega arith in rw z at (dealt_as_one w m g (u ∷ []))

  deals_on : (g u : ℕ) {r : Under} (x : Part) → dealt w x (g ∷ []) ≡ pauses r → dealt w x (g ∷ u ∷ []) ≡ continue_of w r u
  unfolding dealt
  deals_on g u (ends x) e = absurd (let z : ◌≡◌ {A = ℕ} 0 1 = cc in let y : ⊥ = omega arith in y)
  deals_on g u (pauses q) e = ap (λ (y : Part). dealt w y (u ∷ [])) e

  -- u units more, where it is paused
  one_more : (g u : ℕ) {r : Under} → pauses r ≡ whole g → continue_of w r u ≡ whole (g + u)
  one_more g u e = sym (deals_on g u (begin_of w m) (dealt_once g ∙ sym e)) ∙ dealt_twice g u

  -- given up, where it is paused
  given_up_lem : (g : ℕ) {r : Under} → pauses r ≡ whole g → abandon_of w r ≡ run_of w m g
  unfolding run_of given_up
  given_up_lem g e = ap (given_up w) e

  not_given_up : (g : ℕ) {x : Ran} → ends x ≡ whole g → x ≡ run_of w m g
  unfolding run_of given_up
  not_given_up g e = ap (given_up w) e

-- ---- the copy

front_written : (n : ℕ) (a b : List ℕ) → n ≤ length a → n ≤ length b → take n (written a 0 (take n b)) ≡ take n b
front_written n a b h g = let z = length-take-le n b g in let same : 0 + length (take n b) ≡ n = omega arith in rw same at (part_longer a (take n b) 0 0 (omega arith))

module _ {h k : Held} {c : Unchanged} {x : Part} (p : RanBy begins h (ran (m.ran c x)) k) where
  copy_is : k.lent.copy ≡ written h.lent.copy 0 (take (2 * h.vm.stack) h.lent.stack)
  unfolding copy_after copied run_answer
  copy_is = p.post.copy ∙ ap (copied h.vm h.lent) (answered_so p)

  -- a beginning copies the stack
  stack_copied : run_order h.vm h.stores h.lent ≡ true → copy_short h.lent ≡ false → Front (2 * h.vm.stack) k.lent.copy h.lent.stack
  unfolding copy_short
  stack_copied o e =
      let room : places 2 h.lent.stack ≤ places 2 h.lent.copy = ltb-false _ _ e in
      let few = stack_fits h.vm h.stores h.lent o in
      record {
        front = ap (take (2 * h.vm.stack)) copy_is
            ∙ front_written (2 * h.vm.stack) h.lent.copy h.lent.stack (two_words h.vm.stack h.lent.copy (omega arith)) (standing h.vm h.stores h.lent o).stack;
      }

-- ---- the calls

module _ {h k k' : Held} where
  further : {x : Part} → Beside h k → Went k x k' → k'.lent.copy ≡ k.lent.copy → Beside h k'
  further b z same = record {
    program = z.program ∙ b.program;
    strict = z.strict ∙ b.strict;
    stores = z.stores ∙ b.stores;
    rooms = rooms_then z.rooms b.rooms;
    order = z.order;
    copy = record { front = ap (take (2 * h.vm.stack)) same ∙ b.copy.front };
  }

beside_world : {h k : Held} → Beside h k → world_in k ≡ world_in h
beside_world {h} {k} b = same_world h k b.program b.strict b.stores b.rooms

module _ {h k : Held} where
  begun_comes : {c : Unchanged} {x : Part} → RanBy begins h (ran (m.ran c x)) k → CameTo h 0 x k
  unfolding begin_of
  begun_comes {c} {x} p =
      let e = answered_so p in
      let b = by_rules h c x begins (sym e) in
      let z = went p e in
      record {
        order = b.order;
        idle = b.idle;
        one = b.is;
        stands = z.stands;
        beside = record { program = z.program; strict = z.strict; stores = z.stores; rooms = z.rooms; order = z.order; copy = stack_copied p b.order b.room };
      }

module _ {h k k' : Held} {g : ℕ} {r : Under} (o : CameTo h g (pauses r) k) where
  continued_comes : {u : ℕ} {c : Unchanged} {x : Part} → RanBy (continues u) k (ran (m.ran c x)) k' → CameTo h (g + u) x k'
  unfolding copy_after
  continued_comes {u} {c} {x} p =
      let e = answered_so p in
      let b = by_rules k c x (continues u) (sym e) in
      let z = went p e in
      let is : x ≡ continue_of (world_in h) r u = rw (beside_world o.beside, o.stands.under) at b.is in
      record { order = o.order; idle = o.idle; one = is ∙ one_more (world_in h) (machine_of h) g u o.one; stands = z.stands; beside = further o.beside z p.post.copy }

  abandoned_comes : {c : Unchanged} {x : Ran} → RanBy abandons k (ran (m.ran c (ends x))) k' → IsOne h g x k'
  unfolding copy_after
  abandoned_comes {c} {x} p =
      let e = answered_so p in
      let b = by_rules k c (ends x) abandons (sym e) in
      let z = went p e in
      let is : ends x ≡ ends (abandon_of (world_in h) r) = rw (beside_world o.beside, o.stands.under) at b.is in
      let same : x ≡ abandon_of (world_in h) r = cc in
      record { order = o.order; idle = o.idle; one = same ∙ given_up_lem (world_in h) (machine_of h) g o.one; rests = z.stands; beside = further o.beside z p.post.copy }

  asked_comes : (q : Ask) {a : Answer} → After (ask q) k a k' → CameTo h g (pauses r) k'
  asked_comes q p = subst (CameTo h g (pauses r)) (sym (kept_while_running k o.stands.on q) ∙ ap (λ (d : Done). d.held) p) o

  refused_comes : {n : ℕ} {c : RunCall} → RanBy c k (ran (m.refused n)) k' → CameTo h g (pauses r) k'
  refused_comes {n} p = subst (CameTo h g (pauses r)) (sym (stays p n (refused_so p))) o

-- THE DEALING LAW, over calls: what parts come to, whatever calls came in between, is what one run comes to that is given the sum
pub parts_come_to : {h k : Held} {g : ℕ} {x : Part} → Parts h g x k → CameTo h g x k
parts_come_to (begun p) = begun_comes p
parts_come_to (continued q p) = continued_comes (parts_come_to q) p
parts_come_to (asked i q p) = asked_comes (parts_come_to q) i p
parts_come_to (refused q p) = refused_comes (parts_come_to q) p

-- and so a run that is over, by itself or abandoned, is one run
pub over_is_one : {h k : Held} {g : ℕ} {x : Ran} → Over h g x k → IsOne h g x k
over_is_one {h} {g = g} (ended p) =
    let o = parts_come_to p in
    record { order = o.order; idle = o.idle; one = not_given_up (world_in h) (machine_of h) g o.one; rests = o.stands; beside = o.beside }
over_is_one (abandoned q p) = abandoned_comes (parts_come_to q) p

-- ---- whatever call comes

module _ {h k k' : Held} {g : ℕ} {r : Under} (q : Parts h g (pauses r) k) where
  no_more : Onward h g k' → Onward h (g + 0) k'
  no_more o = let z : g + 0 ≡ g = omega arith in subst (λ (i : ℕ). Onward h i k') (sym z) o

  ran_on : (c : RunCall) (n : Unchanged) (x : Part) → RanBy c k (ran (m.ran n x)) k' → Onward h (g + units_given (run c) (ran (m.ran n x))) k'
  ran_on begins n x p =
      absurd (let e : ◌≡◌ {A = Bool} true false = sym (parts_come_to q).stands.on ∙ (by_rules k n x begins (sym (answered_so p))).idle in let z : ◌≡◌ {A = ℕ} 0 1 = cc in
      let y : ⊥ = omega arith in y)
  ran_on (continues u) n (ends x) p = over (ended (continued q p))
  ran_on (continues u) n (pauses x) p = paused (continued q p)
  ran_on abandons n (ends x) p = no_more (over (abandoned q p))
  ran_on abandons n (pauses x) p =
      absurd (let e : ◌≡◌ {A = Part} (pauses x) (ends (abandon_of (world_in k) (under_of k))) = (by_rules k n (pauses x) abandons (sym (answered_so p))).is in let z : ◌≡◌ {A = ℕ} 0 1 = cc in
      let y : ⊥ = omega arith in y)

  refused_on : (c : RunCall) (n : ℕ) → RanBy c k (ran (m.refused n)) k' → Onward h (g + units_given (run c) (ran (m.refused n))) k'
  refused_on begins n p = no_more (paused (refused q p))
  refused_on (continues u) n p = no_more (paused (refused q p))
  refused_on abandons n p = no_more (paused (refused q p))

  answered_on : (c : RunCall) (x : RunAnswer) → RanBy c k (ran x) k' → Onward h (g + units_given (run c) (ran x)) k'
  answered_on c (m.ran n x) p = ran_on c n x p
  answered_on c (m.refused n) p = refused_on c n p

  -- WHATEVER CALL COMES between two parts, the run is then paused still or over, and was given the units of that call besides
  pub any_call_goes_on : (c : Call) (a : Answer) → After c k a k' → Onward h (g + units_given c a) k'
  any_call_goes_on (run c) a p =
      let e = answers p in
      subst (λ (b : Answer). Onward h (g + units_given (run c) b) k') (sym e)
      (answered_on c (run_answer c k.vm k.stores k.lent) (subst (λ (b : Answer). RanBy c k b k') e p))
  any_call_goes_on (ask i) a p = no_more (paused (asked i q p))

-- ---- two ways to deal out

module _ {h k d : Held} (a : Beside h k) (b : Beside h d) where
  both_agree : k.vm.run.on ≡ d.vm.run.on → under_of k ≡ under_of d → Agree k d
  both_agree on u =
      let same : unchanged k.vm ≡ unchanged d.vm = rw (a.program, a.strict, b.program, b.strict) in
      let f = machine_fixes k.stores d.stores a.order b.order (rooms_then a.rooms (rooms_back b.rooms)) same on u in
      record { vm = f.vm; stores = a.stores ∙ sym b.stores; lent = f.lent }

  stands_agree : (x : Part) → Stands x k → Stands x d → Agree k d
  stands_agree (ends x) p q =
      both_agree (ap (λ (r : Run). r.on) (p.run ∙ sym q.run)) (idle_under k.vm d.vm k.lent d.lent p.run q.run (p.machine ∙ sym q.machine))
  stands_agree (pauses r) p q = both_agree (p.on ∙ sym q.on) (p.under ∙ sym q.under)

-- the same sum, however it is dealt out: the same end or the same pause
pub dealings_agree : {h k d : Held} {g : ℕ} {x y : Part} → Parts h g x k → Parts h g y d → SameParts x y k d
dealings_agree {k = k} {d = d} {x = x} p q =
    let a = parts_come_to p in
    let b = parts_come_to q in
    let same = a.one ∙ sym b.one in
    record { comes = same; agree = stands_agree a.beside b.beside x a.stands (subst (λ (z : Part). Stands z d) (sym same) b.stands) }

ends_agree : {h k d : Held} {g i : ℕ} {x y : Ran} → IsOne h g x k → IsOne h i y d → x ≡ y → SameEnd x y k d
ends_agree {k = k} {d = d} {x = x} a b same = record { answer = same; agree = stands_agree a.beside b.beside (ends x) a.rests (subst (λ (z : Ran). Stands (ends z) d) (sym same) b.rests) }

-- and the same where it is over, by itself or abandoned
pub dealt_ends_agree : {h k d : Held} {g : ℕ} {x y : Ran} → Over h g x k → Over h g y d → SameEnd x y k d
dealt_ends_agree p q = let a = over_is_one p in let b = over_is_one q in ends_agree a b (a.one ∙ sym b.one)

-- MORE UNITS CHANGE NOTHING of a begun run that does not end in 13
pub more_units_change_nothing : {h k d : Held} {g : ℕ} (i : ℕ) {x y : Ran} → ((did : Tally) (trace : List Entry) → x.reply ≡ fault 13 did trace → ⊥) → Over h g x k → Over h (g + i) y d
    → SameEnd x y k d
more_units_change_nothing {h} {g = g} i {x} {y} n p q =
    let a = over_is_one p in
    let b = over_is_one q in
    ends_agree a b (a.one ∙ sym (more_units (world_in h) i (machine_of h) g (λ did trace e. n did trace (ap (λ (z : Ran). z.reply) a.one ∙ e))) ∙ sym b.one)
