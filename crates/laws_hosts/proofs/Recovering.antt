-- Demand 3 of a run from C: what it leaves where it ends in a fault or is abandoned.
use mathlib.Core.Path.{◌≡◌, refl, sym, ap, subst, ◌∙◌}
use mathlib.Core.Bool.{Bool, true, false}
use mathlib.Core.List.{List, [], ◌∷◌}
use Prim.Native.Nat.{ℕ, ◌+◌, ◌≤◌}
use native.Mathlib.Omega.{arith}
use borrow.Author.Tests.{le-leb}
use lib.ListN.{length, get_or}
use Rattle.model.specs.declared.Run.{Run}
use Rattle.model.specs.declared.Halt.TheVariants as r
use Rattle.model.specs.Basics.{written}
use Rattle.model.specs.Runs.{Ran, Under, ends, pauses}
use Rattle.model.specs.Machines.{Unchanged, RunCall, begins, continues, abandons, RunAnswer, run_answer, entries_in, answer_in, no_run}
use Rattle.model.specs.Machines as m
use Rattle.embed_words.specs.Coding.{vm_in, run_in, under_way}
use Rattle.demands.specs.Host.{Held, run, Answer, ran, RanBy}
use Rattle.demands.specs.Refusals.{refused_by, refused_run}
use Rattle.demands.specs.Parts.{Parts, begun, continued, Over, ended, abandoned, Onward, paused, over}
use Rattle.demands.specs.Agree.{Agree}
use Rattle.demands.specs.Recovery.{Demand3}
use Rattle.demands.proofs.Went.{by_rules, answers, stays, answered_so}
use Rattle.demands.proofs.OneRun.{length_entries}
use Rattle.demands.proofs.Parting.{parts_come_to, over_is_one, any_call_goes_on, dealings_agree}
use Rattle.demands.proofs.Written.{pause_written}
use Rattle.demands.proofs.Recovering.{fault_recovers}
use Rattle.laws_hosts.specs.Hosts.{CHeld, CDone, left_by}
use Rattle.laws_hosts.specs.Crossed.{held_in, Taken, number_of, part_words, answer_words, Crossed}
use Rattle.laws_hosts.specs.Chains.{Waiting, begun as began, since, answer_word, Faulted, units_of, CDemand3}
use Rattle.laws_hosts.proofs.Records.{record_long}
use Rattle.laws_hosts.proofs.Crossing.{crossing}
use Rattle.laws_hosts.proofs.Zero.{refused_not}
use Rattle.laws_hosts.proofs.Chains.{c_chain_is_a_chain, c_chains_alike, tell_same}
use Rattle.std.specs.Prelude.{Err, Ok, Result}
use Rattle.model.specs.Answers.{refusal_number}
use Rattle.model.specs.declared.Halt.{Halt}
use Rattle.model.specs.declared.Refusal.{Refusal}

-- ---- a run under way

-- where words are a record, word 10 says whether a run is under way
way_is : (g : CHeld) → Taken g → under_way g.words ≡ (held_in g).vm.run.on
unfolding under_way vm_in run_in
way_is g ok = rw (le-leb 17 (length g.words) (record_long g.words ok))

no_way : {A : Type 0} {b : Bool} → b ≡ true → b ≡ false → A
no_way e f = absurd (let z : ◌≡◌ {A = Bool} true false = sym e ∙ f in let y : ◌≡◌ {A = ℕ} 0 1 = cc in let x : ⊥ = omega arith in x)

-- the run that was begun over g is paused in k
record Pauses (g k : CHeld) : Type 0 where
  taken : Taken k
  units : ℕ
  under : Under
  parts : Parts (held_in g) units (pauses under) (held_in k)

module _ (g : CHeld) (k : CHeld) (ok : Taken k) (on : under_way k.words ≡ true) where
  runs : (held_in k).vm.run.on ≡ true
  runs = sym (way_is k ok) ∙ on

  rests_not : {A : Type 0} → (held_in k).vm.run ≡ no_run → A
  rests_not e = no_way runs (ap (λ (x : Run). x.on) e)

  begun_pauses : (held_in g).vm.run.on ≡ false → (x : RunAnswer) → run_answer begins (held_in g).vm g.stores g.lent ≡ x → RanBy begins (held_in g) (ran x) (held_in k) → Pauses g k
  begun_pauses off (m.ran c (ends x)) e p = rests_not (over_is_one (ended (begun p))).rests.run
  begun_pauses off (m.ran c (pauses x)) e p = record { taken = ok; units = 0; under = x; parts = begun p }
  begun_pauses off (m.refused n) e p = no_way runs (ap (λ (h : Held). h.vm.run.on) (stays p n e) ∙ off)

  goes_on_lem : {u : ℕ} → Onward (held_in g) u (held_in k) → Pauses g k
  goes_on_lem {u} (paused p) = record { taken = ok; units = u; under = _; parts = p }
  goes_on_lem (over p) = rests_not (over_is_one p).rests.run

waits : {g k : CHeld} → Taken g → Waiting g k → Pauses g k
waits {g} ok (began {a = a} {d = d} off p on) =
    let x : Crossed (run begins) a g d = crossing a g ok (run begins) p.handed p.through in
    let y : RanBy begins (held_in g) x.did.answer (held_in (left_by d)) = x.did.after in
    let z = subst (λ (z : Answer). RanBy begins (held_in g) z (held_in (left_by d))) (answers y) y in
    begun_pauses g (left_by d) x.taken on (sym (way_is g ok) ∙ off) (run_answer begins (held_in g).vm g.stores g.lent) refl z
waits {g} ok (since {c = c} {a = a} {k = k} {d = d} w p on) =
    let q = waits ok w in
    let x : Crossed c a k d = crossing a k q.taken c p.handed p.through in
    goes_on_lem g (left_by d) x.taken on (any_call_goes_on q.parts c x.did.answer x.did.after)

-- THE DEALING LAW from C: however units were dealt out to a run, where its record tells the same number of them, what the host holds agrees
pub c_dealings_agree : {g k d : CHeld} → Taken g → Waiting g k → Waiting g d → (held_in k).vm.run.given ≡ (held_in d).vm.run.given → Agree (held_in k) (held_in d)
c_dealings_agree {g} {k} {d} ok p q e =
    let x = waits ok p in let y = waits ok q in
    let same : x.units ≡ y.units = sym (pause_written x.parts).given ∙ e ∙ (pause_written y.parts).given in
    (dealings_agree (subst (λ (i : ℕ). Parts (held_in g) i (pauses x.under) (held_in k)) same x.parts) y.parts).agree

-- ---- its end

-- a call that ends it
over_by : {h k k' : Held} {u : ℕ} {w : Under} (c : RunCall) → Parts h u (pauses w) k → {n : Unchanged} {x : Ran} → RanBy c k (ran (m.ran n (ends x))) k' → Over h (u + units_of c) x k'
over_by {k = k} begins q {n} {x} p = no_way (parts_come_to q).stands.on (by_rules k n (ends x) begins (sym (answered_so p))).idle
over_by (continues i) q p = ended (continued q p)
over_by {h} {k' = k'} {u} abandons q {x = x} p = let z : u + 0 ≡ u = omega arith in subst (λ (i : ℕ). Over h i x k') (sym z) (abandoned q p)

-- the five words of an answer
record Five (s : List ℕ) (i j k l m : ℕ) : Type 0 where
  w0 : get_or s 0 0 ≡ i
  w1 : get_or s 1 0 ≡ j
  w2 : get_or s 2 0 ≡ k
  w3 : get_or s 3 0 ≡ l
  w4 : get_or s 4 0 ≡ m

five : (a : List ℕ) → 5 ≤ length a → (i j k l m : ℕ) → Five (written a 0 (i ∷ j ∷ k ∷ l ∷ m ∷ [])) i j k l m
unfolding written
five [] h i j k l m = absurd (let z : ⊥ = omega arith in z)
five (a ∷ []) h i j k l m = absurd (let z : ⊥ = omega arith in z)
five (a ∷ b ∷ []) h i j k l m = absurd (let z : ⊥ = omega arith in z)
five (a ∷ b ∷ c ∷ []) h i j k l m = absurd (let z : ⊥ = omega arith in z)
five (a ∷ b ∷ c ∷ d ∷ []) h i j k l m = absurd (let z : ⊥ = omega arith in z)
five (a ∷ b ∷ c ∷ d ∷ e ∷ s) h i j k l m = record { w0 = refl; w1 = refl; w2 = refl; w3 = refl; w4 = refl }

not_three : {A : Type 0} {s s' : List ℕ} {i j k l m : ℕ} → s ≡ s' → Five s' i j k l m → (i ≡ 3 → ⊥) → get_or s 0 0 ≡ 3 → A
not_three e f n z = absurd (n (sym f.w0 ∙ ap (λ (s : List ℕ). get_or s 0 0) (sym e) ∙ z))

module _ {g k : CHeld} (q : Pauses g k) (c : RunCall) (a : List ℕ) (room : 5 ≤ length a) (d : CDone) (done : d.coded.number ≡ 0) (faults : answer_word d 0 ≡ 3) where
  abbrev Leaves : Type 0
  Leaves = Demand3 ((held_in k).vm.run.given + units_of c) (held_in g) (answer_word d 3) (record { spent = answer_word d 1; returns = answer_word d 2 })
      (entries_in (answer_word d 4) 0 d.lent.backtrace) (held_in (left_by d))

  result_leaves : (x : Result Halt Refusal) → RanBy c (held_in k) (ran (answer_in d.lent x)) (held_in (left_by d)) → d.coded.number ≡ number_of (refused_run (answer_in d.lent x))
      → d.coded.answer ≡ written a 0 (part_words (answer_in d.lent x)) → Leaves
  unfolding answer_in
  result_leaves (Ok (r.Value i v n)) p en ew = not_three ew (five a room _ _ _ _ _) (λ z. omega arith) faults
  result_leaves (Ok (r.Continue i n)) p en ew = not_three ew (five a room _ _ _ _ _) (λ z. omega arith) faults
  result_leaves (Ok (r.Fault i n did j)) p en ew =
      let f = five a room 3 did.spent did.returns n (length (entries_in j 0 d.lent.backtrace)) in
      let left = fault_recovers (over_by c q.parts p) refl in
      rw (ew, f.w1, f.w2, f.w3, f.w4, length_entries j 0 d.lent.backtrace, (pause_written q.parts).given) left
  result_leaves (Ok (r.Paused i)) p en ew = not_three ew (five a room _ _ _ _ _) (λ z. omega arith) faults
  result_leaves (Err e) p en ew = let n = refusal_number e in refused_not (run c) (held_in k) (held_in (left_by d)) (ran (m.refused n)) p n refl (sym en ∙ done)

-- DEMAND 3 of a run from C
pub c_fault_recovers : {g k : CHeld} {c : RunCall} {a : List ℕ} {d : CDone} → Taken g → Faulted g k c a d → CDemand3 g k c d
c_fault_recovers {g} {k} {c} {a} {d} ok f =
    let q = waits ok f.waiting in
    let x : Crossed (run c) a k d = crossing a k q.taken (run c) f.called.handed f.called.through in
    let y : RanBy c (held_in k) x.did.answer (held_in (left_by d)) = x.did.after in
    let z : RanBy c (held_in k) (ran (answer_in d.lent y.result)) (held_in (left_by d)) = record { result = y.result; post = y.post; answer = refl; vm = y.vm; stores = y.stores } in
    let number = x.did.tells.number ∙ ap (λ (i : Answer). number_of (refused_by i)) y.answer in
    let words = x.did.tells.words ∙ ap (λ (i : Answer). written a 0 (answer_words i)) y.answer in
    let left = result_leaves q c a f.called.handed.room d f.done f.fault y.result z number words in
    record {
      leaves = left;
      taken = x.taken;
      later = λ ok' alike t p p'. c_chains_alike x.taken ok' alike (λ i. i) t p p';
      exact = λ e ok' set calls ds es i i' p p'.
          let one = c_chain_is_a_chain x.taken p in
          let other = c_chain_is_a_chain ok' p' in
          tell_same one other (left.exact (held_in e) set calls one.answers other.answers (held_in i) (held_in i') one.chain other.chain);
    }
