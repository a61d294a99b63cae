-- The contract of a run's call fixes its result and what it leaves.
use mathlib.Core.Path.{◌≡◌, refl, sym, ap, subst, ◌∙◌}
use mathlib.Core.Bool.{Bool, true, false}
use mathlib.Core.List.{List}
use Prim.Native.Nat.{ℕ, zero, suc, ◌+◌}
use native.Mathlib.Omega.{arith}
use lib.Dec.{eqb, ltb}
use lib.ListN.{length}
use lib.Seq.{length-sets}
use Rattle.model.specs.declared.Vm.{Vm}
use Rattle.model.specs.declared.Halt.TheVariants as r
use Rattle.model.specs.Runs.{Reply, value, continue, fault, Ran, Under, Part, ends, pauses}
use Rattle.model.specs.Stores.{Stores}
use Rattle.model.specs.Emission.{written}
use Rattle.model.specs.Machines.{Lent, machine_in, under_in, Unchanged, unchanged, RunAnswer, ran, refused, RunCall, begins, continues, abandons, begin_answer, continue_answer, abandon_answer, run_answer, run_order, copy_short, trace_short, copied, copy_after, trace_after, entries_in, ended_as, answer_in, Leaves, Left, RunPost}
use Rattle.laws_runs.proofs.Ordered.{idle_of}
use Rattle.demands.specs.Host.{vm_after}
use Rattle.demands.specs.Agree.{Rooms, LentAlike}
use Rattle.demands.specs.One.{SameRun}
use Rattle.demands.proofs.Fronts.{alike_same, rooms_back, rooms_then}
use Rattle.demands.proofs.Agreeing.{answer_alike}
use Rattle.demands.proofs.Fixed.{FixedBy, idle_under, machine_fixes}
use Rattle.std.specs.Prelude.{if◌then◌else◌, Err, Ok, Result}
use Rattle.model.specs.Answers.{refusal_number}
use Rattle.model.specs.declared.Refusal.TheVariants as why
use Rattle.model.specs.declared.Halt.{Halt}
use Rattle.model.specs.declared.Refusal.{Refusal}

-- ---- the result, from the machine and the answer

abbrev replied : Vm → Reply → Result Halt Refusal
replied m (value v n) = Ok (r.Value m v n)
replied m (continue n) = Ok (r.Continue m n)
replied m (fault k n es) = Ok (r.Fault m k n (length es))

abbrev parted : Vm → Part → Result Halt Refusal
parted m (ends x) = replied m x.reply
parted m (pauses u) = Ok (r.Paused m)

-- the refusal that has a number; 20 is the number of many, and no call of a run is refused by it
abbrev named : ℕ → Refusal
named n =
    if eqb n 1 then why.UnknownOpcode else (
    if eqb n 3 then why.CodeEnds else (
    if eqb n 5 then why.WrongKind else (
    if eqb n 6 then why.NoSuchPlace else (
    if eqb n 7 then why.NoLastResult else (
    if eqb n 14 then why.NoFunction else (
    if eqb n 16 then why.PlaceOutsideCode else (
    if eqb n 17 then why.ResultTooShort else (
    if eqb n 18 then why.NoRunUnderWay else (
    if eqb n 21 then why.StoreFull else (
    if eqb n 22 then why.OverLimit else (
    if eqb n 23 then why.PatchOutsideCode else (
    if eqb n 25 then why.RunUnderWay else (
    why.NotInOrder)))))))))))))

named_back : (e : Refusal) → (refusal_number e ≡ 20 → ⊥) → named (refusal_number e) ≡ e
named_back why.UnknownOpcode h = refl
named_back why.CodeEnds h = refl
named_back why.WrongKind h = refl
named_back why.NoSuchPlace h = refl
named_back why.NoLastResult h = refl
named_back why.NoFunction h = refl
named_back why.PlaceOutsideCode h = refl
named_back why.ResultTooShort h = refl
named_back why.NoRunUnderWay h = refl
named_back why.NotInOrder h = refl
named_back why.StoreFull h = refl
named_back why.OverLimit h = refl
named_back why.PatchOutsideCode h = refl
named_back why.RunUnderWay h = refl
named_back (why.BrokenImage i) h = absurd (h refl)

-- a call of a run reads no image
abbrev NoImage : RunAnswer → Type 0
NoImage (ran c x) = Unit
NoImage (refused n) = n ≡ 20 → ⊥

either_no_image : (b : Bool) (x y : RunAnswer) → NoImage x → NoImage y → NoImage (if b then x else y)
either_no_image true x y p q = p
either_no_image false x y p q = q

reads_no_image : (c : RunCall) (m : Vm) (s : Stores) (l : Lent) → NoImage (run_answer c m s l)
unfolding run_answer begin_answer continue_answer abandon_answer
reads_no_image begins m s l =
    either_no_image (run_order m s l) _ _
    (either_no_image m.run.on _ _ (λ e. omega (arith, e)) (either_no_image (copy_short l) _ _ (λ e. omega (arith, e)) tt)) (λ e. omega (arith, e))
reads_no_image (continues u) m s l =
    either_no_image (run_order m s l) _ _
    (either_no_image m.run.on _ _
    (either_no_image (trace_short l) _ _ (λ e. omega (arith, e)) (either_no_image (ltb 0xFFFF_FFFF_FFFF_FFFF (m.run.given + u)) _ _ (λ e. omega (arith, e)) tt))
    (λ e. omega (arith, e))) (λ e. omega (arith, e))
reads_no_image abandons m s l =
    either_no_image (run_order m s l) _ _
    (either_no_image m.run.on _ _ (either_no_image (trace_short l) _ _ (λ e. omega (arith, e)) tt) (λ e. omega (arith, e))) (λ e. omega (arith, e))

abbrev result_of : Vm → RunAnswer → Result Halt Refusal
result_of m (ran c x) = parted m x
result_of m (refused n) = Err (named n)

pub length_entries : (n i : ℕ) (b : List ℕ) → length (entries_in n i b) ≡ n
unfolding entries_in
length_entries zero i b = refl
length_entries (suc n) i b = ap suc (length_entries n (suc i) b)

result_back : (m : Vm) (l : Lent) (x : Result Halt Refusal) → NoImage (answer_in l x) → result_of (vm_after m x) (answer_in l x) ≡ x
unfolding answer_in
result_back m l (Ok (r.Value m' v n)) h = refl
result_back m l (Ok (r.Continue m' n)) h = refl
result_back m l (Ok (r.Fault m' k n j)) h = rw (length_entries j 0 l.backtrace)
result_back m l (Ok (r.Paused m')) h = refl
result_back m l (Err e) h = ap Err (named_back e h)

-- ---- a run is over, or paused, or the call was refused

pub data Seen (m : Vm) (s : Stores) (l : Lent) (x : Result Halt Refusal) (l' : Lent) : Type 0 where
  over : (y : Reply) → answer_in l' x ≡ ended_as (vm_after m x) l' y → Leaves false (vm_after m x) s l' → Seen m s l x l'
  waits : answer_in l' x ≡ ran (unchanged (vm_after m x)) (pauses (under_in (vm_after m x) l')) → Leaves true (vm_after m x) s l' → Seen m s l x l'
  stayed : (n : ℕ) → answer_in l' x ≡ refused n → vm_after m x ≡ m → l' ≡ l → Seen m s l x l'

pub seen : (m : Vm) (s : Stores) (l : Lent) (x : Result Halt Refusal) (l' : Lent) → Left s l x l' → Seen m s l x l'
unfolding answer_in
seen m s l (Ok (r.Value m' v n)) l' e = over (value v n) refl e
seen m s l (Ok (r.Continue m' n)) l' e = over (continue n) refl e
seen m s l (Ok (r.Fault m' k n j)) l' e = over (fault k n (entries_in j 0 l'.backtrace)) refl e
seen m s l (Ok (r.Paused m')) l' e = waits refl e
seen m s l (Err r) l' e = stayed (refusal_number r) refl refl e

-- ---- the lengths of stores

copied_room : (m : Vm) (l : Lent) (a : RunAnswer) → length (copied m l a) ≡ length l.copy
unfolding copied written
copied_room m l (ran c x) = simp length-sets
copied_room m l (refused n) = refl

copy_room_lem : (c : RunCall) (m : Vm) (s : Stores) (l : Lent) → length (copy_after c m s l) ≡ length l.copy
unfolding copy_after
copy_room_lem begins m s l = copied_room m l (begin_answer m s l)
copy_room_lem (continues u) m s l = refl
copy_room_lem abandons m s l = refl

trace_room : (l : Lent) (a : RunAnswer) → length (trace_after l a) ≡ length l.backtrace
unfolding trace_after written
trace_room l (ran c x) = simp length-sets
trace_room l (refused n) = refl

-- a call of a run leaves every lent store as long as it was
pub ran_rooms : (c : RunCall) (m : Vm) (s : Stores) {l l' : Lent} {x : Result Halt Refusal} → RunPost c m s l x l' → Rooms l' l
ran_rooms c m s {l} p = record {
  stack = p.rooms.stack;
  cells = p.rooms.cells;
  frames = p.rooms.frames;
  copy = ap length p.copy ∙ copy_room_lem c m s l;
  backtrace = ap length p.backtrace ∙ trace_room l (run_answer c m s l);
}

rooms_of : {m : Vm} {l k : Lent} → LentAlike m l k → Rooms l k
rooms_of a = record { stack = a.stack.room; cells = a.cells.room; frames = a.frames.room; copy = a.copy.room; backtrace = a.backtrace }

-- an answer is of one kind
over_waits : {A : Type 0} {c d : Unchanged} {x : Ran} {r : Under} → ran c (ends x) ≡ ran d (pauses r) → A
over_waits e = absurd (let z : ◌≡◌ {A = ℕ} 0 1 = cc in let b : ⊥ = omega arith in b)

pub ran_refused : {A : Type 0} {c : Unchanged} {x : Part} {n : ℕ} → ran c x ≡ refused n → A
ran_refused e = absurd (let z : ◌≡◌ {A = ℕ} 0 1 = cc in let b : ⊥ = omega arith in b)

module _ (c : RunCall) (m : Vm) (s : Stores) {l k l' k' : Lent} {x y : Result Halt Refusal} (before : LentAlike m l k) (p : RunPost c m s l x l') (q : RunPost c m s k y k') where
  rooms : Rooms l' k'
  rooms = rooms_then (ran_rooms c m s p) (rooms_then (rooms_of before) (rooms_back (ran_rooms c m s q)))

  pub same_answer : answer_in l' x ≡ answer_in k' y
  same_answer = p.answer ∙ answer_alike m s before c ∙ sym q.answer

  abbrev one : Vm
  one = vm_after m x

  abbrev other : Vm
  other = vm_after m y

  both_over : (a b : Reply) → ended_as one l' a ≡ ended_as other k' b → Leaves false one s l' → Leaves false other s k' → FixedBy one other l' k'
  both_over a b z o d =
      let kept : unchanged one ≡ unchanged other = cc in
      let same : ◌≡◌ {A = Ran} (record { reply = a; machine = machine_in one l' }) (record { reply = b; machine = machine_in other k' }) = cc in
      machine_fixes s s o.order d.order rooms kept (o.run ∙ sym d.run)
      (idle_under one other l' k' (idle_of one s l' o.order o.run) (idle_of other s k' d.order d.run) (ap (λ (t : Ran). t.machine) same))

  both_wait : ran (unchanged one) (pauses (under_in one l')) ≡ ran (unchanged other) (pauses (under_in other k')) → Leaves true one s l' → Leaves true other s k' → FixedBy one other l' k'
  both_wait z o d =
      let kept : unchanged one ≡ unchanged other = cc in
      let under : under_in one l' ≡ under_in other k' = cc in
      machine_fixes s s o.order d.order rooms kept (o.run ∙ sym d.run) under

  leaves : Seen m s l x l' → Seen m s k y k' → FixedBy one other l' k'
  leaves (over a e o) (over b f d) = both_over a b (sym e ∙ same_answer ∙ f) o d
  leaves (over a e o) (waits f d) = over_waits (sym e ∙ same_answer ∙ f)
  leaves (over a e o) (stayed n f v g) = ran_refused (sym e ∙ same_answer ∙ f)
  leaves (waits e o) (over b f d) = over_waits (sym f ∙ sym same_answer ∙ e)
  leaves (waits e o) (waits f d) = both_wait (sym e ∙ same_answer ∙ f) o d
  leaves (waits e o) (stayed n f v g) = ran_refused (sym e ∙ same_answer ∙ f)
  leaves (stayed n e v g) (over b f d) = ran_refused (sym f ∙ sym same_answer ∙ e)
  leaves (stayed n e v g) (waits f d) = ran_refused (sym f ∙ sym same_answer ∙ e)
  leaves (stayed n e v g) (stayed i f w d) = record { vm = v ∙ sym w; lent = rw (v, g, d) before }

  fixed : FixedBy one other l' k'
  fixed = leaves (seen m s l x l' p.left) (seen m s k y k' q.left)

  pub same_vm : vm_after m x ≡ vm_after m y
  same_vm = fixed.vm

  pub same_lent : LentAlike (vm_after m x) l' k'
  same_lent = fixed.lent

  same_result : x ≡ y
  same_result =
      let e = same_answer in let v = same_vm in
      sym (result_back m l' x (subst NoImage (sym p.answer) (reads_no_image c m s l))) ∙ ap (λ (t : RunAnswer). result_of (vm_after m x) t) e ∙ ap (λ (t : Vm). result_of t (answer_in k' y)) v ∙ result_back m k' y (subst NoImage (sym q.answer) (reads_no_image c m s k))

-- DEMAND 4: two outcomes that fit the contract of one call of a run are the same but for slots past the counts
pub run_one : (c : RunCall) (m : Vm) (s : Stores) (l : Lent) {x y : Result Halt Refusal} {l' k' : Lent} → RunPost c m s l x l' → RunPost c m s l y k' → SameRun m x y l' k'
run_one c m s l p q =
    let before : LentAlike m l l = record { stack = alike_same _ _; cells = alike_same _ _; frames = alike_same _ _; copy = alike_same _ _; backtrace = refl } in
    record {
      result = same_result c m s before p q;
      copy = p.copy ∙ sym q.copy;
      backtrace = p.backtrace ∙ sym q.backtrace;
      lent = same_lent c m s before p q;
    }
