-- Through the entries: what the check passed, and what was loaded of an image whose program passes, is installed; and so it runs.
use Rattle.std.specs.Prelude.{if◌then◌else◌, Err, Ok, Result}
use mathlib.Core.Path.{◌≡◌, refl, sym, ap, subst, ◌∙◌}
use mathlib.Core.Bool.{Bool, true, false, ◌&&◌}
use mathlib.Core.List.{List, [], ◌∷◌}
use mathlib.Mathlib.Data.Bool.Basic.{and_elim_left as and_left, and_elim_right as and_right}
use Prim.Native.Nat.{ℕ, zero, suc, ◌≤◌}
use native.Mathlib.Omega.{arith}
use lib.Dec.{leb}
use lib.ListN.{length, set, drop, get_or-append}
use borrow.Author.Tests.{leb-true}
use Rattle.model.specs.declared.Counts.{Counts}
use Rattle.model.specs.declared.Frame.{Frame}
use Rattle.model.specs.declared.Vm.{Vm}
use Rattle.model.specs.declared.Halt.TheVariants as r
use Rattle.model.specs.Numbers.{Bytes}
use Rattle.model.specs.Values.{places}
use Rattle.model.specs.Programs.{Program, within_limits}
use Rattle.model.specs.Images.{fine, judge}
use Rattle.model.specs.Stores.{Stores}
use Rattle.model.specs.Emission.{written}
use Rattle.model.specs.Loading.{laid, counts_for, room_for, LoadRes, load_judged, load_of}
use Rattle.model.specs.Runs.{root}
use Rattle.model.specs.Machines.{Lent, innermost, fresh, StartRes, start_with, unless_running, load_machine_of, RunCall, RunPost}
use Rattle.layout.proofs.Parts.{room_1}
use Rattle.laws_images.proofs.Held.{written_front}
use Rattle.image.proofs.Trip.{image_only, loaded_stands}
use Rattle.check_rules.specs.Rules.{Passed}
use Rattle.check_rules.specs.Checks.{HeightsOf, CheckAs, not_an_image, no_place_lem, past_a_limit, no_room, breaks, passes}
use Rattle.embed_words.specs.Coding.{Coded, vm_in, vm_words, slices_refusal}
use Rattle.embed_words.proofs.Back.{record_back}
use Rattle.check_words.specs.Words.{has_places, has_room, CheckIdle, CheckThrough}
use Rattle.check_words.specs.Words as cw
use Rattle.check_words.proofs.Judged.{an_image_has_main}
use Rattle.laws_installed.specs.Installed.{Installed, by_entries, FromC, UnderWay, begun, continued, Answers, beginning, continuing, abandoning, FaultsSo, Tells, StaysWithin}
use Rattle.laws_installed.proofs.Running.{installed_runs_so, installed_stays_within}
use Rattle.model.specs.declared.Halt.{Halt}
use Rattle.model.specs.declared.Refusal.{Refusal}
use Rattle.check_rules.specs.declared.Rejected.{Rejected}
use Rattle.model.specs.declared.Refusal.TheVariants as why

-- a program that was laid in stores with the room, and a machine that has not run
laid_is_installed : (image : List ℕ) (p : Program) (s : Stores) → Bytes image → judge image ≡ fine p → within_limits p ≡ true → room_for p s ≡ true
    → (l : Lent) → innermost 1 l.frames ≡ root 0 → Installed p (fresh (counts_for p)) (laid p s) l
unfolding fresh
laid_is_installed image p s bytes j within room l frame = record {
  main = an_image_has_main image p j;
  program = (loaded_stands p s (image_only image p bytes j).1 within room).1;
  stack = refl;
  frames = refl;
  frame = frame;
}

-- the heights stand in their store
written_tells : (p : Program) (heights hs : List ℕ) → length p.functions ≤ places 1 heights → HeightsOf p hs → Tells p (written heights 0 hs)
written_tells p heights hs room h f known =
    let many = h.many in
    let most = (room_1 heights).0 in
    rw (written_front heights hs (omega arith), get_or-append hs (drop (length hs) heights) 0 f (omega arith)) (h.greatest f known)

-- ---- what the check leaves where it passed

pub record Leaves (k : Counts) (hs : List ℕ) (s : Stores) : Type 0 where
  pub program : Program
  pub passed : Passed program
  pub tells : Tells program hs
  pub installed : (l : Lent) → innermost 1 l.frames ≡ root 0 → Installed program (fresh k) s l

not_done : {r : Refusal} {m : Vm} → ◌≡◌ {A = Result Vm Refusal} (Err r) (Ok m) → ⊥
not_done e = let z : ◌≡◌ {A = ℕ} 0 1 = cc in omega arith

one_machine : {m k : Vm} → ◌≡◌ {A = Result Vm Refusal} (Ok m) (Ok k) → m ≡ k
one_machine e = cc

module _ (image heights : List ℕ) (s : Stores) (bytes : Bytes image) where
  leaves_so : {x : Result Counts Rejected} {hs : List ℕ} {s' : Stores} → CheckAs image heights s x hs s' → (k : Counts) → x ≡ Ok k → Leaves k hs s'
  leaves_so (not_an_image j) k e = absurd (let z : ◌≡◌ {A = ℕ} 0 1 = cc in let y : ⊥ = omega arith in y)
  leaves_so (no_place_lem j m) k e = absurd (let z : ◌≡◌ {A = ℕ} 0 1 = cc in let y : ⊥ = omega arith in y)
  leaves_so (past_a_limit j m w) k e = absurd (let z : ◌≡◌ {A = ℕ} 0 1 = cc in let y : ⊥ = omega arith in y)
  leaves_so (no_room j m w r) k e = absurd (let z : ◌≡◌ {A = ℕ} 0 1 = cc in let y : ⊥ = omega arith in y)
  leaves_so (breaks j m w r b) k e = absurd (let z : ◌≡◌ {A = ℕ} 0 1 = cc in let y : ⊥ = omega arith in y)
  leaves_so (passes {p} j m w r ok {hs} h) k e =
      let same : counts_for p ≡ k = cc in
      record {
        program = p;
        passed = ok;
        tells = written_tells p heights hs m h;
        installed = λ l f. subst (λ (n : Counts). Installed p (fresh n) (laid p s) l) same (laid_is_installed image p s bytes j w r l f);
      }

  module _ {k : Counts} {hs : List ℕ} {s' : Stores} (h : CheckAs image heights s (Ok k) hs s') (l : Lent) (frame : innermost 1 l.frames ≡ root 0) where
    pub checked_runs_so : (g : ℕ) (x : Result Halt Refusal) (l' : Lent) → Answers (by_entries s') (fresh k) l g x l' → FaultsSo (fresh k) s' l g l' x
    checked_runs_so g x l' answer = let left = leaves_so h k refl in installed_runs_so (fresh k) s' l left.passed (left.installed l frame) x answer

    pub checked_stays_within : StaysWithin (by_entries s') (fresh k) s' l hs
    checked_stays_within = let left = leaves_so h k refl in installed_stays_within left.passed (left.installed l frame) hs left.tells

-- ---- what loading leaves of an image whose program keeps the rules

module _ (image : List ℕ) (s : Stores) (bytes : Bytes image) (p : Program) (j : judge image ≡ fine p) (ok : Passed p) where
  -- what loading leaves, by whether it is within the limits and there is room
  abbrev loaded : Bool → Bool → LoadRes
  loaded within room =
      if within
      then (if room then record { answer = Ok (counts_for p); stores = laid p s } else record { answer = Err why.StoreFull; stores = s })
      else record { answer = Err why.OverLimit; stores = s }

  loaded_is : (within room : Bool) → within_limits p ≡ within → room_for p s ≡ room → (fs : List Frame) {m : Vm} {s' : Stores} {fs' : List Frame}
      → start_with (loaded within room).answer (loaded within room).stores s fs ≡ record { answer = Ok m; stores = s'; frames = fs' }
      → (l : Lent) → l.frames ≡ fs' → Installed p m s' l
  unfolding start_with innermost
  loaded_is false room w r fs e l f = absurd (not_done (ap (λ (x : StartRes). x.answer) e))
  loaded_is true false w r fs e l f = absurd (not_done (ap (λ (x : StartRes). x.answer) e))
  loaded_is true true w r [] e l f = absurd (not_done (ap (λ (x : StartRes). x.answer) e))
  loaded_is true true w r (x ∷ fs) {m} {s'} e l f =
      let machine : fresh (counts_for p) ≡ m = one_machine (ap (λ (y : StartRes). y.answer) e) in
      let stores : laid p s ≡ s' = ap (λ (y : StartRes). y.stores) e in
      let frames : l.frames ≡ root 0 ∷ fs = f ∙ sym (ap (λ (y : StartRes). y.frames) e) in
      subst (λ (v : Vm). Installed p v s' l) machine
      (subst (λ (t : Stores). Installed p (fresh (counts_for p)) t l) stores (laid_is_installed image p s bytes j w r l (rw frames)))

  pub loaded_runs_so : (running : Bool) (fs : List Frame) {m : Vm} {s' : Stores} {fs' : List Frame} → load_machine_of running image s fs ≡ record { answer = Ok m; stores = s'; frames = fs' }
      → (l : Lent) → l.frames ≡ fs' → (g : ℕ) (x : Result Halt Refusal) (l' : Lent) → Answers (by_entries s') m l g x l' → FaultsSo m s' l g l' x
  unfolding load_machine_of unless_running load_of load_judged
  loaded_runs_so true fs e l f g x l' answer = absurd (not_done (ap (λ (y : StartRes). y.answer) e))
  loaded_runs_so false fs {m} {s'} e l f g x l' answer =
      installed_runs_so m s' l ok (loaded_is (within_limits p) (room_for p s) refl refl fs (rw j at e) l f) x answer

-- ---- the same for a host in C

-- not a refusal
abbrev IsRun : Result Halt Refusal → Type 0
IsRun (Ok (r.Value m v n)) = Unit
IsRun (Ok (r.Continue m n)) = Unit
IsRun (Ok (r.Fault m k n j)) = Unit
IsRun (Ok (r.Paused m)) = Unit
IsRun (Err e) = ⊥

-- what is called from C and not refused is called through the entry
module _ {s : Stores} where
  part_from_C : {c : RunCall} {m : Vm} {l : Lent} {x : Result Halt Refusal} {l' : Lent} → FromC s c m l x l' → IsRun x → by_entries s c m l x l'
  part_from_C {c} {m} {l} {x} {l'} h ran = by (slices_refusal h.words 5 h.answer) refl
    where
      by : (n : ℕ) → slices_refusal h.words 5 h.answer ≡ n → RunPost c m s l x l'
      by zero e = subst (λ (k : Vm). RunPost c k s l x l') h.is (subst (λ (y : Result Halt Refusal). RunPost c (vm_in h.words) s l y l') h.result (h.run.runs e))
      by (suc n) e = absurd (subst IsRun (sym h.result ∙ (h.run.refuses (λ y. omega (arith, e, y))).1) ran)

  under_way_from_C : {m : Vm} {l : Lent} {g : ℕ} {k : Vm} {l' : Lent} → UnderWay (FromC s) m l g k l' → UnderWay (by_entries s) m l g k l'
  under_way_from_C (begun part) = begun (part_from_C part tt)
  under_way_from_C (continued before part) = continued (under_way_from_C before) (part_from_C part tt)

  answers_from_C : {m : Vm} {l : Lent} {g : ℕ} {x : Result Halt Refusal} {l' : Lent} → Answers (FromC s) m l g x l' → IsRun x → Answers (by_entries s) m l g x l'
  answers_from_C (beginning part) ran = beginning (part_from_C part ran)
  answers_from_C (continuing before part) ran = continuing (under_way_from_C before) (part_from_C part ran)
  answers_from_C (abandoning before part) ran = abandoning (under_way_from_C before) (part_from_C part ran)

-- a record in which a fresh machine was written is read back as that machine
fresh_back : (w : List ℕ) (k : Counts) → 17 ≤ length w → vm_in (written w 0 (vm_words (fresh k))) ≡ fresh k
unfolding fresh
fresh_back w k n = (record_back w (fresh k) n tt).machine

root_first : (fs : List Frame) → innermost 1 (set fs 0 (root 0)) ≡ root 0
unfolding innermost
root_first [] = refl
root_first (f ∷ fs) = refl

-- a machine's words, where the check passed
record LeavesWords (w hs : List ℕ) (s : Stores) (fs : List Frame) : Type 0 where
  program : Program
  passed : Passed program
  tells : Tells program hs
  installed : (l : Lent) → l.frames ≡ fs → Installed program (vm_in w) s l

module _ (image w a heights : List ℕ) (s : Stores) (fs : List Frame) (bytes : Bytes image) where
  idle_leaves : {d : Coded} {hs : List ℕ} {s' : Stores} {fs' : List Frame} → CheckIdle image w a heights s fs d hs s' fs' → d.number ≡ 0 → LeavesWords d.vm hs s' fs'
  unfolding has_places has_room
  idle_leaves (cw.not_an_image j) z = absurd (let y : ⊥ = omega (arith, z) in y)
  idle_leaves (cw.no_place_lem j m) z = absurd (let y : ⊥ = omega (arith, z) in y)
  idle_leaves (cw.past_a_limit j m b) z = absurd (let y : ⊥ = omega (arith, z) in y)
  idle_leaves (cw.no_room j m b r) z = absurd (let y : ⊥ = omega (arith, z) in y)
  idle_leaves (cw.breaks j m b r d) z = absurd (let y : ⊥ = omega (arith, z) in y)
  idle_leaves (cw.passes {p} j m b r ok {hs} h) z =
      let long = and_left (leb 17 (length w) && leb 2 (length a)) (leb (length p.functions) (places 1 heights)) m in
      let seventeen = leb-true 17 (length w) (and_left (leb 17 (length w)) (leb 2 (length a)) long) in
      let room = leb-true _ _ (and_right (leb 17 (length w) && leb 2 (length a)) (leb (length p.functions) (places 1 heights)) m) in
      record {
        program = p;
        passed = ok;
        tells = written_tells p heights hs room h;
        installed = λ l f. subst (λ (v : Vm). Installed p v (laid p s) l) (sym (fresh_back w (counts_for p) seventeen))
            (laid_is_installed image p s bytes j b (and_left (room_for p s) (leb 1 (length fs)) r) l (rw f (root_first fs)));
      }

  leaves_words : {d : Coded} {hs : List ℕ} {s' : Stores} {fs' : List Frame} → CheckThrough image w a heights s fs d hs s' fs' → d.number ≡ 0 → LeavesWords d.vm hs s' fs'
  leaves_words (cw.under_way_lem on) z = absurd (let y : ⊥ = omega (arith, z) in y)
  leaves_words (cw.idle off h) z = idle_leaves h z

  module _ {d : Coded} {hs : List ℕ} {s' : Stores} {fs' : List Frame} (h : CheckThrough image w a heights s fs d hs s' fs') (z : d.number ≡ 0) (l : Lent) (f : l.frames ≡ fs') where
    pub host_runs_so : (g : ℕ) (x : Result Halt Refusal) (l' : Lent) → Answers (FromC s') (vm_in d.vm) l g x l' → FaultsSo (vm_in d.vm) s' l g l' x
    host_runs_so g (Ok (r.Value k v n)) l' answer = tt
    host_runs_so g (Ok (r.Continue k n)) l' answer = tt
    host_runs_so g (Ok (r.Fault k n did j)) l' answer =
        let left = leaves_words h z in
        installed_runs_so (vm_in d.vm) s' l left.passed (left.installed l f) (Ok (r.Fault k n did j)) (answers_from_C answer tt)
    host_runs_so g (Ok (r.Paused k)) l' answer = tt
    host_runs_so g (Err e) l' answer = tt

    pub host_stays_within : StaysWithin (FromC s') (vm_in d.vm) s' l hs
    host_stays_within =
        let left = leaves_words h z in
        let within = installed_stays_within left.passed (left.installed l f) hs left.tells in
        record { whole = within.whole; parts = λ way. within.parts (under_way_from_C way) }
