-- A call of a run that was not refused: what it comes to is what the rules say, and what is then held stands for that.
use Rattle.std.specs.Prelude.{if◌then◌else◌}
use mathlib.Core.Path.{◌≡◌, refl, sym, ap, subst, ◌∙◌}
use mathlib.Core.Bool.{Bool, true, false}
use Prim.Native.Nat.{ℕ, ◌+◌}
use lib.Dec.{ltb}
use Rattle.model.specs.Runs.{Part, ends, pauses, begin_of, continue_of, abandon_of}
use Rattle.model.specs.Machines.{frame_room, machine_in, under_in, world_of, run_order, copy_short, trace_short, Unchanged, unchanged, refused, RunCall, begins, continues, abandons, begin_answer, continue_answer, abandon_answer, run_answer, ended_as}
use Rattle.model.specs.Machines as m
use Rattle.laws_runs.proofs.Ordered.{idle_of}
use Rattle.demands.specs.Host.{Held, Answer, ran, vm_after, RanBy}
use Rattle.demands.specs.Agree.{Rooms}
use Rattle.demands.specs.Meant.{world_in, machine_of, under_of}
use Rattle.demands.specs.Parts.{Stands}
use Rattle.demands.proofs.Fronts.{places_alike}
use Rattle.demands.proofs.OneRun.{Seen, over, waits, stayed, seen, ran_rooms, ran_refused}

-- ---- by the rules

pub record Began (h : Held) (c : Unchanged) (x : Part) : Type 0 where
  pub order : run_order h.vm h.stores h.lent ≡ true
  pub idle : h.vm.run.on ≡ false
  pub room : copy_short h.lent ≡ false
  pub kept : c ≡ unchanged h.vm
  pub is : x ≡ begin_of (world_in h) (machine_of h)

-- a continuing or an abandoning
pub record Resumed (h : Held) (c : Unchanged) (x want : Part) : Type 0 where
  pub order : run_order h.vm h.stores h.lent ≡ true
  pub on : h.vm.run.on ≡ true
  pub kept : c ≡ unchanged h.vm
  pub is : x ≡ want

abbrev pub ByRules : RunCall → Held → Unchanged → Part → Type 0
ByRules begins h c x = Began h c x
ByRules (continues u) h c x = Resumed h c x (continue_of (world_in h) (under_of h) u)
ByRules abandons h c x = Resumed h c x (ends (abandon_of (world_in h) (under_of h)))

module _ (h : Held) (c : Unchanged) (x : Part) where
  began_by : (order on short : Bool) → run_order h.vm h.stores h.lent ≡ order → h.vm.run.on ≡ on → copy_short h.lent ≡ short
      → m.ran c x ≡ (if order then (if on then refused 25 else (if short then refused 17 else m.ran (unchanged h.vm) (begin_of (world_in h) (machine_of h)))) else refused 19) → Began h c x
  began_by true true short a b d e = ran_refused e
  began_by true false true a b d e = ran_refused e
  began_by true false false a b d e = record { order = a; idle = b; room = d; kept = cc; is = cc }
  began_by false on short a b d e = ran_refused e

  continued_by : (want : Part) (order on short much : Bool) → run_order h.vm h.stores h.lent ≡ order → h.vm.run.on ≡ on
      → m.ran c x ≡ (if order then (if on then (if short then refused 17 else (if much then refused 22 else m.ran (unchanged h.vm) want)) else refused 18) else refused 19)
      → Resumed h c x want
  continued_by want true true true much a b e = ran_refused e
  continued_by want true true false true a b e = ran_refused e
  continued_by want true true false false a b e = record { order = a; on = b; kept = cc; is = cc }
  continued_by want true false short much a b e = ran_refused e
  continued_by want false on short much a b e = ran_refused e

  -- an abandoning is not refused 22
  pub by_rules : (call : RunCall) → m.ran c x ≡ run_answer call h.vm h.stores h.lent → ByRules call h c x
  unfolding run_answer begin_answer continue_answer abandon_answer
  by_rules begins e = began_by (run_order h.vm h.stores h.lent) h.vm.run.on (copy_short h.lent) refl refl refl e
  by_rules (continues u) e =
      continued_by _ (run_order h.vm h.stores h.lent) h.vm.run.on (trace_short h.lent) (ltb 0xFFFF_FFFF_FFFF_FFFF (h.vm.run.given + u)) refl refl e
  by_rules abandons e = continued_by _ (run_order h.vm h.stores h.lent) h.vm.run.on (trace_short h.lent) false refl refl e

  pub all_unchanged : (call : RunCall) → m.ran c x ≡ run_answer call h.vm h.stores h.lent → c ≡ unchanged h.vm
  all_unchanged begins e = (by_rules begins e).kept
  all_unchanged (continues u) e = (by_rules (continues u) e).kept
  all_unchanged abandons e = (by_rules abandons e).kept

-- ---- what is then held

-- a world knows of the lent stores their rooms alone, and of the machine its program and setting
pub same_world : (h h' : Held) → h'.vm.program ≡ h.vm.program → h'.vm.strict ≡ h.vm.strict → h'.stores ≡ h.stores → Rooms h'.lent h.lent → world_in h' ≡ world_in h
unfolding world_of frame_room
same_world h h' p b s r = rw (p, b, s, places_alike h'.lent.stack h.lent.stack r.stack 2, places_alike h'.lent.cells h.lent.cells r.cells 2, r.frames)

-- x was come to, and k is held
pub record Went (h : Held) (x : Part) (k : Held) : Type 0 where
  pub program : k.vm.program ≡ h.vm.program
  pub strict : k.vm.strict ≡ h.vm.strict
  pub stores : k.stores ≡ h.stores
  pub rooms : Rooms k.lent h.lent
  pub order : run_order k.vm k.stores k.lent ≡ true
  pub stands : Stands x k

module _ {call : RunCall} {h k : Held} {a : Answer} (p : RanBy call h a k) where
  pub answers : a ≡ ran (run_answer call h.vm h.stores h.lent)
  answers = p.answer ∙ ap ran p.post.answer

  -- a refusal changes nothing
  stays_by : (n : ℕ) → run_answer call h.vm h.stores h.lent ≡ refused n → Seen h.vm h.stores h.lent p.result k.lent → k ≡ h
  stays_by n e (over y q o) = ran_refused (sym q ∙ p.post.answer ∙ e)
  stays_by n e (waits q o) = ran_refused (sym q ∙ p.post.answer ∙ e)
  stays_by n e (stayed i q v l) = rw (p.vm ∙ v, p.stores, l)

  pub stays : (n : ℕ) → run_answer call h.vm h.stores h.lent ≡ refused n → k ≡ h
  stays n e = stays_by n e (seen h.vm h.stores h.lent p.result k.lent p.post.left)

  module _ {c : Unchanged} {x : Part} (e : run_answer call h.vm h.stores h.lent ≡ m.ran c x) where
    left : (order : run_order (vm_after h.vm p.result) h.stores k.lent ≡ true) → Stands x k → unchanged (vm_after h.vm p.result) ≡ c → Went h x k
    left o st same = record {
      program = ap (λ (v : _). v.program) p.vm ∙ ap (λ (v : Unchanged). v.program) (same ∙ all_unchanged h c x call (sym e));
      strict = ap (λ (v : _). v.strict) p.vm ∙ ap (λ (v : Unchanged). v.strict) (same ∙ all_unchanged h c x call (sym e));
      stores = p.stores;
      rooms = ran_rooms call h.vm h.stores p.post;
      order = rw (p.vm, p.stores) o;
      stands = st;
    }

    went_by : Seen h.vm h.stores h.lent p.result k.lent → Went h x k
    went_by (over y q o) =
        let z : ended_as (vm_after h.vm p.result) k.lent y ≡ m.ran c x = sym q ∙ p.post.answer ∙ e in
        let same : ◌≡◌ {A = Part} (ends (record { reply = y; machine = machine_in (vm_after h.vm p.result) k.lent })) x = cc in
        left o.order (subst (λ (w : Part). Stands w k) same (record { machine = rw p.vm; run = rw p.vm (idle_of _ h.stores k.lent o.order o.run) })) cc
    went_by (waits q o) =
        let z : m.ran (unchanged (vm_after h.vm p.result)) (pauses (under_in (vm_after h.vm p.result) k.lent)) ≡ m.ran c x = sym q ∙ p.post.answer ∙ e in
        let same : ◌≡◌ {A = Part} (pauses (under_in (vm_after h.vm p.result) k.lent)) x = cc in
        left o.order (subst (λ (w : Part). Stands w k) same (record { under = rw p.vm; on = rw p.vm o.run })) cc
    went_by (stayed n q v l) = ran_refused (sym e ∙ sym p.post.answer ∙ q)

    pub went : Went h x k
    went = went_by (seen h.vm h.stores h.lent p.result k.lent p.post.left)

-- a call that answered so
pub answered_so : {call : RunCall} {h k : Held} {c : Unchanged} {x : Part} → RanBy call h (ran (m.ran c x)) k → run_answer call h.vm h.stores h.lent ≡ m.ran c x
answered_so {call} {h} {k} {c} {x} p = let e = answers p in let z : m.ran c x ≡ run_answer call h.vm h.stores h.lent = cc in sym z

pub refused_so : {call : RunCall} {h k : Held} {n : ℕ} → RanBy call h (ran (refused n)) k → run_answer call h.vm h.stores h.lent ≡ refused n
refused_so {call} {h} {k} {n} p = let e = answers p in let z : refused n ≡ run_answer call h.vm h.stores h.lent = cc in sym z
