-- Calls one after another: machines that mean the same say the same, whatever the calls.
use Rattle.std.specs.Prelude.{if◌then◌else◌, None, Option, Some}
use mathlib.Core.Path.{◌≡◌, refl}
use mathlib.Core.Bool.{Bool, true, false, ◌||◌}
use mathlib.Core.List.{List, [], ◌∷◌}
use Prim.Native.Nat.{ℕ}
use native.Mathlib.Omega.{arith}
use lib.Dec.{eqb}
use Rattle.model.specs.declared.Vm.{Vm}
use Rattle.model.specs.declared.Value.{Value}
use Rattle.model.specs.Heap.{Cell}
use Rattle.model.specs.Steps.{World, State}
use Rattle.model.specs.Runs.{Machine}
use Rattle.model.specs.Machines.{Lent, machine_in, progress_in, under_in}
use Rattle.layout.proofs.Bools.{either_way}
use Rattle.laws_meaning.specs.Alike.{AlikeValues, AlikeLast, AlikeMachine, AlikeUnder, Answers}
use Rattle.laws_meaning.specs.Alike as al
use Rattle.demands.specs.Host.{Held, Call, run, ask, Answer, After, Chain, none, more}
use Rattle.demands.specs.Agree.{Rooms}
use Rattle.demands.specs.Jobs.{job_of, is_makes, anew, AllTyped}
use Rattle.demands.specs.Meant.{world_in, machine_of, under_of, Fine, AlikeHeld, said, AlikeChains}
use Rattle.demands.proofs.Orderly.{typed_first, typed_rest}
use Rattle.demands.proofs.Fixed.{machine_under}
use Rattle.demands.proofs.Bytes.{fine_kept}
use Rattle.demands.proofs.Went.{same_world}
use Rattle.demands.proofs.MeantRuns.{AlikeCall, run_said}
use Rattle.demands.proofs.MeantAsks.{ask_said}

pub call_alike : {r : Bool} (c : Call) {h d h' d' : Held} {x y : Answer} → AlikeHeld r h d → (anew (c ∷ []) ≡ true → r ≡ true) → AllTyped (c ∷ []) → After c h x h'
    → After c d y d' → AlikeCall r c x h' y d'
unfolding anew AllTyped
call_alike (run c) {x = x} {y = y} a n t p q = run_said a c (fine_kept (run c) x t p a.fine) (fine_kept (run c) y t q a.beside) p q
call_alike (ask i) a n t p q = rw (p, q) at (ask_said a i t.0 (λ e. n (rw e)))

pub anew_first : (c : Call) (cs : List Call) → anew (c ∷ []) ≡ true → anew (c ∷ cs) ≡ true
unfolding anew
anew_first (run c) cs e = absurd (let z : ◌≡◌ {A = ℕ} 0 1 = cc in let y : ⊥ = omega arith in y)
anew_first (ask q) cs e = first (is_makes (job_of q)) (anew cs) e
  where
    first : (b z : Bool) → (b || false) ≡ true → (b || z) ≡ true
    first true z e = refl
    first false z e = absurd (let q : ◌≡◌ {A = ℕ} 0 1 = cc in let y : ⊥ = omega arith in y)

pub anew_rest : (c : Call) (cs : List Call) → anew cs ≡ true → anew (c ∷ cs) ≡ true
unfolding anew
anew_rest (run c) cs e = e
anew_rest (ask q) cs e = rest (is_makes (job_of q)) (anew cs) e
  where
    rest : (b z : Bool) → z ≡ true → (b || z) ≡ true
    rest true z e = refl
    rest false z e = e

-- whatever calls come
pub chain_alike : {r : Bool} {cs : List Call} {h d e f : Held} {xs ys : List Answer} → AlikeHeld r h d → (anew cs ≡ true → r ≡ true) → AllTyped cs
    → (p : Chain cs h xs e) (q : Chain cs d ys f) → AlikeChains r p q
unfolding said
chain_alike a n t none none = record { says = refl; held = a }
chain_alike a n t (more {c = c} {cs = cs} p ps) (more q qs) =
    let x = call_alike c a (λ e. n (anew_first c cs e)) (typed_first c cs t) p q in
    let y = chain_alike x.held (λ e. n (anew_rest c cs e)) (typed_rest c cs t) ps qs in
    record { says = rw (x.says, y.says); held = y.held }

-- ---- the same machine, wherever it stands, means the same

values_self : (t : List ℕ) (H : List Cell) (xs : List Value) → AlikeValues t t H H xs xs
values_self t H [] = al.none
values_self t H (x ∷ xs) = al.more refl (values_self t H xs)

last_self : (t : List ℕ) (H : List Cell) (x : Option Value) → AlikeLast t t H H x x
last_self t H None = al.nothing
last_self t H (Some x) = al.is refl

pub machine_self : (w : World) (m : Machine) → AlikeMachine w (record { text = w.text; constants = w.constants; cell_room = w.cell_room }) m m
machine_self w m = record { stack = values_self w.text m.heap m.stack; last = last_self w.text m.heap m.last; frame = refl; callers = refl; free = refl }

-- so does a run under way: what it would answer is its last result, if it had a root Return
answer_self : (returns : ℕ) (s : State) → Answers s s (if eqb returns 0 then None else s.last) (if eqb returns 0 then None else s.last)
answer_self returns s = either_way (eqb returns 0) (λ e. rw e (al.not_yet refl refl)) (λ e. rw e (al.latest refl refl))

pub under_self : (w : World) (m : Vm) (l : Lent) → AlikeUnder w (record { text = w.text; constants = w.constants; cell_room = w.cell_room }) (under_in m l) (under_in m l)
unfolding under_in progress_in machine_in
under_self w m l = record {
  given = refl;
  state = record { machine = machine_self w (machine_in m l); spent = refl; units = refl };
  start = values_self _ _ _;
  marks = record { last = last_self _ _ _; free = refl; returns = refl };
  answers = answer_self m.run.returns _;
}

pub self_alike : (r : Bool) {h d : Held} → Fine h → Fine d → d.vm.program ≡ h.vm.program → d.vm.strict ≡ h.vm.strict → d.stores ≡ h.stores
    → Rooms d.lent h.lent → d.vm.run.on ≡ h.vm.run.on → under_of d ≡ under_of h → AlikeHeld r h d
self_alike r {h} {d} o o' p b s l on u = record {
  counts = p;
  program = rw (p, s);
  stores = rw s (record { constants = refl; structs = refl; functions = refl; text = refl; main = refl; main_places = refl; other = refl; other_places = refl });
  strict = b;
  machine = rw (machine_under d.vm h.vm d.lent h.lent u, same_world h d p b s l) (machine_self (world_in h) (machine_of h));
  on = on;
  under = λ _. rw (u, same_world h d p b s l) (under_self (world_in h) h.vm h.lent);
  stack = l.stack;
  frames = l.frames;
  copy = l.copy;
  backtrace = l.backtrace;
  cells = λ e. l.cells;
  fine = o;
  beside = o';
}
