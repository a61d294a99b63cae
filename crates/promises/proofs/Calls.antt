-- The parts of a run over calls are its parts by the entries: what is said of a passed program by the entries holds, whatever other calls come in between.
use mathlib.Core.Path.{◌≡◌, refl, sym, ap, subst, ◌∙◌}
use Prim.Native.Nat.{ℕ}
use native.Mathlib.Omega.{arith}
use Rattle.model.specs.declared.Vm.{Vm}
use Rattle.model.specs.declared.Halt.TheVariants as r
use Rattle.model.specs.Runs.{Under, pauses}
use Rattle.model.specs.Stores.{Stores}
use Rattle.model.specs.Machines.{Lent, Unchanged, RunCall, answer_in, RunPost}
use Rattle.model.specs.Machines as m
use Rattle.laws_installed.specs.Installed.{by_entries, UnderWay, begun, continued}
use Rattle.demands.specs.Host.{Held, ran, Done, vm_after, RanBy}
use Rattle.demands.specs.Parts.{Parts}
use Rattle.demands.specs.Parts as p
use Rattle.demands.proofs.Went.{stays, refused_so}
use Rattle.demands.proofs.WhileRunning.{kept_while_running}
use Rattle.demands.proofs.Parting.{parts_come_to}
use Rattle.std.specs.Prelude.{Err, Ok, Result}
use Rattle.model.specs.declared.Halt.{Halt}
use Rattle.model.specs.declared.Refusal.{Refusal}

-- only a paused result stands for a pause
paused_result : (v : Vm) (l : Lent) (x : Result Halt Refusal) {c : Unchanged} {u : Under} → answer_in l x ≡ m.ran c (pauses u) → x ≡ Ok (r.Paused (vm_after v x))
unfolding answer_in
paused_result v l (Ok (r.Value k y n)) e = absurd (let z : ◌≡◌ {A = ℕ} 0 1 = cc in let b : ⊥ = omega arith in b)
paused_result v l (Ok (r.Continue k n)) e = absurd (let z : ◌≡◌ {A = ℕ} 0 1 = cc in let b : ⊥ = omega arith in b)
paused_result v l (Ok (r.Fault k n did j)) e = absurd (let z : ◌≡◌ {A = ℕ} 0 1 = cc in let b : ⊥ = omega arith in b)
paused_result v l (Ok (r.Paused k)) e = refl
paused_result v l (Err r) e = absurd (let z : ◌≡◌ {A = ℕ} 0 1 = cc in let b : ⊥ = omega arith in b)

-- a call that paused is a part by the entries
paused_by_entries : {c : RunCall} {h k : Held} {n : Unchanged} {u : Under} → RanBy c h (ran (m.ran n (pauses u))) k → by_entries h.stores c h.vm h.lent (Ok (r.Paused k.vm)) k.lent
paused_by_entries {c} {h} {k} {n} {u} q =
    let e = q.answer in
    let so : m.ran n (pauses u) ≡ answer_in k.lent q.result = cc in
    let is : q.result ≡ Ok (r.Paused k.vm) = paused_result h.vm k.lent q.result (sym so) ∙ ap (λ (v : Vm). Ok (r.Paused v)) (sym q.vm) in
    subst (λ (x : Result Halt Refusal). RunPost c h.vm h.stores h.lent x k.lent) is q.post

pub parts_are_under_way : {h k : Held} {g : ℕ} {u : Under} → Parts h g (pauses u) k → UnderWay (by_entries h.stores) h.vm h.lent g k.vm k.lent
parts_are_under_way (p.begun q) = begun (paused_by_entries q)
parts_are_under_way {h} (p.continued {u = i} {k = k} {k' = k'} w q) =
    let same = (parts_come_to w).beside.stores in
    continued (parts_are_under_way w) (subst (λ (s : Stores). by_entries s (m.continues i) k.vm k.lent (Ok (r.Paused k'.vm)) k'.lent) same (paused_by_entries q))
parts_are_under_way {h} {g = g} (p.asked i {k = k} w q) =
    let same = sym (kept_while_running k (parts_come_to w).stands.on i) ∙ ap (λ (d : Done). d.held) q in
    subst (λ (d : Held). UnderWay (by_entries h.stores) h.vm h.lent g d.vm d.lent) same (parts_are_under_way w)
parts_are_under_way {h} {g = g} (p.refused {n = n} w q) =
    subst (λ (d : Held). UnderWay (by_entries h.stores) h.vm h.lent g d.vm d.lent) (sym (stays q n (refused_so q))) (parts_are_under_way w)
