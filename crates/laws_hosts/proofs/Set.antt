-- The setting changed from C: where 0 comes back, the host holds the machine that it held, with that setting.
use mathlib.Core.Path.{◌≡◌, refl, sym, ap, ◌∙◌}
use mathlib.Core.Bool.{Bool, true, false}
use mathlib.Core.List.{List}
use mathlib.Core.Option.{none}
use Prim.Native.Nat.{ℕ}
use native.Mathlib.Omega.{arith}
use Rattle.model.specs.declared.Vm.{Vm}
use Rattle.model.specs.Machines.{run_order, set_strict as setStrictOf}
use Rattle.demands.specs.Host.{Done, with_setting, changes, done, set_strict, ask}
use Rattle.demands.specs.Refusals.{refused_in, refused_by}
use Rattle.demands.proofs.Setting.{set_by, set_is}
use Rattle.laws_hosts.specs.Hosts.{CHeld, CDone, Through}
use Rattle.laws_hosts.specs.Crossed.{held_in, Taken, Crossed, strictly, SetIn}
use Rattle.laws_hosts.proofs.Crossing.{crossing}
use Rattle.laws_hosts.proofs.Zero.{zero_is_done}

-- what was not refused is the machine with that setting
set_so : (b order on : Bool) (m : Vm) → refused_in (set_by b order on m) ≡ none → with_setting m (set_by b order on m) ≡ strictly b m
set_so b true true m e = absurd (let z : ◌≡◌ {A = ℕ} 0 1 = cc in let y : ⊥ = omega arith in y)
set_so b true false m e = refl
set_so b false on m e = absurd (let z : ◌≡◌ {A = ℕ} 0 1 = cc in let y : ⊥ = omega arith in y)

-- SET FROM C: it needs no words for an answer
pub c_set_strict : (a : List ℕ) (g : CHeld) → Taken g → (b : Bool) {d : CDone} → Through (ask (set_strict b)) a g d → d.coded.number ≡ 0 → SetIn b g d
unfolding done changes
c_set_strict a g ok b {d} t zero =
    let m = (held_in g).vm in
    let order = run_order m g.stores g.lent in
    let x : Crossed (ask (set_strict b)) a g d = crossing a g ok (ask (set_strict b)) (record { room = omega arith; value = tt }) t in
    let is = set_is b m g.stores g.lent in
    let answer = ap (λ (z : Done). refused_by z.answer) x.did.after ∙ zero_is_done x.did zero in
    let accepted : refused_in (set_by b order m.run.on m) ≡ none = sym (ap refused_in is) ∙ answer in
    let vm : with_setting m (setStrictOf b m g.stores g.lent) ≡ strictly b m = ap (with_setting m) is ∙ set_so b order m.run.on m accepted in
    record {
      held = sym (ap (λ (z : Done). z.held) x.did.after) ∙ ap (λ (v : Vm). record { vm = v; stores = g.stores; lent = g.lent }) vm;
      taken = x.taken;
    }
