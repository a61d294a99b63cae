-- A machine that is made from C, over seventeen words or more, whatever stood there.
use mathlib.Core.Path.{◌≡◌, refl, sym, ap, subst, ◌∙◌}
use mathlib.Core.List.{List}
use mathlib.Core.Option.{none}
use Prim.Native.Nat.{ℕ, ◌≤◌}
use native.Mathlib.Omega.{arith}
use lib.ListN.{length}
use Rattle.model.specs.declared.Vm.{Vm}
use Rattle.model.specs.Numbers.{Bytes}
use Rattle.demands.specs.Host.{Done, starts, done, Ask, new, load, ask, Answer, started, After}
use Rattle.demands.specs.Refusals.{refused_in, refused_by}
use Rattle.demands.specs.Kept.{InOrder}
use Rattle.demands.proofs.Orderly.{new_in_order, load_in_order}
use Rattle.laws_hosts.specs.Hosts.{CHeld, CDone, left_by, Through}
use Rattle.laws_hosts.specs.Crossed.{held_in, Taken, Did, MadeIn}
use Rattle.laws_hosts.proofs.Crossing.{new_crosses, new_taken, load_crosses, load_taken}
use Rattle.laws_hosts.proofs.Zero.{zero_is_done}
use Rattle.std.specs.Prelude.{Err, Ok, Result}
use Rattle.model.specs.declared.Refusal.{Refusal}

-- what was not refused was made
was_made : {A : Type 0} (x : Result Vm Refusal) → refused_in x ≡ none → ((m : Vm) → x ≡ Ok m → A) → A
was_made (Ok m) e f = f m refl
was_made (Err r) e f = absurd (let z : ◌≡◌ {A = ℕ} 0 1 = cc in let y : ⊥ = omega arith in y)

module _ (a : List ℕ) (g : CHeld) (long : 17 ≤ length g.words) (room : 1 ≤ length a) where
  module _ (q : Ask) (x : Result Vm Refusal) (is : (done q (held_in g)).answer ≡ started x) {d : CDone} (did : Did (ask q) a g d) (zero : d.coded.number ≡ 0) where
    not_refused : refused_by (done q (held_in g)).answer ≡ none
    not_refused = ap (λ (z : Done). refused_by z.answer) did.after ∙ zero_is_done did zero

    made_so : ((m : Vm) → After (ask q) (held_in g) (started (Ok m)) (held_in (left_by d)) → InOrder (held_in (left_by d))) → Taken (left_by d) → MadeIn q a g d
    made_so orders taken =
        was_made x (sym (ap refused_by is) ∙ not_refused) (λ m e.
        let answer : did.answer ≡ started (Ok m) = sym (ap (λ (z : Done). z.answer) did.after) ∙ is ∙ ap started e in
        record { did = did; taken = taken; order = orders m (subst (λ (z : Answer). After (ask q) (held_in g) z (held_in (left_by d))) answer did.after) })

  -- MADE FROM C: where 0 comes back, there is a record, and what the host holds is in good order
  pub c_new_made : {d : CDone} → Through (ask new) a g d → d.coded.number ≡ 0 → MadeIn new a g d
  unfolding done starts
  c_new_made {d} t zero =
      let did : Did (ask new) a g d = rw t (new_crosses a g long room).did in
      made_so new _ refl did zero (λ m p. new_in_order (held_in g) p) (rw t (new_taken a g long room (not_refused new _ refl did zero)))

  pub c_load_made : (image : List ℕ) → Bytes image → {d : CDone} → Through (ask (load image)) a g d → d.coded.number ≡ 0 → MadeIn (load image) a g d
  unfolding done starts
  c_load_made image b {d} t zero =
      let did : Did (ask (load image)) a g d = rw t (load_crosses a g long room image).did in
      made_so (load image) _ refl did zero (λ m p. load_in_order (held_in g) image b p) (rw t (load_taken a g long room image (not_refused (load image) _ refl did zero)))
