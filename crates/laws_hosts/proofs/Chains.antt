-- Calls from C, one after another, are host calls; so the demands hold of what a host in C holds.
use mathlib.Core.Path.{◌≡◌, refl, sym, ap, subst, ◌∙◌}
use mathlib.Core.Bool.{Bool, true}
use mathlib.Core.List.{List, [], ◌∷◌}
use Prim.Native.Nat.{ℕ}
use mathlib.Core.Option.{Option, none as no_number, some}
use native.Mathlib.Omega.{arith}
use Rattle.model.specs.Machines.{RunCall}
use Rattle.demands.specs.Host.{Call, run, Answer, RanBy, none as no-calls, more as then}
use Rattle.demands.specs.Jobs.{anew, AllTyped}
use Rattle.demands.specs.Refusals.{refused_by}
use Rattle.demands.specs.Kept.{InOrder}
use Rattle.demands.specs.Meant.{AlikeHeld}
use Rattle.demands.proofs.Orderly.{chain_kept, run_in_order}
use Rattle.demands.proofs.MeantChains.{chain_alike}
use Rattle.laws_hosts.specs.Hosts.{CHeld, CDone, left_by}
use Rattle.laws_hosts.specs.Crossed.{held_in, Taken, number_of, Crossed}
use Rattle.laws_hosts.specs.Chains.{Called, CChain, none, more, AllTell, HostChain, SameTold, SameSaid}
use Rattle.laws_hosts.proofs.Crossing.{crossing}

-- A CHAIN FROM C IS A CHAIN of host calls, and what comes back tells its answers
pub c_chain_is_a_chain : {cs : List Call} {g k : CHeld} {ds : List CDone} → Taken g → CChain cs g ds k → HostChain cs g ds k
c_chain_is_a_chain ok none = record { answers = []; chain = no-calls; tell = none; taken = ok }
c_chain_is_a_chain ok (more {c = call} {a = a} {g = g} p ps) =
    let x = crossing a g ok call p.handed p.through in
    let y = c_chain_is_a_chain x.taken ps in
    record { answers = x.did.answer ∷ y.answers; chain = then x.did.after y.chain; tell = more x.did.tells y.tell; taken = y.taken }

-- demand 1: calls from C keep good order
pub c_chain_kept : {cs : List Call} {g k : CHeld} {ds : List CDone} → AllTyped cs → Taken g → CChain cs g ds k → InOrder (held_in g) → InOrder (held_in k)
c_chain_kept t ok p o = chain_kept t (c_chain_is_a_chain ok p).chain o

-- and then no call of a run from C comes back with 19
pub c_run_in_order : {c : RunCall} {a : List ℕ} {g : CHeld} {d : CDone} → InOrder (held_in g) → Taken g → Called (run c) a g d → d.coded.number ≡ 19 → ⊥
c_run_in_order {c} {a} {g} {d} o ok p e =
    let x : Crossed (run c) a g d = crossing a g ok (run c) p.handed p.through in
    let y : RanBy c (held_in g) x.did.answer (held_in (left_by d)) = x.did.after in
    by y (refused_by x.did.answer) refl (sym x.did.tells.number ∙ e)
  where
    by : {x : Answer} → RanBy c (held_in g) x (held_in (left_by d)) → (n : Option ℕ) → refused_by x ≡ n → number_of n ≡ 19 → ⊥
    by y no_number f z = omega arith
    by y (some n) f z = run_in_order o y (f ∙ ap some z)

-- machines that mean the same say the same to calls from C
pub c_chains_alike : {r : Bool} {cs : List Call} {g g' k k' : CHeld} {ds es : List CDone} → Taken g → Taken g' → AlikeHeld r (held_in g) (held_in g') → (anew cs ≡ true → r ≡ true) → AllTyped cs
    → CChain cs g ds k → CChain cs g' es k' → SameSaid cs g ds k g' es k'
c_chains_alike ok ok' a n t p q =
    let x = c_chain_is_a_chain ok p in let y = c_chain_is_a_chain ok' q in
    record { one = x; other = y; says = (chain_alike a n t x.chain y.chain).says }

-- where the answers are the same, both tell them
pub tell_same : {cs : List Call} {g g' k k' : CHeld} {ds es : List CDone} → (x : HostChain cs g ds k) (y : HostChain cs g' es k') → x.answers ≡ y.answers → SameTold ds es
tell_same {ds = ds} x y e = record { answers = y.answers; one = subst (λ (xs : List Answer). AllTell xs ds) e x.tell; other = y.tell }
