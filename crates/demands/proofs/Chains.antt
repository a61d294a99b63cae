-- Calls one after another: states that agree give the same answers, whatever the calls.
use mathlib.Core.Path.{◌≡◌, refl, sym, ap, ◌∙◌}
use mathlib.Core.List.{List}
use Rattle.model.specs.declared.Vm.{Vm}
use Rattle.model.specs.Machines.{RunCall, RunPost}
use Rattle.demands.specs.Host.{Held, Ask, Call, run, ask, Answer, ran, Done, done, vm_after, RanBy, After, Chain, none, more}
use Rattle.demands.specs.Agree.{Agree, SameChain}
use Rattle.demands.proofs.OneRun.{same_answer, same_vm, same_lent}
use Rattle.demands.proofs.Asks.{DoneAlike, ask_alike}

record SameCall (a b : Answer) (h k : Held) : Type 0 where
  answer : a ≡ b
  agree : Agree h k

-- in states that agree
module _ {h k : Held} (g : Agree h k) where
  moved : k ≡ record { vm = h.vm; stores = h.stores; lent = k.lent }
  moved = rw (g.vm, g.stores)

  run_agrees : (c : RunCall) {a b : Answer} {h' k' : Held} → RanBy c h a h' → RanBy c k b k' → SameCall a b h' k'
  run_agrees c {h' = h'} {k' = k'} p q =
      let post : RunPost c h.vm h.stores k.lent q.result k'.lent = rw (g.vm, g.stores) q.post in
      let vm : vm_after h.vm p.result ≡ vm_after h.vm q.result = same_vm c h.vm h.stores g.lent p.post post in
      record {
        answer = p.answer ∙ ap ran (same_answer c h.vm h.stores g.lent p.post post) ∙ sym q.answer;
        agree = record {
          vm = p.vm ∙ vm ∙ ap (λ (m : Vm). vm_after m q.result) g.vm ∙ sym q.vm;
          stores = p.stores ∙ g.stores ∙ sym q.stores;
          lent = rw p.vm (same_lent c h.vm h.stores g.lent p.post post);
        };
      }

  ask_agrees : (q : Ask) {a b : Answer} {h' k' : Held} → After (ask q) h a h' → After (ask q) k b k' → SameCall a b h' k'
  ask_agrees q {a} {b} {h'} {k'} p r =
      let d : DoneAlike (done q h) (done q (record { vm = h.vm; stores = h.stores; lent = k.lent })) = ask_alike h.vm h.stores g.lent q in
      let f : DoneAlike (record { answer = a; held = h' }) (record { answer = b; held = k' }) = rw (p, ← moved, r) at d in
      record { answer = f.answer; agree = f.agree }

  call_agrees : (c : Call) {a b : Answer} {h' k' : Held} → After c h a h' → After c k b k' → SameCall a b h' k'
  call_agrees (run c) p q = run_agrees c p q
  call_agrees (ask q) p r = ask_agrees q p r

-- whatever calls come: the same answers, and states that agree at the end
pub chains_agree : {cs : List Call} {h k e f : Held} {as' bs : List Answer} → Agree h k → Chain cs h as' e → Chain cs k bs f → SameChain as' bs e f
chains_agree g none none = record { answers = refl; agree = g }
chains_agree g (more {c = c} p ps) (more q qs) =
    let x = call_agrees g c p q in
    let y = chains_agree x.agree ps qs in
    record { answers = rw (x.answer, y.answers); agree = y.agree }

-- nothing past the counts can be seen: whatever lies there, and whatever calls come, the answers are the same
pub past_counts_unseen : {calls : List Call} {h k e f : Held} {xs ys : List Answer} → Agree h k → Chain calls h xs e → Chain calls k ys f → xs ≡ ys
past_counts_unseen g c d = (chains_agree g c d).answers

-- DEMAND 4 for the entries whose contract is an equation
pub ask_one : (q : Ask) (h : Held) {h' k' : Held} {a b : Answer} → After (ask q) h a h' → After (ask q) h b k' → (a ≡ b) × (h' ≡ k')
ask_one q h p r = let e = sym p ∙ r in (ap (λ (d : Done). d.answer) e, ap (λ (d : Done). d.held) e)
