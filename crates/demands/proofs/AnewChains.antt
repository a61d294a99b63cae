-- A host that lends other stores between calls, as long as before, hears what it would have heard.
use mathlib.Core.Path.{◌≡◌, refl, ap, ◌∙◌}
use mathlib.Core.Bool.{Bool, true}
use mathlib.Core.List.{List}
use Rattle.model.specs.declared.Vm.{Vm}
use Rattle.demands.specs.Host.{Held, Call, Answer, Chain}
use Rattle.demands.specs.Host as host
use Rattle.demands.specs.Jobs.{anew, AllTyped}
use Rattle.demands.specs.Meant.{AlikeHeld, said}
use Rattle.demands.specs.Relent.{Elsewhere, ChainAnew, said_anew}
use Rattle.demands.specs.Relent as relent
use Rattle.demands.proofs.Orderly.{typed_first, typed_rest}
use Rattle.demands.proofs.MeantChains.{call_alike, anew_first, anew_rest}
use Rattle.demands.proofs.Relending.{relent_stands, world_same}

-- a machine in other stores means what it meant
elsewhere : {again : Bool} {h d k : Held} → AlikeHeld again h d → Elsewhere d k → AlikeHeld again h k
elsewhere {h = h} {d = d} {k = k} a l =
    let o = a.beside.order in
    let z = relent_stands o l.relent in
    record {
      counts = ap (λ (m : Vm). m.program) l.relent.vm ∙ a.counts;
      program = z.program ∙ a.program;
      stores = record {
        constants = l.long.constants ∙ a.stores.constants;
        structs = l.long.structs ∙ a.stores.structs;
        functions = l.long.functions ∙ a.stores.functions;
        text = l.long.text ∙ a.stores.text;
        main = l.long.main ∙ a.stores.main;
        main_places = l.long.main_places ∙ a.stores.main_places;
        other = l.long.other ∙ a.stores.other;
        other_places = l.long.other_places ∙ a.stores.other_places;
      };
      strict = ap (λ (m : Vm). m.strict) l.relent.vm ∙ a.strict;
      machine = rw (world_same o l.relent l.rooms, z.machine) a.machine;
      on = ap (λ (m : Vm). m.run.on) l.relent.vm ∙ a.on;
      under = λ on. rw (world_same o l.relent l.rooms, z.under) (a.under on);
      stack = l.rooms.stack ∙ a.stack;
      frames = l.rooms.frames ∙ a.frames;
      copy = l.rooms.copy ∙ a.copy;
      backtrace = l.rooms.backtrace ∙ a.backtrace;
      cells = λ e. l.rooms.cells ∙ a.cells e;
      fine = a.fine;
      beside = record { order = z.order; code = l.code };
    }

-- STORES LENT ANEW BETWEEN CALLS: whatever the calls, and however often
pub relent_chain_says : {again : Bool} {cs : List Call} {h d e f : Held} {xs ys : List Answer} → AlikeHeld again h d → (anew cs ≡ true → again ≡ true) → AllTyped cs
    → (p : Chain cs h xs e) (q : ChainAnew cs d ys f) → said p ≡ said_anew q
unfolding said said_anew
relent_chain_says a n t p (relent.anew l q) = relent_chain_says (elsewhere a l) n t p q
relent_chain_says a n t host.none relent.none = refl
relent_chain_says a n t (host.more {c = c} {cs = cs} p ps) (relent.more q qs) =
    let x = call_alike c a (λ e. n (anew_first c cs e)) (typed_first c cs t) p q in
    rw (x.says, relent_chain_says x.held (λ e. n (anew_rest c cs e)) (typed_rest c cs t) ps qs)
