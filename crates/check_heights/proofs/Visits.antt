-- A visit of an instruction, and the turn of a position.
use mathlib.Core.Path.{◌≡◌, sym, ◌∙◌}
use mathlib.Core.Bool.{Bool, true, false}
use mathlib.Core.List.{List}
use Prim.Native.Nat.{ℕ, ◌-◌, max}
use native.Mathlib.Omega.{arith}
use lib.ListN.{length, get_or}
use Rattle.model.specs.Programs.{next_in}
use Rattle.check_rules.specs.Rules.{is_jump, target_at, suffices, leads_on}
use Rattle.check_heights.specs.declared.Flaw.{Flaw}
use Rattle.check_heights.specs.declared.Flaw.TheVariants as w
use Rattle.check_heights.specs.Links.{AfterPre, AfterPost, Sent, SendPre, SendPost, Barred, on_clash, jump_clash, EnterPre, EnterPost}
use Rattle.check_heights.specs.Links.{Stuck, lacks, barred, VisitPre, VisitPost, passes, sees, TurnPre, TurnPost}
use Rattle.check_heights.proofs.Tables.{known_at}
use Rattle.std.specs.Prelude.{Err, Ok, Result}
use Rattle.std.proofs.lemmas.Result.{MatchResult-weaker}

-- ---- both ways on from an instruction

module _ (main : Bool) (code : List ℕ) (i g : ℕ) (t : List ℕ) where
  module _ {on : Bool} {next : ℕ} (eo : on ≡ leads_on main code i) (en : next ≡ next_in code i) {mid : List ℕ} where
    -- another height was known at the next instruction
    pub clashes : {x : Flaw} → SendPost on next g t (Err x) mid → {t' : List ℕ} → EnterPost main code i g t (Err x) t'
    clashes p = record { means = on_clash (rw (eo, en) at p.means) }

    module _ {u : Unit} (p : SendPost on next g t (Ok u) mid) {jumps : Bool} {target : ℕ} (ej : jumps ≡ is_jump code i) (et : target ≡ target_at code i) where
      pub jump_fits : EnterPre code i g t → length mid ≡ length t → SendPre jumps target g mid
      jump_fits pre l = record {
        room = λ q. let z = pre.lands (sym ej ∙ q) in let y = pre.room in omega arith;
        low = pre.low;
      }

      pub enters : {x : Result Unit Flaw} {t' : List ℕ} → SendPost jumps target g mid x t' → EnterPost main code i g t x t'
      enters {x} {t'} q =
          let went : Sent (leads_on main code i) (next_in code i) g t mid = rw (eo, en) at p.means in
          record {
            means = MatchResult-weaker x {Q' = Barred main code i g t} (rw (ej, et) at q.means)
                (λ v y. record { mid = mid; on = went; jumps = y }) (λ z y. jump_clash mid went y);
          }

-- ---- an instruction that is reached with height h

module _ (main : Bool) (code : List ℕ) (i h : ℕ) (t : List ℕ) {enough : Bool} (e : enough ≡ suffices code i h) where
  pub after_ready : VisitPre code i h t → enough ≡ true → AfterPre code i h
  after_ready pre q = record { here = pre.here; enough = sym e ∙ q; low = pre.low }

  pub visit_lacks : enough ≡ false → {t' : List ℕ} → VisitPost main code i h t (Err (w.Lacks i h)) t'
  visit_lacks q = record { means = lacks (sym e ∙ q) }

  pub visit_enters : enough ≡ true → {g : ℕ} → AfterPost code i h g → {x : Result Unit Flaw} {t' : List ℕ} → EnterPost main code i g t x t' → VisitPost main code i h t x t'
  visit_enters q a {x} {t'} p = record {
    means = MatchResult-weaker x {Q' = Stuck main code i h t} (rw a.is at p.means)
        (λ u y. record { enough = sym e ∙ q; entered = y }) (λ z y. barred y);
  }

-- ---- a position

module _ (main : Bool) (code : List ℕ) (i top : ℕ) (t : List ℕ) where
  pub turn_passes : get_or t i 0 ≡ 0 → TurnPost main code i top t (Ok top) t
  turn_passes z = record { means = passes (record { is = z }) }

  module _ (n : get_or t i 0 ≡ 0 → ⊥) {t' : List ℕ} where
    pub turn_sees : {u : Unit} → VisitPost main code i (get_or t i 0 - 1) t (Ok u) t' → {m : ℕ} → m ≡ max top (get_or t i 0 - 1) → TurnPost main code i top t (Ok m) t'
    turn_sees v q = record { means = rw q (sees (known_at t i n) v.means) }

    pub turn_breaks : {x : Flaw} → VisitPost main code i (get_or t i 0 - 1) t (Err x) t' → TurnPost main code i top t (Err x) t'
    turn_breaks v = record { means = record { height = _; known = known_at t i n; stuck = v.means } }

pub visit_ready : {code : List ℕ} {i : ℕ} {t : List ℕ} → TurnPre code i t → (get_or t i 0 ≡ 0 → ⊥) → VisitPre code i (get_or t i 0 - 1) t
visit_ready {i = i} {t} pre n = pre.ready (known_at t i n)
