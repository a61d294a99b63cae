-- An `if` and a `match` of a walk whose arms return. It says nothing of frames.
--     returns-if       the arm runs to its `return`, or the rest runs
--     returns-match    the arm of the tag runs to its `return`
-- Assumes `Logic`.
use mathlib.Core.Path.{◌≡◌}
use mathlib.Core.Bool.{Bool, not}
use mathlib.Core.List.{List}
use mathlib.Core.Option.{some}
use Prim.Native.Nat.{ℕ}
use lib.Dec.{T}
use seplogic.Ra.Ura.{Ura}
use mir.Syntax.{Body, Arms, Width, seq, cond, switch, skip, Opd as Operand}
use mir.Val.{Val, vbool, vint}
use base.Logic.{SProp, ent, via, never_e, id⊢}
use prog.Wp.{Heap, Env, Tables, Wp, Out, next, exits, returns, at_return, after_seq}
use types.Logic.{Logic}
use sound.WpLaws.{Wp-mono}
use types.Kit.{Item, at_ret, runs, Seq, ◌$◌}
use types.Run.{Opd, first, branches, skips}
use Rattle.laws_walks.proofs.Matches.{picked, matches}

module _ {M : Type 1} (𝓤 : Ura M) (H : Heap 𝓤) (E : Env 𝓤 H) (Kf : Val → SProp 𝓤) (P : SProp 𝓤) where
  -- an arm that returns goes on nowhere else
  only_returns : (o : Out) → ent 𝓤 (at_return 𝓤 H E Kf o) (after_seq 𝓤 H P (at_return 𝓤 H E Kf) o)
  only_returns next = never_e 𝓤 P
  only_returns (exits n) = id⊢ 𝓤 _
  only_returns returns = id⊢ 𝓤 _

module _ {M : Type 1} {𝓤 : Ura M} {𝓛 : Logic 𝓤} {K : Type 0} {Γ : List (Item 𝓤)} where
  open 𝓛 use {H}

  pub returns_if : K → (𝓣 : Tables 𝓤 H) {E : Env 𝓤 H} {Kf : Val → SProp 𝓤} {c : Operand} {b rest : Body} {y : Bool} → Opd K 𝓛 Γ E c (vbool y)
      → (T y → Seq K 𝓛 Γ (runs 𝓣.C 𝓣.Λ E b (at_ret E Kf))) → (T (not y) → Seq K 𝓛 Γ (runs 𝓣.C 𝓣.Λ E rest (at_ret E Kf)))
      → Seq K 𝓛 Γ (runs 𝓣.C 𝓣.Λ E (seq (cond c b skip) rest) (at_ret E Kf))
  returns_if t 𝓣 {E} {Kf} {b = b} {rest} o on off =
      let P : SProp 𝓤 = Wp 𝓤 H 𝓣.C 𝓣.Λ E rest (at_return 𝓤 H E Kf) in
      first t $ branches t o
      (λ h. record {
        prf = via 𝓤 (Wp 𝓤 H 𝓣.C 𝓣.Λ E b (at_return 𝓤 H E Kf)) (on h).prf
            (Wp-mono 𝓤 H 𝓛.laws 𝓣 E b (at_return 𝓤 H E Kf) (after_seq 𝓤 H P (at_return 𝓤 H E Kf)) (only_returns 𝓤 H E Kf P));
      })
      (λ h. skips t $ record { prf = (off h).prf })

  pub returns_match : K → (𝓣 : Tables 𝓤 H) {E : Env 𝓤 H} {Kf : Val → SProp 𝓤} {o : Operand} {w : Width} {x : ℕ} {arms : Arms} {b rest : Body} → Opd K 𝓛 Γ E o (vint w x) → picked arms x ≡ some b
      → Seq K 𝓛 Γ (runs 𝓣.C 𝓣.Λ E b (at_ret E Kf)) → Seq K 𝓛 Γ (runs 𝓣.C 𝓣.Λ E (seq (switch o arms) rest) (at_ret E Kf))
  returns_match t 𝓣 {E} {Kf} {b = b} {rest} o e k =
      let P : SProp 𝓤 = Wp 𝓤 H 𝓣.C 𝓣.Λ E rest (at_return 𝓤 H E Kf) in
      first t $ matches t o e $ record {
        prf = via 𝓤 (Wp 𝓤 H 𝓣.C 𝓣.Λ E b (at_return 𝓤 H E Kf)) k.prf
            (Wp-mono 𝓤 H 𝓛.laws 𝓣 E b (at_return 𝓤 H E Kf) (after_seq 𝓤 H P (at_return 𝓤 H E Kf)) (only_returns 𝓤 H E Kf P));
      }
