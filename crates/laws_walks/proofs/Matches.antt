-- A `match` of a walk. It says nothing of frames.
--     picked           the body that a switch on a tag runs
--     matches          the arm of the tag runs
-- Assumes `Logic`.
use mathlib.Core.Path.{◌≡◌, sym, ap, subst}
use mathlib.Core.Bool.{Bool, true, false}
use mathlib.Core.List.{List}
use mathlib.Core.Option.{Option, none, some}
use Prim.Native.Nat.{ℕ}
use seplogic.Ra.Ura.{Ura}
use mir.Syntax.{Width, Body, switch, Arms, arm, default, no_default, Opd as Operand}
use mir.Val.{vint, has_key}
use base.Logic.{SProp, ent}
use prog.Wp.{Heap, Env, Calls, Loops, Wp, WpArms, Out, branch}
use types.Logic.{Logic}
use types.Kit.{Item, ⋆, Post, post, runs, Step, step, ◌$◌}
use types.Run.{Opd, switches_on}

abbrev arm_of_lem : Bool → Body → Option Body → Option Body
arm_of_lem true b rest = some b
arm_of_lem false b rest = rest

-- the body that a switch on x runs
abbrev pub picked : Arms → ℕ → Option Body
picked (arm ks b arms) x = arm_of_lem (has_key ks x) b (picked arms x)
picked (default b) x = some b
picked no_default x = none

abbrev NoBody : Option Body → Type 0
NoBody none = Unit {0}
NoBody (some b) = ⊥

abbrev body_or : Body → Option Body → Body
body_or d none = d
body_or d (some b) = b

module _ {M : Type 1} (𝓤 : Ura M) (H : Heap 𝓤) (C : Calls 𝓤 H) (Λ : Loops 𝓤 H) (E : Env 𝓤 H) (Q : Out → SProp 𝓤) (P : SProp 𝓤) where
  by_key : (z : Bool) (c b : Body) (rest : Option Body) (X : SProp 𝓤) → arm_of_lem z c rest ≡ some b → ent 𝓤 P (Wp 𝓤 H C Λ E b Q) → (rest ≡ some b → ent 𝓤 P X)
      → ent 𝓤 P (branch 𝓤 H z (Wp 𝓤 H C Λ E c Q) X)
  by_key true c b rest X e k l = subst (λ (d : Body). ent 𝓤 P (Wp 𝓤 H C Λ E d Q)) (sym (ap (body_or b) e)) k
  by_key false c b rest X e k l = l e

  by_arms : (arms : Arms) (x : ℕ) (b : Body) → picked arms x ≡ some b → ent 𝓤 P (Wp 𝓤 H C Λ E b Q) → ent 𝓤 P (WpArms 𝓤 H C Λ E arms x Q)
  by_arms (arm ks c arms) x b e k = by_key (has_key ks x) c b (picked arms x) (WpArms 𝓤 H C Λ E arms x Q) e k (λ f. by_arms arms x b f k)
  by_arms (default c) x b e k = subst (λ (d : Body). ent 𝓤 P (Wp 𝓤 H C Λ E d Q)) (sym (ap (body_or b) e)) k
  by_arms no_default x b e k = absurd (subst NoBody e tt)

module _ {M : Type 1} {𝓤 : Ura M} {𝓛 : Logic 𝓤} {K : Type 0} {Γ : List (Item 𝓤)} where
  open 𝓛 use {H}

  pub matches : K → {C : Calls 𝓤 H} {Λ : Loops 𝓤 H} {E : Env 𝓤 H} {q : Post 𝓤 H} {c : Operand} {arms : Arms} {w : Width} {x : ℕ} {b : Body}
      → Opd K 𝓛 Γ E c (vint w x) → picked arms x ≡ some b → Step K 𝓛 Γ (runs C Λ E b q) Γ (runs C Λ E (switch c arms) q)
  matches t {C} {Λ} {E} {q} {arms = arms} {x = x} {b} o e = step (λ s. switches_on t o $ record { prf = by_arms 𝓤 H C Λ E (post 𝓤 H q) (⋆ 𝓛 Γ) arms x b e s.prf })
