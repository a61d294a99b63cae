-- A `while` loop of a walk, by a measure of its state. It says nothing of frames.
--     Loop             the state, its measure, the context at the loop's head, and what stands behind the loop
--     rounds           the loop, from a walk of one turn
--     whiles           the loop's test, where its outcome is not known: a premise for each
--     again            a turn ends, at a state whose measure is less
-- Assumes `Logic`.
use mathlib.Core.Bool.{Bool, not}
use mathlib.Core.List.{List}
use mathlib.Core.WellFounded.InvImage
use Prim.Native.Nat.{ℕ, ◌<◌}
use lib.Dec.{T}
use lib.WfN.{lt-wf_rel}
use seplogic.Ra.Ura.{Ura}
use mir.Syntax.{Body, seq, cond, skip, exit, block, loop, Opd as Operand}
use mir.Val.{vbool}
use prog.Wp.{Env, Tables, Wp, next, after_seq, after_block, after_turn}
use types.Logic.{Logic}
use types.Kit.{Item, Post, post, any_q, prop, runs, Seq, ◌$◌}
use types.Run as Run
use types.Run.{Opd, Below, first, branches, skips, jumps, blocks, loops}

pub record Loop {M : Type 1} {𝓤 : Ura M} (𝓛 : Logic 𝓤) (𝓣 : Tables 𝓤 𝓛.H) : Type 2 where
  pub State : Type 0
  pub measure : State → ℕ
  pub inv : State → List (Item 𝓤)
  pub env : Env 𝓤 𝓛.H
  pub rest : Body
  pub end : Post 𝓤 𝓛.H

module _ {M : Type 1} {𝓤 : Ura M} {𝓛 : Logic 𝓤} {𝓣 : Tables 𝓤 𝓛.H} (l : Loop 𝓛 𝓣) where
  open 𝓛 use {H}

  abbrev less : l.State → l.State → Type 0
  less x y = l.measure x < l.measure y

  -- how a turn from the state x may end
  abbrev pub Turn : l.State → Post 𝓤 H
  Turn x = any_q (after_turn 𝓤 H (Below 𝓛 less l.inv x) (after_block 𝓤 H (after_seq 𝓤 H (Wp 𝓤 H 𝓣.C 𝓣.Λ l.env l.rest (post 𝓤 H l.end)) (post 𝓤 H l.end))))

module _ {M : Type 1} {𝓤 : Ura M} {𝓛 : Logic 𝓤} {K : Type 0} {𝓣 : Tables 𝓤 𝓛.H} where
  open 𝓛 use {H}

  pub rounds : K → (l : Loop 𝓛 𝓣) {b : Body} → ((x : l.State) → Seq K 𝓛 (l.inv x) (runs 𝓣.C 𝓣.Λ l.env b (Turn l x))) → (x : l.State)
      → Seq K 𝓛 (l.inv x) (runs 𝓣.C 𝓣.Λ l.env (seq (block (loop b)) l.rest) l.end)
  rounds t l turn x = first t $ blocks t $ loops t 𝓣 (less l) (InvImage.wf l.measure lt-wf_rel.wf) l.inv turn x

  pub whiles : K → (l : Loop 𝓛 𝓣) (x : l.State) {Γ : List (Item 𝓤)} {c : Operand} {b : Body} {y : Bool} → Opd K 𝓛 Γ l.env c (vbool y)
      → (T y → Seq K 𝓛 Γ (runs 𝓣.C 𝓣.Λ l.env b (Turn l x))) → (T (not y) → Seq K 𝓛 Γ (runs 𝓣.C 𝓣.Λ l.env l.rest l.end))
      → Seq K 𝓛 Γ (runs 𝓣.C 𝓣.Λ l.env (seq (cond c skip (exit 1)) b) (Turn l x))
  unfolding after_turn
  whiles t l x o on off = first t $ branches t o (λ h. skips t $ record { prf = (on h).prf }) (λ h. jumps t $ record { prf = (off h).prf })

  pub again : K → (l : Loop 𝓛 𝓣) (x y : l.State) → l.measure y < l.measure x → Seq K 𝓛 (l.inv y) (prop (post 𝓤 H (Turn l x) next))
  unfolding after_turn
  again t l x y h = record { prf = (Run.again {𝓛 = 𝓛} {K = K} t (less l) l.inv x y h).prf }
