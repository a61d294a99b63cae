-- The copy of a stack, what no step changes, and the machine at its start.
use mathlib.Core.Path.{◌≡◌, refl, sym, ap, ◌∙◌}
use mathlib.Core.List.{List, ◌++◌}
use Prim.Native.Nat.{ℕ, ◌*◌, ◌+◌, ◌-◌, ◌≤◌, ◌<◌, min}
use native.Mathlib.Numerals.{add-one}
use native.Mathlib.Omega.{arith}
use borrow.Author.Tests.{ne_eqb}
use lib.ListN.{length, get_or, set, take, drop}
use lib.Seq.{get_or-take, length-take-le, sets-eq}
use Rattle.model.specs.declared.Vm.{Vm}
use Rattle.model.specs.declared.Frame.{Frame}
use Rattle.model.specs.Emission.{written}
use Rattle.model.specs.Machines.{frame_room}
use Rattle.value.specs.Links.{last_in, last_kind}
use Rattle.layout.proofs.Writing.{Writing, another, whole}
use Rattle.run_ends.specs.Links.{FixedPost, cut_frame}
use Rattle.run_ends.proofs.Judging.{Room}
use Rattle.std.specs.Prelude.{Option}
use Rattle.model.specs.declared.Value.{Value}

-- ---- the first n words of one store at the front of another

module _ (from to : List ℕ) (n : ℕ) (g : n ≤ length from) {t : List ℕ} {i : ℕ} (h : Writing to 0 (take n from) t i) where
  pub copies : i < n → Writing to 0 (take n from) (set t i (get_or from i 0)) (i + 1)
  copies l = let z : 0 + i ≡ i = omega arith in rw z at (another h (get_or from i 0) (sym (get_or-take n from i 0 l)) (omega (arith, length-take-le n from g)))

  pub copied : n ≤ i → t ≡ written to 0 (take n from)
  copied l = whole h (omega (arith, length-take-le n from g))

-- ---- what no step changes

pub fixed_is : (m : Vm) (u a b : ℕ) {ra rb : ℕ} → Room 2 a ra → rb ≡ min b 0xFFFF_FFFF
    → FixedPost m u a b (record { constants = m.program.constants; structs = m.program.structs; functions = m.program.functions; slots = ra; frames = rb; given = u; strict = m.strict })
unfolding frame_room
fixed_is m u a b ha hb = record { constants = refl; structs = refl; functions = refl; slots = ha; frames = λ fs e. rw (hb, e); given = refl; strict = refl }

-- ---- the last result, by its two words

pub last_back : {last : Option Value} (k a : ℕ) → k ≡ last_kind last → last_in (last_kind last) a ≡ last → last_in k a ≡ last
last_back k a e f = rw e f

-- ---- where an abandoned run is cut

module _ (m : Vm) (f : Frame) where
  pub cut_unfetched : m.run.given ≤ m.run.spent → f ≡ cut_frame m f
  unfolding cut_frame
  cut_unfetched h = let z : m.run.given - m.run.spent ≡ 0 = omega arith in rw z

  pub cut_fetched : m.run.spent < m.run.given → record { function = f.function; position = f.position + 1; base = f.base; entered = f.entered } ≡ cut_frame m f
  unfolding cut_frame
  cut_fetched h = rw (ne_eqb _ _ (λ (z : m.run.given - m.run.spent ≡ 0). let y : ⊥ = omega arith in y), add-one)
