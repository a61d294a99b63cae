-- Whether a run is paused, and by which call one run is over.
use mathlib.Core.Path.{◌≡◌, refl, sym, ap, subst, ◌∙◌}
use mathlib.Core.Bool.{Bool, true, false, true≢false}
use Prim.Native.Nat.{ℕ}
use Rattle.model.specs.declared.Vm.{Vm}
use Rattle.model.specs.declared.Halt.TheVariants as r
use Rattle.model.specs.Stores.{Stores}
use Rattle.model.specs.Machines.{Lent, begins, continues, abandons, RunPost}
use Rattle.report.specs.Links.{is_paused, paused_in, OneRun, at_once, continued, abandoned}
use Rattle.std.specs.Prelude.{Err, Ok, Result}
use Rattle.model.specs.declared.Halt.{Halt}
use Rattle.model.specs.declared.Refusal.{Refusal}

paused_is : (m : Vm) (x : Result Halt Refusal) → is_paused x ≡ true → x ≡ Ok (r.Paused (paused_in m x))
unfolding is_paused paused_in
paused_is m (Ok (r.Value k v n)) e = absurd (true≢false (sym e))
paused_is m (Ok (r.Continue k n)) e = absurd (true≢false (sym e))
paused_is m (Ok (r.Fault k n did j)) e = absurd (true≢false (sym e))
paused_is m (Ok (r.Paused k)) e = refl
paused_is m (Err n) e = absurd (true≢false (sym e))

-- an answer of which b says whether it has left a run paused, and k in which machine
module _ (x : Result Halt Refusal) {b : Bool} (e : b ≡ is_paused x) where
  over_so : b ≡ false → is_paused x ≡ false
  over_so off = sym e ∙ off

  paused_so : b ≡ true → (m : Vm) {k : Vm} → k ≡ paused_in m x → x ≡ Ok (r.Paused k)
  paused_so on m f = paused_is m x (sym e ∙ on) ∙ ap (λ (k : Vm). Ok (r.Paused k)) (sym f)

module _ {m : Vm} {s : Stores} {l : Lent} {x : Result Halt Refusal} {l₁ : Lent} (begun : RunPost begins m s l x l₁) {b : Bool} (e : b ≡ is_paused x) where
  pub over_at_once : {u : ℕ} → b ≡ false → OneRun m u s l x l₁
  over_at_once off = at_once begun (over_so x e off)

  module _ (on : b ≡ true) {k : Vm} (f : k ≡ paused_in m x) where
    begun_paused : RunPost begins m s l (Ok (r.Paused k)) l₁
    begun_paused = subst (λ (y : Result Halt Refusal). RunPost begins m s l y l₁) (paused_so x e on m f) begun

    module _ {u : ℕ} {y : Result Halt Refusal} {l₂ : Lent} (more : RunPost (continues u) k s l₁ y l₂) {c : Bool} (g : c ≡ is_paused y) where
      pub over_when_continued : c ≡ false → OneRun m u s l y l₂
      over_when_continued off = continued begun_paused more (over_so y g off)

      pub over_when_abandoned : c ≡ true → {k' : Vm} → k' ≡ paused_in k y → {z : Result Halt Refusal} {l₃ : Lent} → RunPost abandons k' s l₂ z l₃ → OneRun m u s l z l₃
      over_when_abandoned again h end = abandoned begun_paused (subst (λ (v : Result Halt Refusal). RunPost (continues u) k s l₁ v l₂) (paused_so y g again k h) more) end
