-- What the programs print, and one run on frames of its own. What is printed of a text is passed on.
use Rattle.std.specs.Prelude.{◌≡◌, Bool, true, false, List, ℕ, replicate, Err, Ok, Result}
use Rattle.model.specs.declared.Frame.{Frame}
use Rattle.model.specs.declared.Vm.{Vm}
use Rattle.model.specs.declared.Halt.TheVariants as r
use Rattle.model.specs.Runs.{root}
use Rattle.model.specs.Stores.{Stores}
use Rattle.model.specs.Machines.{Lent, begins, continues, abandons, RunPost}
use Rattle.model.specs.Reports.{runner_text, lister_text}
pub use Rattle.report_lines.specs.Links.{Printed}
use Rattle.model.specs.declared.Halt.{Halt}
use Rattle.model.specs.declared.Refusal.{Refusal}
unfoldable pub use Rattle.report_lines.specs.Links.{printed}

-- what is printed of an image that is run, or listed
abbrev pub image_text : Bool → List ℕ → List ℕ
image_text true image = runner_text image
image_text false image = lister_text image

-- ---- one run by the three calls of a run: begun, continued with u units, and abandoned where it is paused

unfoldable pub is_paused : Result Halt Refusal → Bool
is_paused (Ok (r.Value m v n)) = false
is_paused (Ok (r.Continue m n)) = false
is_paused (Ok (r.Fault m k n j)) = false
is_paused (Ok (r.Paused m)) = true
is_paused (Err n) = false

-- the machine in which a run is paused; m, which was called, where none is
unfoldable pub paused_in : Vm → Result Halt Refusal → Vm
paused_in m (Ok (r.Value k v n)) = m
paused_in m (Ok (r.Continue k n)) = m
paused_in m (Ok (r.Fault k n t j)) = m
paused_in m (Ok (r.Paused k)) = k
paused_in m (Err n) = m

-- by which of them it is over; l is what is lent, and l' what is lent as it then is
pub data OneRun (m : Vm) (u : ℕ) (s : Stores) (l : Lent) : Result Halt Refusal → Lent → Type 0 where
  at_once : {x : Result Halt Refusal} {l' : Lent} → RunPost begins m s l x l' → is_paused x ≡ false → OneRun m u s l x l'
  continued : {k : Vm} {x : Result Halt Refusal} {l₁ l' : Lent} → RunPost begins m s l (Ok (r.Paused k)) l₁ → RunPost (continues u) k s l₁ x l' → is_paused x ≡ false → OneRun m u s l x l'
  abandoned : {k k' : Vm} {x : Result Halt Refusal} {l₁ l₂ l' : Lent} → RunPost begins m s l (Ok (r.Paused k)) l₁ → RunPost (continues u) k s l₁ (Ok (r.Paused k')) l₂
      → RunPost abandons k' s l₂ x l' → OneRun m u s l x l'

-- on 256 frames of its own: what is lent besides them, before and after
pub record PlayPost (m : Vm) (u : ℕ) (s : Stores) (l : List Frame → Lent) (r : Result Halt Refusal) (l' : List Frame → Lent) : Type 0 where
  pub frames : List Frame
  pub run : OneRun m u s (l (replicate 256 (root 0))) r (l' frames)
