-- [checker] Which item of an image begins at offset o: what comes before it is read, and where the one ends the next begins.
use Rattle.std.specs.Prelude.{◌≡◌, List, ℕ, zero, suc, ◌-◌, ◌≤◌, eqb, ltb, length, drop, if◌then◌else◌}
use Rattle.model.specs.Numbers.{Step, got, bad, number}
use Rattle.model.specs.Images.{takes, read_text, read_constant}
use Rattle.image_judge.specs.Links.{runs_for}
use Rattle.image_items.specs.declared.Row.{Row}
use Rattle.image_items.specs.declared.Row.TheVariants as w
use Rattle.image_items.specs.declared.Part.{Part}
use Rattle.image_items.specs.declared.Part.TheVariants as p
use Rattle.image_items.specs.declared.Sought.{Sought}
use Rattle.image_items.specs.declared.Sought.TheVariants as q

-- behind what was read; behind what cannot be read nothing is looked for
unfoldable pub passing : {A : Type 0} → List ℕ → Step A → (A → ℕ → Sought) → Sought
passing s (got a r) f = f a (length s - length r)
passing s (bad n) f = q.Is p.Nowhere

-- ---- entry k, which begins at the place `at`

-- a constant: its kind, and its value
unfoldable pub constant_part : List ℕ → (o k at : ℕ) → Sought
constant_part s o k at =
    if eqb at o then q.Is (p.Kind k) else passing s (number (drop at s)) (λ kind value.
    if eqb value o then q.Is (p.Value k) else passing s (read_constant tt (drop at s)) (λ c next. q.On next))

unfoldable pub struct_part : List ℕ → (o k at : ℕ) → Sought
struct_part s o k at = if eqb at o then q.Is (p.Struct k) else passing s (read_text (drop at s)) (λ t next. q.On next)

-- the places of a function's code: all that stands there up to what comes behind them
unfoldable pub places_part : List ℕ → (o k : ℕ) → Step (List ℕ) → Sought
places_part s o k (got ps r) = if ltb o (length s - length r) then q.Is (p.Places k) else q.On (length s - length r)
places_part s o k (bad n) = q.Is (p.Places k)

-- n bytes of code
unfoldable pub code_part : List ℕ → (o k n code : ℕ) → Sought
code_part s o k n code =
    if eqb code o then q.Is (p.Code k) else passing s (takes n (drop code s)) (λ c places. places_part s o k (runs_for n (drop places s)))

-- a function: its name, its code's length, and the rest
unfoldable pub function_part : List ℕ → (o k at : ℕ) → Sought
function_part s o k at =
    if eqb at o then q.Is (p.Name k) else passing s (read_text (drop at s)) (λ t behind.
    if eqb behind o then q.Is (p.Length k) else passing s (number (drop behind s)) (λ n code. code_part s o k n code))

unfoldable pub entry_part : Row → List ℕ → (o k at : ℕ) → Sought
entry_part w.Constants s o k at = constant_part s o k at
entry_part w.Structs s o k at = struct_part s o k at
entry_part w.Functions s o k at = function_part s o k at

-- ---- the rows

unfoldable pub onward : Sought → (ℕ → Sought) → Sought
onward (q.Is x) f = q.Is x
onward (q.On n) f = f n

-- n entries, from number k on
unfoldable pub row_part : Row → List ℕ → (o k n at : ℕ) → Sought
row_part w s o k zero at = q.On at
row_part w s o k (suc n) at = onward (entry_part w s o k at) (λ next. row_part w s o (suc k) n next)

-- a row with its count
unfoldable pub section_part : Row → List ℕ → (o at : ℕ) → Sought
section_part w s o at = if eqb at o then q.Is (p.Count w) else passing s (number (drop at s)) (λ n first. row_part w s o 0 n first)

-- ---- the image

unfoldable pub at_end : ℕ → Sought → Part
at_end o (q.Is x) = x
at_end o (q.On end) = if eqb end o then p.Behind else p.Nowhere

unfoldable pub part_at : List ℕ → (o : ℕ) → Part
part_at s o =
    at_end o (onward (section_part w.Constants s o 0) (λ structs. onward (section_part w.Structs s o structs) (λ functions. section_part w.Functions s o functions)))

-- ---- what the functions promise: what was found, and that what comes behind begins inside the image

abbrev pub Inside : ℕ → Sought → Type 0
Inside n (q.Is x) = Unit
Inside n (q.On next) = next ≤ n

pub record SoughtPost (s : List ℕ) (want r : Sought) : Type 0 where
  pub is : r ≡ want
  pub inside : Inside (length s) r
