-- Where the functions' codes stand in an image that was judged. `s` is the image, and a place is an offset in it.
use Rattle.std.specs.Prelude.{◌≡◌, Bool, true, false, List, ℕ, ◌+◌, ◌-◌, ◌≤◌, eqb, length, drop}
use Rattle.model.specs.Numbers.{Step, got}
use Rattle.model.specs.Programs.{Function, Program, within_limits}
use Rattle.model.specs.Images.{series, read_function}
use Rattle.image_judge.specs.declared.Sizes.{Sizes}
use Rattle.image_judge.specs.Links.{part_of, Good, Says}
use Rattle.image_codes.specs.declared.Code.{Code}

-- if a function is read at the place, this is its code, and the rest begins at `next`
pub record CodeOf (s : List ℕ) (f : Function) (rest : List ℕ) (c : Code) : Type 0 where
  pub code : part_of s c.from c.size ≡ f.code
  pub next : drop c.next s ≡ rest

pub record CodePost (first : Bool) (s : List ℕ) (at : ℕ) (c : Code) : Type 0 where
  pub inside : c.from + c.size ≤ length s
  pub ahead : at ≤ c.next
  pub within : c.next ≤ length s
  pub reads : (f : Function) (rest : List ℕ) → read_function first (drop at s) ≡ got f rest → CodeOf s f rest c

-- an image that was judged, of these sizes and within the limits
pub record Ready (s : List ℕ) (z : Sizes) : Type 0 where
  pub says : Says s z
  pub within : within_limits says.program ≡ true

-- so many functions are read; number i is the first of them
unfoldable pub functions_from : (i count : ℕ) → List ℕ → Step (List Function)
functions_from i n b = series read_function (λ x f. false) n (eqb i 0) b

-- at the place the functions from number i on are read, to the image's end
pub record From (p : Program) (s : List ℕ) (i at : ℕ) : Type 0 where
  pub read : Good (functions_from i (length p.functions - i)) s at (length s) (drop i p.functions)
