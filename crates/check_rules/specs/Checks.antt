-- [check] What the check of an image answers, and what it leaves in the lent stores: "Refusals: 40 .., after 20, 17, 22 and 21".
use Rattle.std.specs.Prelude.{◌≡◌, true, false, List, ℕ, ◌<◌, ◌≤◌, length, get_or, Err, Ok, Result}
use Rattle.model.specs.declared.Counts.{Counts}
use Rattle.model.specs.declared.Refusal.TheVariants as why
use Rattle.model.specs.Values.{places}
use Rattle.model.specs.Programs.{Program, within_limits}
use Rattle.model.specs.Images.{fine, broken, judge}
use Rattle.model.specs.Stores.{Stores}
use Rattle.model.specs.Emission.{written}
use Rattle.model.specs.Loading.{laid, counts_for, room_for}
use Rattle.check_rules.specs.declared.Rule.{Rule}
use Rattle.check_rules.specs.declared.Rejected.{Rejected}
use Rattle.check_rules.specs.declared.Rejected.TheVariants as no
use Rattle.check_rules.specs.Rules.{count_of, Greatest, code_of, is_main, Passed, Broken}

-- "It also gives each function's greatest height": one for each function, in order
pub record HeightsOf (p : Program) (hs : List ℕ) : Type 0 where
  pub many : length hs ≡ length p.functions
  pub greatest : (f : ℕ) → f < length p.functions → Greatest (is_main f) (count_of p f) (code_of p f) (get_or hs f 0)

-- an image checked with a store for the heights, a place for each function, and the stores of a program: what is answered, and what then
-- stands in both. A refusal changes nothing; what is passed is loaded.
pub data CheckAs (image heights : List ℕ) (s : Stores) : Result Counts Rejected → (heights' : List ℕ) → Stores → Type 0 where
  not_an_image : {i : ℕ} → judge image ≡ broken i → CheckAs image heights s (Err (no.Refused (why.BrokenImage i))) heights s
  no_place_lem : {p : Program} → judge image ≡ fine p → places 1 heights < length p.functions → CheckAs image heights s (Err (no.Refused why.ResultTooShort)) heights s
  past_a_limit : {p : Program} → judge image ≡ fine p → length p.functions ≤ places 1 heights
      → within_limits p ≡ false → CheckAs image heights s (Err (no.Refused why.OverLimit)) heights s
  no_room : {p : Program} → judge image ≡ fine p → length p.functions ≤ places 1 heights → within_limits p ≡ true
      → room_for p s ≡ false → CheckAs image heights s (Err (no.Refused why.StoreFull)) heights s
  breaks : {p : Program} → judge image ≡ fine p → length p.functions ≤ places 1 heights → within_limits p ≡ true → room_for p s ≡ true
      → {q : Rule} {f : ℕ} → Broken p q f → CheckAs image heights s (Err (no.Breaks q f)) heights s
  passes : {p : Program} → judge image ≡ fine p → length p.functions ≤ places 1 heights → within_limits p ≡ true → room_for p s ≡ true
      → Passed p → {hs : List ℕ} → HeightsOf p hs → CheckAs image heights s (Ok (counts_for p)) (written heights 0 hs) (laid p s)
