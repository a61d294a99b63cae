-- An image checked in stores of the runner's sizes, and what is printed of it.
use Rattle.std.specs.Prelude.{◌≡◌, Bool, false, List, ℕ, ◌≤◌, ◌<◌, ◌^◌, eqb, length, replicate, Err, None, Ok, Option, Result, Some}
use Rattle.model.specs.Programs.{Program}
use Rattle.model.specs.Images.{fine, judge}
use Rattle.model.specs.Reports.{empty_stores}
use Rattle.model.specs.declared.Counts.{Counts}
use Rattle.model.specs.Stores.{Stores, stores_of, functions_from, program_in}
use Rattle.listing.specs.Links.{lent}
use Rattle.report_lines.specs.Links.{printed}
use Rattle.printing.specs.Links.{Put}
use Rattle.check_rules.specs.declared.Rule.{Rule}
use Rattle.check_rules.specs.declared.Rule.TheVariants as r
use Rattle.check_rules.specs.Rules.{count_of, code_of, is_main, rule_number}
use Rattle.check_rules.specs.Checks.{CheckAs}
use Rattle.check_heights.specs.declared.Flaw.{Flaw}
use Rattle.check_heights.specs.Answer.{BreaksAt}
use Rattle.check_places.specs.declared.CallSite.{CallSite}
use Rattle.check_places.specs.Calls.{first_call}
use Rattle.check_image.specs.Flaws.{FlawIn}
use Rattle.check_report.specs.Details.{counts_words, function_words, loaded_words, details}
use Rattle.check_report.specs.Texts.{facts_text, checked_text}
use Rattle.model.specs.declared.Refusal.{Refusal}
use Rattle.check_rules.specs.declared.Rejected.{Rejected}
use Rattle.model.specs.declared.Refusal.TheVariants as why
use Rattle.check_rules.specs.declared.Rejected.TheVariants as no

-- the heights that an answer speaks of are in their store
abbrev pub Inside : Result Counts Rejected → ℕ → Type 0
Inside (Ok k) n = k.functions ≤ n
Inside (Err e) n = Unit

-- an answer that can be printed: the store of its heights is small enough to count the bytes
pub record Tellable (a : Result Counts Rejected) (heights : List ℕ) : Type 0 where
  pub inside : Inside a (length heights)
  pub small : length heights < 2 ^ 32

-- what is answered of an image, and the heights then: one of more than 16,384 bytes is past a limit, and any other is checked in empty stores
pub data Answers (image heights : List ℕ) : Result Counts Rejected → (heights' : List ℕ) → Type 0 where
  too_long : 16384 < length image → Answers image heights (Err (no.Refused why.OverLimit)) heights
  checked : length image ≤ 16384 → {a : Result Counts Rejected} {heights' : List ℕ} {s : Stores} → CheckAs image heights empty_stores a heights' s
      → Answers image heights a heights'

-- rule 6 is told
unfoldable pub of_heights : Result Counts Rejected → Bool
of_heights (Ok k) = false
of_heights (Err (no.Refused e)) = false
of_heights (Err (no.Breaks q f)) = eqb (rule_number q) 6

-- what is said to break rule 6 does; of anything else nothing is said
pub data FlawTold (image : List ℕ) : Result Counts Rejected → Option Flaw → Type 0 where
  breaks_it : {p : Program} → judge image ≡ fine p → {f : ℕ} {x : Flaw} → BreaksAt (is_main f) (count_of p f) (code_of p f) x → FlawTold image (Err (no.Breaks r.Heights f)) (Some x)
  not_heights : {a : Result Counts Rejected} → of_heights a ≡ false → FlawTold image a None

-- the text of what is answered was printed
pub record Checks (image out : List ℕ) (r : ℕ) (out' : List ℕ) : Type 0 where
  pub answer : Result Counts Rejected
  pub heights : List ℕ
  pub answers : Answers image (replicate 256 0) answer heights
  pub flaw : Option Flaw
  pub told : FlawTold image answer flaw
  pub text : record { count = r; out = out' } ≡ printed (checked_text answer (details image answer flaw) heights) out

-- the facts of what is answered were put, 16,480 bytes at most
pub record Facts (image out : List ℕ) (r : ℕ) (out' : List ℕ) : Type 0 where
  pub answer : Result Counts Rejected
  pub heights : List ℕ
  pub answers : Answers image (replicate 256 0) answer heights
  pub put : Put 16480 (facts_text answer heights) out 0 out' r

-- ---- what is said of a function that breaks a rule, of whatever else the program's stores hold

-- a Call that was looked for in n functions
pub record CalledPost (f : ℕ) (any : Bool) (k n : ℕ) (functions main other : List ℕ) (x : Option CallSite) : Type 0 where
  pub means : (rest : Stores) (text : List ℕ) → x ≡ first_call f any k 0 (functions_from n 0 (lent rest functions text main other))

pub record CountsPost (k : Counts) (functions main other : List ℕ) (q : Rule) (f : ℕ) (out : List ℕ) (at : ℕ) (out' : List ℕ) (r : ℕ) : Type 0 where
  pub says : (rest : Stores) (text : List ℕ) → Put 168 (counts_words (program_in k (lent rest functions text main other)) q f) out at out' r

pub record FunctionPost (k : Counts) (functions text main other : List ℕ) (q : Rule) (f : ℕ) (x : Option Flaw) (out out' : List ℕ) (r : ℕ) : Type 0 where
  pub says : (constants structs main_places other_places : List ℕ)
      → Put 384 (function_words (program_in k (stores_of constants structs functions text main main_places other other_places)) q f x) out 0 out' r

pub record LoadedPost (a : Result Counts Refusal) (functions text main other : List ℕ) (q : Rule) (f : ℕ) (x : Option Flaw) (out out' : List ℕ) (r : ℕ) : Type 0 where
  pub says : (constants structs main_places other_places : List ℕ)
      → Put 384 (loaded_words a (stores_of constants structs functions text main main_places other other_places) q f x) out 0 out' r

-- ---- what is said of an answer, with the flaw that was asked for where rule 6 is told

pub data FlawAsked (image : List ℕ) : Result Counts Rejected → Option Flaw → Type 0 where
  asked : {f : ℕ} {x : Option Flaw} → FlawIn image f x → FlawAsked image (Err (no.Breaks r.Heights f)) x
  not_asked : {a : Result Counts Rejected} → of_heights a ≡ false → FlawAsked image a None

pub record Said (image : List ℕ) (a : Result Counts Rejected) (out out' : List ℕ) (r : ℕ) : Type 0 where
  pub flaw : Option Flaw
  pub finds : FlawAsked image a flaw
  pub put : Put 384 (details image a flaw) out 0 out' r
