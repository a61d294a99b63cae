-- What the functions of the check promise each other. `s` is the image, and a place is an offset in it.
use Rattle.std.specs.Prelude.{◌≡◌, Bool, true, false, List, ℕ, ◌≤◌, ◌<◌, length, get_or, Ok, Err, Result}
use denote.Ref.{Bor, MutBor}
use Rattle.model.specs.Programs.{Program}
use Rattle.model.specs.Images.{fine, judge}
use Rattle.model.specs.Emission.{written}
use Rattle.image_judge.specs.declared.Sizes.{Sizes}
use Rattle.image_judge.specs.Links.{SizesOf}
use Rattle.image_codes.specs.Links.{Ready}
use Rattle.check_rules.specs.declared.Rule.{Rule}
use Rattle.check_rules.specs.declared.Rule.TheVariants as r
use Rattle.check_rules.specs.Rules.{calls_in, count_of, Greatest, code_of, is_main, Keeps, rule_number, KeptByAll, Passed, Broken}
use Rattle.check_rules.specs.Checks.{HeightsOf}
use Rattle.check_code.specs.Tallies.{tallied}

-- ---- one rule over all functions

-- a verdict on P
abbrev pub Tells : Bool → Type 0 → Type 0
Tells true P = P
Tells false P = P → ⊥

-- of a function that has this code, in a program of these sizes
pub record KeepsPost (q : Rule) (main : Bool) (code : List ℕ) (z : Sizes) (b : Bool) : Type 0 where
  pub tells : (p : Program) → SizesOf p z → (f : ℕ) → is_main f ≡ main → code_of p f ≡ code → Tells b (Keeps p q f)

-- f is the lowest number below n that breaks Q; n where none does
pub record Lowest (Q : ℕ → Type 0) (n f : ℕ) : Type 0 where
  pub lower : (g : ℕ) → g < f → Q g
  pub breaks : f < n → Q f → ⊥
  pub most : f ≤ n

-- a function's code may be asked about, with marks to write over that reach past it
abbrev pub MayBeAsked : (Bool → Bor (List ℕ) → MutBor (List ℕ) → Type 0) → Type 0
MayBeAsked pre = (main : Bool) (code : Bor (List ℕ)) (marks : MutBor (List ℕ)) → length code.now < length marks.now → pre main code marks

-- and what is answered tells whether a function that has this code keeps the rule
abbrev pub AnswersFor : Rule → Sizes → (Bool → Bor (List ℕ) → MutBor (List ℕ) → Bool → MutBor (List ℕ) → Type 0) → Type 0
AnswersFor q z post = (main : Bool) (code : Bor (List ℕ)) (marks : MutBor (List ℕ)) (b : Bool) (after : MutBor (List ℕ))
    → post main code marks b after → KeepsPost q main code.now z b

-- ---- rule 4

-- every Call of the program stands in the tally, and an entry is a count of arguments and two more at most
pub record Tallied (p : Program) (counts : List ℕ) : Type 0 where
  pub each : (f : ℕ) → get_or counts f 0 ≡ tallied f 0 (calls_in p.functions)
  pub few : (f : ℕ) → get_or counts f 0 < 65538

pub record TalliedPost (s counts : List ℕ) : Type 0 where
  pub tallies : (p : Program) → judge s ≡ fine p → Tallied p counts

pub record CountsPost (n : ℕ) (counts : List ℕ) (f : ℕ) : Type 0 where
  pub lowest : Lowest (λ g. get_or counts g 0 ≡ 1 → ⊥) n f

-- ---- rule 6

-- rules 1, 4 and 5 are kept by all
pub record Measurable (s : List ℕ) (z : Sizes) (counts : List ℕ) : Type 0 where
  pub ready : Ready s z
  pub room : length counts ≡ 65536
  pub tallies : Tallied ready.says.program counts
  pub whole : KeptByAll ready.says.program r.Instructions
  pub differ : (f : ℕ) → f < length ready.says.program.functions → get_or counts f 0 ≡ 1 → ⊥
  pub landing : KeptByAll ready.says.program r.Jumps

-- the greatest heights of the functions below n
abbrev pub GreatestBelow : Program → ℕ → List ℕ → Type 0
GreatestBelow p n hs = (g : ℕ) → g < n → Greatest (is_main g) (count_of p g) (code_of p g) (get_or hs g 0)

pub record Measured (p : Program) (hs : List ℕ) (f : ℕ) : Type 0 where
  pub lowest : Lowest (Keeps p r.Heights) (length p.functions) f
  pub greatest : GreatestBelow p f hs

pub record MeasuredPost (s hs : List ℕ) (f : ℕ) : Type 0 where
  pub measures : (p : Program) → judge s ≡ fine p → Measured p hs f

-- ---- all rules

-- the rules of lower numbers are kept by all
pub record KeptBelow (p : Program) (k : ℕ) : Type 0 where
  pub kept : (e : Rule) → rule_number e < k → KeptByAll p e

-- the first broken rule; or none of a lower number than k is broken
abbrev pub FoundBelow : ℕ → Program → Result Unit (Rule × ℕ) → Type 0
FoundBelow k p (Ok u) = KeptBelow p k
FoundBelow k p (Err (q, g)) = Broken p q g

pub record BelowPost (k : ℕ) (s : List ℕ) (x : Result Unit (Rule × ℕ)) : Type 0 where
  pub finds : (p : Program) → judge s ≡ fine p → FoundBelow k p x

-- and if none is, the heights can be measured by the tally
pub record LinksPost (s : List ℕ) (z : Sizes) (x : Result Unit (Rule × ℕ)) (counts : List ℕ) : Type 0 where
  pub found : BelowPost 6 s x
  pub tally : x ≡ Ok tt → Measurable s z counts

pub record AllKept (p : Program) (hs : List ℕ) : Type 0 where
  pub passed : Passed p
  pub greatest : GreatestBelow p (length p.functions) hs

abbrev pub FindingIs : Program → Result Unit (Rule × ℕ) → List ℕ → Type 0
FindingIs p (Ok u) hs = AllKept p hs
FindingIs p (Err (q, g)) hs = Broken p q g

pub record FindingPost (s : List ℕ) (x : Result Unit (Rule × ℕ)) (hs : List ℕ) : Type 0 where
  pub finds : (p : Program) → judge s ≡ fine p → FindingIs p x hs

-- ---- the entry

-- all rules are kept, and the greatest heights put into their store
pub record Kept (p : Program) (before after : List ℕ) : Type 0 where
  pub passed : Passed p
  pub heights : List ℕ
  pub each : HeightsOf p heights
  pub put : after ≡ written before 0 heights

pub record Unkept (p : Program) (q : Rule) (g : ℕ) (before after : List ℕ) : Type 0 where
  pub broken : Broken p q g
  pub same : after ≡ before

abbrev pub RulesSay : Program → Result Unit (Rule × ℕ) → (before after : List ℕ) → Type 0
RulesSay p (Ok u) before after = Kept p before after
RulesSay p (Err (q, g)) before after = Unkept p q g before after

pub record RulesPost (s before : List ℕ) (x : Result Unit (Rule × ℕ)) (after : List ℕ) : Type 0 where
  pub says : (p : Program) → judge s ≡ fine p → RulesSay p x before after
