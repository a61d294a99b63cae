-- What the functions of the pass promise each other. A table of heights has 0 at a position whose height is not known, else the height and one more.
use Rattle.std.specs.Prelude.{◌≡◌, Bool, true, false, List, ℕ, zero, suc, ◌+◌, ◌≤◌, ◌<◌, max, length, get_or, set, replicate, Err, MatchResult, Ok, Result}
use Rattle.model.specs.Opcodes.{popped}
use Rattle.model.specs.Programs.{opcode_in, next_in}
use Rattle.check_rules.specs.Rules.{first_at, second_at, suffices, height_after, leads_on, is_jump, target_at, Path, Heights, Greatest}
use Rattle.check_heights.specs.declared.Flaw.{Flaw}
use Rattle.check_heights.specs.declared.Flaw.TheVariants as w
use Rattle.check_heights.specs.Answer.{HeightsPre, BreaksAt}

-- ---- an instruction

-- there is an instruction at i, and its operands
pub record Whole (code : List ℕ) (i : ℕ) : Type 0 where
  pub inside : i < length code
  pub whole : next_in code i ≤ length code
  pub codes : length code ≤ 65535

unfoldable pub popped_at : List ℕ → ℕ → ℕ
popped_at code i = popped (opcode_in code i) (first_at code i) (second_at code i)

-- no instruction is reached with more: an argument adds one, and so does a byte of code at most
abbrev pub height_limit : ℕ
height_limit = 131070

pub record AfterPre (code : List ℕ) (i h : ℕ) : Type 0 where
  pub here : Whole code i
  pub enough : suffices code i h ≡ true
  pub low : h ≤ height_limit

pub record AfterPost (code : List ℕ) (i h r : ℕ) : Type 0 where
  pub is : r ≡ height_after code i h
  pub low : r ≤ suc height_limit

-- ---- the table

pub record Known (t : List ℕ) (i h : ℕ) : Type 0 where
  pub is : get_or t i 0 ≡ h + 1

pub record Unknown (t : List ℕ) (i : ℕ) : Type 0 where
  pub is : get_or t i 0 ≡ 0

-- where an entry of the table is from after height g was sent to j, if go
pub data From (go : Bool) (j g : ℕ) (t : List ℕ) : (k x : ℕ) → Type 0 where
  old : {k x : ℕ} → Known t k x → From go j g t k x
  new : go ≡ true → From go j g t j g

pub record Sent (go : Bool) (j g : ℕ) (t t' : List ℕ) : Type 0 where
  pub done : go ≡ true → Known t' j g
  pub keeps : {k x : ℕ} → Known t k x → Known t' k x
  pub made : {k x : ℕ} → Known t' k x → From go j g t k x

-- another height is known there
pub data Clash (go : Bool) (j g : ℕ) (t : List ℕ) : Flaw → Type 0 where
  clash : go ≡ true → {other : ℕ} → Known t j other → (other ≡ g → ⊥) → Clash go j g t (w.Differs j other g)

pub record SendPre (go : Bool) (j g : ℕ) (t : List ℕ) : Type 0 where
  pub room : go ≡ true → j < length t
  pub low : g ≤ suc height_limit

pub record SendPost (go : Bool) (j g : ℕ) (t : List ℕ) (x : Result Unit Flaw) (t' : List ℕ) : Type 0 where
  pub means : MatchResult x (λ _. Sent go j g t t') (Clash go j g t)

-- ---- the two ways on from an instruction, both with height g

pub record Entered (main : Bool) (code : List ℕ) (i g : ℕ) (t t' : List ℕ) : Type 0 where
  pub mid : List ℕ
  pub on : Sent (leads_on main code i) (next_in code i) g t mid
  pub jumps : Sent (is_jump code i) (target_at code i) g mid t'

pub data Barred (main : Bool) (code : List ℕ) (i g : ℕ) (t : List ℕ) : Flaw → Type 0 where
  on_clash : {x : Flaw} → Clash (leads_on main code i) (next_in code i) g t x → Barred main code i g t x
  jump_clash : {x : Flaw} (mid : List ℕ) → Sent (leads_on main code i) (next_in code i) g t mid → Clash (is_jump code i) (target_at code i) g mid x → Barred main code i g t x

pub record EnterPre (code : List ℕ) (i g : ℕ) (t : List ℕ) : Type 0 where
  pub here : Whole code i
  pub lands : is_jump code i ≡ true → target_at code i ≤ length code
  pub room : length code < length t
  pub low : g ≤ suc height_limit

pub record EnterPost (main : Bool) (code : List ℕ) (i g : ℕ) (t : List ℕ) (x : Result Unit Flaw) (t' : List ℕ) : Type 0 where
  pub means : MatchResult x (λ _. Entered main code i g t t') (Barred main code i g t)

-- ---- an instruction that is reached with height h

pub record Visited (main : Bool) (code : List ℕ) (i h : ℕ) (t t' : List ℕ) : Type 0 where
  pub enough : suffices code i h ≡ true
  pub entered : Entered main code i (height_after code i h) t t'

pub data Stuck (main : Bool) (code : List ℕ) (i h : ℕ) (t : List ℕ) : Flaw → Type 0 where
  lacks : suffices code i h ≡ false → Stuck main code i h t (w.Lacks i h)
  barred : {x : Flaw} → Barred main code i (height_after code i h) t x → Stuck main code i h t x

pub record VisitPre (code : List ℕ) (i h : ℕ) (t : List ℕ) : Type 0 where
  pub here : Whole code i
  pub lands : is_jump code i ≡ true → target_at code i ≤ length code
  pub room : length code < length t
  pub low : h ≤ height_limit

pub record VisitPost (main : Bool) (code : List ℕ) (i h : ℕ) (t : List ℕ) (x : Result Unit Flaw) (t' : List ℕ) : Type 0 where
  pub means : MatchResult x (λ _. Visited main code i h t t') (Stuck main code i h t)

-- ---- a position, reached or not

pub record TurnPre (code : List ℕ) (i : ℕ) (t : List ℕ) : Type 0 where
  pub inside : i < length t
  pub ready : {h : ℕ} → Known t i h → VisitPre code i h t

-- the greatest height so far, and the table
pub data Turned (main : Bool) (code : List ℕ) (i top : ℕ) (t : List ℕ) : (top' : ℕ) (t' : List ℕ) → Type 0 where
  passes : Unknown t i → Turned main code i top t top t
  sees : {t' : List ℕ} {h : ℕ} → Known t i h → Visited main code i h t t' → Turned main code i top t (max top h) t'

pub record Broke (main : Bool) (code : List ℕ) (i : ℕ) (t : List ℕ) (x : Flaw) : Type 0 where
  pub height : ℕ
  pub known : Known t i height
  pub stuck : Stuck main code i height t x

abbrev pub TurnMeans : (r : Result ℕ Flaw) (main : Bool) (code : List ℕ) (i top : ℕ) (t t' : List ℕ) → Type 0
TurnMeans (Ok m) main code i top t t' = Turned main code i top t m t'
TurnMeans (Err x) main code i top t t' = Broke main code i t x

pub record TurnPost (main : Bool) (code : List ℕ) (i top : ℕ) (t : List ℕ) (r : Result ℕ Flaw) (t' : List ℕ) : Type 0 where
  pub means : TurnMeans r main code i top t t'

-- ---- the scan

-- the instruction at k, reached with x, has been seen to
pub record Done (main : Bool) (code t : List ℕ) (k x : ℕ) : Type 0 where
  pub enough : suffices code k x ≡ true
  pub on : leads_on main code k ≡ true → Known t (next_in code k) (height_after code k x)
  pub jumps : is_jump code k ≡ true → Known t (target_at code k) (height_after code k x)

-- the table when the positions below i have been seen to, and their greatest height
pub record Half (main : Bool) (count : ℕ) (code : List ℕ) (i top : ℕ) (t : List ℕ) : Type 0 where
  pub begun : Known t 0 count
  pub paths : {k x : ℕ} → Known t k x → Path main count code k x
  pub closed : {k x : ℕ} → k < i → Known t k x → Done main code t k x
  pub below : {k x : ℕ} → k < i → Known t k x → x ≤ top
  pub place : ℕ
  pub attained : Path main count code place top

-- the table in which only the start is known
unfoldable pub prepared : (count n : ℕ) → List ℕ
prepared count n = set (replicate n 0) 0 (count + 1)

abbrev pub ScanMeans : (r : Result ℕ Flaw) (main : Bool) (count : ℕ) (code t' : List ℕ) → Type 0
ScanMeans (Ok m) main count code t' = Half main count code (length code) m t'
ScanMeans (Err x) main count code t' = BreaksAt main count code x

pub record ScanPre (main : Bool) (count : ℕ) (code t : List ℕ) : Type 0 where
  pub given : HeightsPre main count code t
  pub fresh : t ≡ prepared count (length t)

pub record ScanPost (main : Bool) (count : ℕ) (code : List ℕ) (r : Result ℕ Flaw) (t' : List ℕ) : Type 0 where
  pub means : ScanMeans r main count code t'

-- ---- the end, by its entry: not reached, or reached, which main alone may be
unfoldable pub finished : (main : Bool) (top last : ℕ) → Result ℕ Flaw
finished main top zero = Ok top
finished true top (suc h) = Ok (max top h)
finished false top (suc h) = Err (w.Ends h)

-- ---- the pass

abbrev pub PassMeans : (r : Result ℕ Flaw) (main : Bool) (count : ℕ) (code : List ℕ) → Type 0
PassMeans (Ok m) main count code = Heights main count code × Greatest main count code m
PassMeans (Err x) main count code = BreaksAt main count code x

pub record PassPost (main : Bool) (count : ℕ) (code : List ℕ) (r : Result ℕ Flaw) : Type 0 where
  pub means : PassMeans r main count code
