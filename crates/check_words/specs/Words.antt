-- [check] The check of an image as an entry for a host in C: what it answers, in words, and what then stands in every slice that the host lent.
-- "Refusals: 40 with the first broken rule in the order given and the lowest function that breaks it .., after 20, 17, 22 and 21"; what passes is loaded, and
-- so "25 first"
use Rattle.std.specs.Prelude.{◌≡◌, Bool, true, false, ◌&&◌, List, [], ◌∷◌, ℕ, eqb, leb, length, set, if◌then◌else◌, Err, Ok, Option, Result}
use Rattle.model.specs.declared.Frame.{Frame}
use Rattle.model.specs.Answers.{refusal_number}
use Rattle.model.specs.Basics.{written}
use Rattle.model.specs.Values.{places}
use Rattle.model.specs.Programs.{Program, within_limits}
use Rattle.model.specs.Images.{fine, broken, judge}
use Rattle.model.specs.Stores.{Stores}
use Rattle.model.specs.Loading.{laid, counts_for, room_for}
use Rattle.model.specs.Runs.{root}
use Rattle.model.specs.Machines.{fresh}
use Rattle.check_rules.specs.declared.Rule.{Rule}
use Rattle.check_rules.specs.Rules.{Passed, Broken, rule_number}
use Rattle.check_rules.specs.Checks.{HeightsOf}
use Rattle.embed_words.specs.Coding.{Coded, refused, refused_at, broken_at, vm_words, under_way}
use Rattle.model.specs.declared.Counts.{Counts}
use Rattle.check_rules.specs.declared.Rejected.{Rejected}
use Rattle.model.specs.declared.Refusal.{Refusal}
use Rattle.check_rules.specs.declared.Rejected.TheVariants as no

-- ---- an answer in words. w is the record's slice, a the answer's

-- a refusal that tells more than its number: the words are written as far as the answer has room, and the record stays
abbrev pub told : ℕ → List ℕ → (w a : List ℕ) → Coded
told n words w a = record { number = n; vm = w; answer = written a 0 words }

-- what passed is a fresh machine: its record is written
abbrev pub made : Program → (w a : List ℕ) → Coded
made p w a = record { number = 0; vm = written w 0 (vm_words (fresh (counts_for p))); answer = a }

-- what is wrong: a rule that is broken, by which function, or another refusal
abbrev pub breach_in : Rejected → Result (Rule × ℕ) Refusal
breach_in (no.Refused e) = Err e
breach_in (no.Breaks q f) = Ok (q, f)

-- 20 tells the offset of the item, 40 the rule, 1 to 6, and the function; E is any refusal that has a number
unfoldable pub rejected_told : {E : Type 0} → (number : E → ℕ) → (offset : E → Option ℕ) → Result (Rule × ℕ) E → (w a : List ℕ) → Coded
rejected_told number offset (Ok (q, f)) w a = told 40 (rule_number q ∷ f ∷ []) w a
rejected_told number offset (Err e) w a = refused_at (offset e) (number e) w a

unfoldable pub checked_told : {R E : Type 0} → (breach : R → Result (Rule × ℕ) E) → (number : E → ℕ) → (offset : E → Option ℕ) → Result Counts R → (w a : List ℕ) → Coded
checked_told breach number offset (Ok k) w a = record { number = 0; vm = written w 0 (vm_words (fresh k)); answer = a }
checked_told breach number offset (Err r) w a = rejected_told number offset (breach r) w a

-- and of the check's own answer
abbrev pub checked_coded : Result Counts Rejected → (w a : List ℕ) → Coded
checked_coded = checked_told breach_in refusal_number broken_at

-- ---- the entry

-- else 17: seventeen words for the record, two for the answer, and a place for the height of each function
unfoldable pub has_places : Program → (w a heights : List ℕ) → Bool
has_places p w a hs = (leb 17 (length w) && leb 2 (length a)) && leb (length p.functions) (places 1 hs)

-- else 21: room for the program, and a place for a frame
unfoldable pub has_room : Program → Stores → List Frame → Bool
has_room p s fs = room_for p s && leb 1 (length fs)

-- an image checked with a record, an answer, a store for the heights, a program's stores and a frame store: what comes back, and what then stands in them,
-- where no run is under way in the record. A refusal changes no store, and of the answer only the words that tell more. What is passed is loaded, as a
-- fresh machine with one frame.
pub data CheckIdle (image w a heights : List ℕ) (s : Stores) (fs : List Frame) : Coded → (heights' : List ℕ) → Stores → List Frame → Type 0 where
  not_an_image : {i : ℕ} → judge image ≡ broken i → CheckIdle image w a heights s fs (told 20 (i ∷ []) w a) heights s fs
  no_place_lem : {p : Program} → judge image ≡ fine p → has_places p w a heights ≡ false → CheckIdle image w a heights s fs (refused 17 w a) heights s fs
  past_a_limit : {p : Program} → judge image ≡ fine p → has_places p w a heights ≡ true → within_limits p ≡ false
      → CheckIdle image w a heights s fs (refused 22 w a) heights s fs
  no_room : {p : Program} → judge image ≡ fine p → has_places p w a heights ≡ true → within_limits p ≡ true → has_room p s fs ≡ false
      → CheckIdle image w a heights s fs (refused 21 w a) heights s fs
  breaks : {p : Program} → judge image ≡ fine p → has_places p w a heights ≡ true → within_limits p ≡ true → has_room p s fs ≡ true
      → {q : Rule} {f : ℕ} → Broken p q f → CheckIdle image w a heights s fs (told 40 (rule_number q ∷ f ∷ []) w a) heights s fs
  passes : {p : Program} → judge image ≡ fine p → has_places p w a heights ≡ true → within_limits p ≡ true → has_room p s fs ≡ true
      → Passed p → {hs : List ℕ} → HeightsOf p hs
      → CheckIdle image w a heights s fs (made p w a) (written heights 0 hs) (laid p s) (set fs 0 (root 0))

-- and where one is, before all else
pub data CheckThrough (image w a heights : List ℕ) (s : Stores) (fs : List Frame) : Coded → (heights' : List ℕ) → Stores → List Frame → Type 0 where
  under_way_lem : under_way w ≡ true → CheckThrough image w a heights s fs (refused 25 w a) heights s fs
  idle : under_way w ≡ false → {x : Coded} {hs : List ℕ} {s' : Stores} {fs' : List Frame} → CheckIdle image w a heights s fs x hs s' fs'
      → CheckThrough image w a heights s fs x hs s' fs'

-- ---- all but the frame

-- the frame store behind an answer of that number
unfoldable pub frames_after : (number : ℕ) → List Frame → List Frame
frames_after n fs = if eqb n 0 then set fs 0 (root 0) else fs

-- the same beside any frame store of n places
pub record CheckBeside (image w a heights : List ℕ) (s : Stores) (n : ℕ) (x : Coded) (heights' : List ℕ) (s' : Stores) : Type 0 where
  pub through : (fs : List Frame) → length fs ≡ n → CheckThrough image w a heights s fs x heights' s' (frames_after x.number fs)
