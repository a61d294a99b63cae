-- What the answers of the code stand for. `s` is the image, and a place is an offset in it.
use Rattle.std.specs.Prelude.{◌≡◌, Bool, true, false, not, List, [], ◌∷◌, ℕ, zero, suc, ◌+◌, ◌-◌, ◌≤◌, ◌<◌, ◌^◌, ltb, eqb, length, take, drop, if◌then◌else◌, Err, None, Ok, Option, Result, Some}
use Rattle.model.specs.Numbers.{Step, got, bad, and_then}
use Rattle.model.specs.Programs.{Constant, scalar, boolean, string, reference, Function, Program, function_at, codes_within}
use Rattle.model.specs.Images as i
use Rattle.model.specs.Images.{joined, run, series, read_text, no_place, read_run_bytes, read_run_place, read_runs, read_function, read_functions, fine, broken, judge}
use Rattle.model.specs.Stores.{pack}
use Rattle.model.specs.Loading.{constant_text, constant_words, texts_of, main_of, others_of}
use Rattle.image_judge.specs.declared.Entry.{Entry}
use Rattle.image_judge.specs.declared.Section.{Section}
use Rattle.image_judge.specs.declared.Run.{Run}
use Rattle.image_judge.specs.declared.Head.{Head}
use Rattle.image_judge.specs.declared.Span.{Span}
use Rattle.image_judge.specs.declared.Others.{Others}
use Rattle.image_judge.specs.declared.Sizes.{Sizes}
use Rattle.image_judge.specs.declared.Ended.{Ended}
use Rattle.image_judge.specs.declared.Broken.{Broken}
use Rattle.image_judge.specs.declared.Broken.TheVariants.{At}
use Rattle.model.specs.declared.Refusal.{Refusal}
use Rattle.model.specs.declared.Refusal.TheVariants as why

-- what a broken image is refused with
abbrev pub refused : Broken → Refusal
refused (At o) = why.BrokenImage o

-- ---- reading at a place

-- what dec reads at the place `at` is a, and the next item begins at `next`
pub record Good {A : Type 0} (dec : List ℕ → Step A) (s : List ℕ) (at next : ℕ) (a : A) : Type 0 where
  pub means : dec (drop at s) ≡ got a (drop next s)
  pub ahead : at ≤ next
  pub within : next ≤ length s

-- what dec reads there breaks a rule, first in the item at `o`
pub record Bad {A : Type 0} (dec : List ℕ → Step A) (s : List ℕ) (at o : ℕ) : Type 0 where
  pub means : dec (drop at s) ≡ bad (length s - o)
  pub ahead : at ≤ o
  pub within : o ≤ length s

-- ---- texts

unfoldable pub part_of : List ℕ → ℕ → ℕ → List ℕ
part_of s i n = take n (drop i s)

pub record TextAt (s : List ℕ) (at i n : ℕ) : Type 0 where
  pub good : Good read_text s at (i + n) (part_of s i n)
  pub ahead : at ≤ i
  pub near : i ≤ at + 5
  pub small : n < 2 ^ 32

abbrev pub TextIs : List ℕ → ℕ → Option (ℕ × ℕ) → Type 0
TextIs s at (Some (i, n)) = TextAt s at i n
TextIs s at None = Bad read_text s at at

pub record TextPost (s : List ℕ) (at : ℕ) (r : Option (ℕ × ℕ)) : Type 0 where
  pub is : TextIs s at r

-- ---- constants

unfoldable pub constant_of : ℕ → ℕ → List ℕ → Constant
constant_of zero w t = scalar w
constant_of (suc zero) w t = boolean (not (eqb w 0))
constant_of (suc (suc zero)) w t = string t
constant_of (suc (suc (suc k))) w t = reference t

unfoldable pub constant_at : List ℕ → Entry → Constant
constant_at s p = constant_of p.kind p.word (part_of s p.from p.len)

-- the payload in the store, the text being written at o
unfoldable pub payload_at : ℕ → Entry → ℕ
payload_at o p = if ltb p.kind 2 then p.word else pack o p.len

pub record EntryAt (dec : List ℕ → Step Constant) (s : List ℕ) (at : ℕ) (p : Entry) : Type 0 where
  pub good : Good dec s at p.next (constant_at s p)
  pub text : constant_text (constant_at s p) ≡ part_of s p.from p.len
  pub words : (o : ℕ) → constant_words o (constant_at s p) ≡ p.kind ∷ payload_at o p ∷ []
  pub inside : p.from + p.len ≤ length s
  pub small : p.len < 2 ^ 32
  pub room : at + p.len ≤ p.next

abbrev pub ItemIs : (List ℕ → Step Constant) → List ℕ → ℕ → Result Entry Broken → Type 0
ItemIs dec s at (Ok p) = EntryAt dec s at p
ItemIs dec s at (Err (At o)) = Bad dec s at o

pub record ItemPost (dec : List ℕ → Step Constant) (s : List ℕ) (at : ℕ) (r : Result Entry Broken) : Type 0 where
  pub is : ItemIs dec s at r

-- ---- a section: a count, and each with its text

pub record SectionAt {A : Type 0} (dec : List ℕ → Step (List A)) (text_of : A → List ℕ) (s : List ℕ) (at : ℕ) (z : Section) : Type 0 where
  pub held : List A
  pub good : Good dec s at z.next held
  pub count : z.count ≡ length held
  pub text : z.text ≡ length (joined text_of held)
  pub room : at + z.text ≤ z.next

abbrev pub CheckedIs : {A : Type 0} → (List ℕ → Step (List A)) → (A → List ℕ) → List ℕ → ℕ → Result Section Broken → Type 0
CheckedIs dec text_of s at (Ok z) = SectionAt dec text_of s at z
CheckedIs dec text_of s at (Err (At o)) = Bad dec s at o

pub record CheckPost {A : Type 0} (dec : List ℕ → Step (List A)) (text_of : A → List ℕ) (s : List ℕ) (at : ℕ) (r : Result Section Broken) : Type 0 where
  pub is : CheckedIs dec text_of s at r

-- ---- runs

-- a run's two items
unfoldable pub one_run : ℕ → ℕ → List ℕ → Step i.Run
one_run left q b = and_then (read_run_bytes left b) (λ n r. and_then (read_run_place q r) (λ p s. got (run n p) s))

pub record RunAt (s : List ℕ) (at left q : ℕ) (p : Run) : Type 0 where
  pub good : Good (one_run left q) s at p.next (run p.bytes p.place)
  pub some : 0 < p.bytes
  pub most : p.bytes ≤ left

abbrev pub NextRunIs : List ℕ → ℕ → ℕ → ℕ → Result Run Broken → Type 0
NextRunIs s at left q (Ok p) = RunAt s at left q p
NextRunIs s at left q (Err (At o)) = Bad (one_run left q) s at o

pub record RunPost (s : List ℕ) (at left q : ℕ) (x : Result Run Broken) : Type 0 where
  pub is : NextRunIs s at left q x

-- the runs of `size` bytes of code
unfoldable pub runs_for : ℕ → List ℕ → Step (List ℕ)
runs_for size b = read_runs size size no_place b

pub record RunsAt (s : List ℕ) (at size next : ℕ) : Type 0 where
  pub held : List ℕ
  pub good : Good (runs_for size) s at next held

abbrev pub BehindIs : List ℕ → ℕ → ℕ → Result ℕ Broken → Type 0
BehindIs s at size (Ok next) = RunsAt s at size next
BehindIs s at size (Err (At o)) = Bad (runs_for size) s at o

pub record RunsPost (s : List ℕ) (at size : ℕ) (x : Result ℕ Broken) : Type 0 where
  pub is : BehindIs s at size x

-- ---- functions

unfoldable pub function_of : List ℕ → Head → List ℕ → Function
function_of s x ps = record { name = part_of s x.name x.len; code = part_of s x.code x.size; places = ps }

-- behind the head the runs follow
pub record HeadAt (first : Bool) (s : List ℕ) (at : ℕ) (x : Head) : Type 0 where
  pub leads : read_function first (drop at s) ≡ and_then (runs_for x.size (drop (x.code + x.size) s)) (λ ps u. got (function_of s x ps) u)
  pub name : x.name + x.len ≤ length s
  pub code : x.code + x.size ≤ length s
  pub small : (x.len < 2 ^ 32) × (x.size < 2 ^ 32)
  pub room : at + x.len ≤ x.code

abbrev pub BegunIs : Bool → List ℕ → ℕ → Result Head Broken → Type 0
BegunIs first s at (Ok x) = HeadAt first s at x
BegunIs first s at (Err (At o)) = Bad (read_function first) s at o

pub record HeadPost (first : Bool) (s : List ℕ) (at : ℕ) (r : Result Head Broken) : Type 0 where
  pub is : BegunIs first s at r

pub record SpanAt (first : Bool) (s : List ℕ) (at : ℕ) (z : Span) : Type 0 where
  pub held : Function
  pub good : Good (read_function first) s at z.next held
  pub name : z.name ≡ length held.name
  pub code : z.code ≡ length held.code
  pub room : at + z.name + z.code ≤ z.next

abbrev pub SpannedIs : Bool → List ℕ → ℕ → Result Span Broken → Type 0
SpannedIs first s at (Ok z) = SpanAt first s at z
SpannedIs first s at (Err (At o)) = Bad (read_function first) s at o

pub record SpanPost (first : Bool) (s : List ℕ) (at : ℕ) (r : Result Span Broken) : Type 0 where
  pub is : SpannedIs first s at r

-- the functions behind main
unfoldable pub others_for : ℕ → List ℕ → Step (List Function)
others_for n b = series read_function (λ x f. false) n false b

pub record OthersAt (n : ℕ) (s : List ℕ) (at : ℕ) (z : Others) : Type 0 where
  pub held : List Function
  pub good : Good (others_for n) s at z.next held
  pub text : z.text ≡ length (joined (λ f. f.name) held)
  pub code : z.code ≡ length (joined (λ f. f.code) held)
  pub within : z.within ≡ codes_within held
  pub room : at + z.text + z.code ≤ z.next

abbrev pub RestIs : ℕ → List ℕ → ℕ → Result Others Broken → Type 0
RestIs n s at (Ok z) = OthersAt n s at z
RestIs n s at (Err (At k)) = Bad (others_for n) s at k

pub record OthersPost (n : ℕ) (s : List ℕ) (at : ℕ) (r : Result Others Broken) : Type 0 where
  pub is : RestIs n s at r

-- all functions, the first of them main
unfoldable pub functions_for : ℕ → List ℕ → Step (List Function)
functions_for n b = series read_function (λ x f. false) n true b

pub record FunctionsAt (s : List ℕ) (at : ℕ) (z : Ended) : Type 0 where
  pub held : List Function
  pub good : Good read_functions s at z.next held
  pub begins : Good (functions_for z.count) s z.first z.next held
  pub count : z.count ≡ length held
  pub text : z.text ≡ length (joined (λ f. f.name) held)
  pub main : z.main ≡ length (function_at held 0).code
  pub other : z.other ≡ length (joined (λ f. f.code) (drop 1 held))
  pub within : z.within ≡ codes_within held
  pub room : at + z.text ≤ z.next

abbrev pub CodedIs : List ℕ → ℕ → Result Ended Broken → Type 0
CodedIs s at (Ok z) = FunctionsAt s at z
CodedIs s at (Err (At o)) = Bad read_functions s at o

pub record FunctionsPost (s : List ℕ) (at : ℕ) (r : Result Ended Broken) : Type 0 where
  pub is : CodedIs s at r

-- ---- the whole image

-- every number is that of the program
pub record SizesOf (p : Program) (z : Sizes) : Type 0 where
  pub constants : z.constants ≡ length p.constants
  pub structs : z.structs ≡ length p.structs
  pub functions : z.functions ≡ length p.functions
  pub text : z.text ≡ length (texts_of p)
  pub main : z.main ≡ length (main_of p).code
  pub other : z.other ≡ length (joined (λ f. f.code) (others_of p))
  pub within : z.within ≡ codes_within p.functions

pub record Says (s : List ℕ) (z : Sizes) : Type 0 where
  pub program : Program
  pub judged : judge s ≡ fine program
  pub sizes : SizesOf program z
  pub begins : Good (functions_for z.functions) s z.first (length s) program.functions

abbrev pub JudgementIs : List ℕ → Result Sizes Broken → Type 0
JudgementIs s (Ok z) = Says s z
JudgementIs s (Err (At o)) = judge s ≡ broken o

pub record JudgePost (s : List ℕ) (r : Result Sizes Broken) : Type 0 where
  pub is : JudgementIs s r
