-- [image] The rule image: the one image of a program, and the reading of bytes.
use Rattle.std.specs.Prelude.{◌≡◌, Bool, true, false, not, ◌&&◌, List, [], ◌∷◌, ◌++◌, ℕ, zero, suc, ◌+◌, ◌-◌, ◌*◌, ◌/◌, ◌%◌, ◌<◌, ◌^◌, ltb, leb, eqb, length, take, drop, replicate, if◌then◌else◌}
use Rattle.model.specs.Numbers.{Step, got, bad, and_then, item, checked, digits, number}
use Rattle.model.specs.Equality.{same_bytes}
pub use Rattle.model.specs.Numbers.{Small}
use Rattle.model.specs.Programs.{Constant, scalar, boolean, string, reference, Function, Program, main_name, among}

-- ---- the image of a program

unfoldable pub joined : {A : Type 0} → (A → List ℕ) → List A → List ℕ
joined f [] = []
joined f (a ∷ l) = f a ++ joined f l

-- a count, and each in order
unfoldable pub counted : {A : Type 0} → (A → List ℕ) → List A → List ℕ
counted f l = digits (length l) ++ joined f l

-- the lowest n bytes of w, low first
unfoldable pub bytes_of : ℕ → ℕ → List ℕ
bytes_of zero w = []
bytes_of (suc n) w = w % 256 ∷ bytes_of n (w / 256)

-- a text as length and bytes
unfoldable pub text_image : List ℕ → List ℕ
text_image t = digits (length t) ++ t

-- a constant as a kind number and its body
unfoldable pub constant_image : Constant → List ℕ
constant_image (scalar w) = 0 ∷ bytes_of 8 w
constant_image (boolean false) = 1 ∷ 0 ∷ []
constant_image (boolean true) = 1 ∷ 1 ∷ []
constant_image (string t) = 2 ∷ text_image t
constant_image (reference t) = 3 ∷ text_image t

-- so many neighbouring bytes have this place
pub record Run : Type 0 where
  pub bytes : ℕ
  pub place : ℕ

abbrev pub run : ℕ → ℕ → Run
run n p = record { bytes = n; place = p }

-- a place in front of runs: neighbours with the same place are one run
unfoldable pub join_run : ℕ → List Run → List Run
join_run p [] = run 1 p ∷ []
join_run p (r ∷ rs) = if eqb p r.place then run (suc r.bytes) p ∷ rs else run 1 p ∷ r ∷ rs

unfoldable pub runs_of : List ℕ → List Run
runs_of [] = []
runs_of (p ∷ ps) = join_run p (runs_of ps)

unfoldable pub run_image : Run → List ℕ
run_image r = digits r.bytes ++ digits r.place

-- a function: its name, code length, code, then runs
unfoldable pub function_image : Function → List ℕ
function_image f = text_image f.name ++ digits (length f.code) ++ f.code ++ joined run_image (runs_of f.places)

unfoldable pub image_of : Program → List ℕ
image_of p = counted constant_image p.constants ++ counted text_image p.structs ++ counted function_image p.functions

-- ---- the reading of bytes: a program, or how many bytes were left at the first item that breaks a rule

-- n readings, each by what those before it gave
unfoldable pub series : {S A : Type 0} → (S → List ℕ → Step A) → (S → A → S) → ℕ → S → List ℕ → Step (List A)
series dec next zero s b = got [] b
series dec next (suc n) s b = and_then (dec s b) (λ a r. and_then (series dec next n (next s a) r) (λ l q. got (a ∷ l) q))

-- an item of n bytes
unfoldable pub takes : ℕ → List ℕ → Step (List ℕ)
takes n b = if leb n (length b) then got (take n b) (drop n b) else bad (length b)

-- a text with its length: one item
unfoldable pub read_text : List ℕ → Step (List ℕ)
read_text b = item b (and_then (number b) takes)

unfoldable pub word_of : List ℕ → ℕ
word_of [] = 0
word_of (x ∷ r) = x + 256 * word_of r

-- a byte 0 or 1
unfoldable pub read_flag : List ℕ → Step Bool
read_flag [] = bad 0
read_flag (zero ∷ r) = got false r
read_flag (suc zero ∷ r) = got true r
read_flag (suc (suc x) ∷ r) = bad (suc (length r))

-- a kind number: 0 scalar, 1 boolean, 2 string, 3 reference
unfoldable pub read_kind : List ℕ → Step ℕ
read_kind b = item b (checked (λ k. leb k 3) (number b))

unfoldable pub read_body : ℕ → List ℕ → Step Constant
read_body zero b = and_then (takes 8 b) (λ l r. got (scalar (word_of l)) r)
read_body (suc zero) b = and_then (read_flag b) (λ x r. got (boolean x) r)
read_body (suc (suc zero)) b = and_then (read_text b) (λ t r. got (string t) r)
read_body (suc (suc (suc k))) b = and_then (read_text b) (λ t r. got (reference t) r)

unfoldable pub read_constant : Unit {0} → List ℕ → Step Constant
read_constant u b = and_then (read_kind b) read_body

abbrev pub always : {A : Type 0} → Unit {0} → A → Unit {0}
always u a = tt

unfoldable pub read_constants : List ℕ → Step (List Constant)
read_constants b = and_then (number b) (λ n r. series read_constant always n tt r)

-- a struct name that is none of those before it
unfoldable pub read_name : List (List ℕ) → List ℕ → Step (List ℕ)
read_name seen b = item b (checked (λ t. not (among t seen)) (read_text b))

abbrev pub snoc : List (List ℕ) → List ℕ → List (List ℕ)
snoc l t = l ++ (t ∷ [])

unfoldable pub read_structs : List ℕ → Step (List (List ℕ))
read_structs b = and_then (number b) (λ n r. series read_name snoc n [] r)

-- before the first run: a number that no place is
abbrev pub no_place : ℕ
no_place = 0x1_0000_0000

-- a run's byte count, where `left` bytes of code have no place yet: neither 0 nor too long
unfoldable pub read_run_bytes : ℕ → List ℕ → Step ℕ
read_run_bytes left b = item b (checked (λ n. ltb 0 n && leb n left) (number b))

-- a run's place, other than that of the run before it
unfoldable pub read_run_place : ℕ → List ℕ → Step ℕ
read_run_place q b = item b (checked (λ p. not (eqb q p)) (number b))

-- the places of `left` bytes of code; each run has at least one byte, so `left` runs are enough
unfoldable pub read_runs : ℕ → ℕ → ℕ → List ℕ → Step (List ℕ)
read_runs zero left q b = if eqb left 0 then got [] b else bad (length b)
read_runs (suc f) left q b =
    if eqb left 0 then got [] b else
    and_then (read_run_bytes left b) (λ n r.
    and_then (read_run_place q r) (λ p s.
    and_then (read_runs f (left - n) p s) (λ l t. got (replicate n p ++ l) t)))

-- the first function is main
unfoldable pub main_first : Bool → List ℕ → Bool
main_first true t = same_bytes t main_name
main_first false t = true

unfoldable pub read_function : Bool → List ℕ → Step Function
read_function first b =
    and_then (item b (checked (main_first first) (read_text b))) (λ nm r.
    and_then (number r) (λ n s.
    and_then (takes n s) (λ c t.
    and_then (read_runs (length c) (length c) no_place t) (λ ps u. got (record { name = nm; code = c; places = ps }) u))))

-- at least one function
unfoldable pub read_functions : List ℕ → Step (List Function)
read_functions b = and_then (item b (checked (λ n. ltb 0 n) (number b))) (λ n r. series read_function (λ x f. false) n true r)

-- nothing follows
unfoldable pub read_end : Program → List ℕ → Step Program
read_end p [] = got p []
read_end p (x ∷ r) = bad (suc (length r))

unfoldable pub parse : List ℕ → Step Program
parse b =
    and_then (read_constants b) (λ cs r.
    and_then (read_structs r) (λ ss t.
    and_then (read_functions t) (λ fs u. read_end (record { constants = cs; structs = ss; functions = fs }) u)))

-- what an image says: its program, or the offset of the first item that breaks a rule
pub data Judged : Type 0 where
  fine : Program → Judged
  broken : ℕ → Judged

unfoldable pub judged_step : ℕ → Step Program → Judged
judged_step n (got p r) = fine p
judged_step n (bad k) = broken (n - k)

unfoldable pub judge : List ℕ → Judged
judge b = judged_step (length b) (parse b)

-- ---- the programs that have an image

unfoldable pub SoundConstant : Constant → Type 0
SoundConstant (scalar w) = w < 256 ^ 8
SoundConstant (boolean x) = Unit
SoundConstant (string t) = Small (length t)
SoundConstant (reference t) = Small (length t)

-- each is sound, by what those before it are
unfoldable pub Each : {S A : Type 0} → (S → A → Type 0) → (S → A → S) → S → List A → Type 0
Each ok next s [] = Unit
Each ok next s (a ∷ l) = ok s a × Each ok next (next s a) l

abbrev pub SoundName : List (List ℕ) → List ℕ → Type 0
SoundName seen t = Small (length t) × (not (among t seen) ≡ true)

unfoldable pub AllSmall : List ℕ → Type 0
AllSmall [] = Unit
AllSmall (p ∷ ps) = Small p × AllSmall ps

pub record SoundFunction (first : Bool) (f : Function) : Type 0 where
  pub name : Small (length f.name)
  pub main : main_first first f.name ≡ true
  pub code : Small (length f.code)
  pub places : length f.places ≡ length f.code
  pub small : AllSmall f.places

pub record Sound (p : Program) : Type 0 where
  pub constants : Small (length p.constants) × Each (λ u. SoundConstant) always tt p.constants
  pub structs : Small (length p.structs) × Each SoundName snoc [] p.structs
  pub functions : (Small (length p.functions) × (0 < length p.functions)) × Each SoundFunction (λ x f. false) true p.functions

-- all that an example computes with here
unfoldable pub computes : Type 1
unfolding joined counted bytes_of text_image constant_image join_run runs_of run_image function_image image_of series takes read_text word_of read_flag read_kind
    read_body read_constant read_constants read_name read_structs read_run_bytes read_run_place read_runs main_first read_function read_functions read_end parse
    judged_step judge
computes = Type 0
