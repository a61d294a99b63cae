-- Each part of an image: what is written of it reads back, and nothing else reads as it.
use mathlib.Core.Path.{◌≡◌, refl, sym, ap, subst, ◌∙◌}
use mathlib.Core.Bool.{Bool, true, false, not}
use mathlib.Core.List.{List, [], ◌∷◌, ◌++◌, append-nil, append_assoc}
use Prim.Native.Nat.{ℕ, zero, suc, ◌+◌, ◌*◌, ◌/◌, ◌%◌, ◌<◌, ◌≤◌, ◌^◌}
use native.Mathlib.Omega.{arith}
use native.Mathlib.Nat.{pow-suc, div-lt_iff_lt-mul}
use lib.Dec.{ltb, leb}
use lib.ListN.{length}
use borrow.Author.Tests.{lt-ltb, ltb-true, leb-true}
use Rattle.model.specs.Numbers.{Step, got, bad, and_then, digits, groups_of, number, Bytes, Codes}
use Rattle.model.specs.Programs.{Constant, scalar, boolean, string, reference, Function, Program, among}
use Rattle.model.specs.Images as i
use Rattle.model.specs.Images.{joined, counted, bytes_of, text_image, constant_image, run_image, runs_of, function_image, image_of, takes, read_text, word_of, read_flag, read_kind, read_body, read_constant, always, read_name, snoc, no_place, read_runs, main_first, read_function, read_end, parse, fine, judged_step, judge, Small, SoundConstant, SoundName, SoundFunction, AllSmall, Each, Sound}
use Rattle.number.proofs.Codes.{number_codes, never}
use Rattle.laws_images.proofs.Codecs.{got_value, got_rest, then_only, made_only, bytes_front, bytes_rest, codes_as, codes_item, codes_checked, codes_made, codes_seq, codes_takes, codes_series}
use Rattle.laws_images.proofs.Places.{codes_places}

-- ---- texts

pub codes_text : Codes (λ t. Small (length t)) text_image read_text
unfolding text_image read_text
codes_text = codes_as (codes_item (codes_seq number_codes (λ n h. codes_takes n) length (λ n t h. h))) (λ t h. (h, refl)) (λ t h. h.0)

-- ---- eight bytes, low first

word_bytes : (n w : ℕ) → w < 256 ^ n → word_of (bytes_of n w) ≡ w
unfolding word_of bytes_of
word_bytes zero w h = let k : w < 1 = h in omega arith
word_bytes (suc n) w h =
    let k : w < 256 ^ n * 256 = rw (pow-suc 256 n) at h in
    let ih = word_bytes n (w / 256) ((div-lt_iff_lt-mul (let z : 0 < 256 = omega arith in z)).1 k) in
    omega arith

bytes_word : (l : List ℕ) → Bytes l → bytes_of (length l) (word_of l) ≡ l
unfolding word_of bytes_of Bytes
bytes_word [] h = refl
bytes_word (x ∷ l) h =
    let a = h.0 in
    let e : (x + 256 * word_of l) % 256 ≡ x = omega arith in
    let d : (x + 256 * word_of l) / 256 ≡ word_of l = omega arith in
    rw (e, d) (ap (λ (t : List ℕ). x ∷ t) (bytes_word l h.1))

pub word_small : (l : List ℕ) → Bytes l → word_of l < 256 ^ length l
unfolding word_of Bytes
word_small [] h = let z : 0 < 1 = omega arith in z
word_small (x ∷ l) h = let ih = word_small l h.1 in let a = h.0 in rw (pow-suc 256 (length l)) (omega arith)

pub bytes_length : (n w : ℕ) → length (bytes_of n w) ≡ n
unfolding bytes_of
bytes_length zero w = refl
bytes_length (suc n) w = ap suc (bytes_length n (w / 256))

-- ---- constants: a kind that decides how the body is read

kind_of : Constant → ℕ
kind_of (scalar w) = 0
kind_of (boolean x) = 1
kind_of (string t) = 2
kind_of (reference t) = 3

flag_image : Bool → List ℕ
flag_image false = 0 ∷ []
flag_image true = 1 ∷ []

body_image : Constant → List ℕ
body_image (scalar w) = bytes_of 8 w
body_image (boolean x) = flag_image x
body_image (string t) = text_image t
body_image (reference t) = text_image t

image_parts : (c : Constant) → constant_image c ≡ digits (kind_of c) ++ body_image c
unfolding constant_image kind_of body_image flag_image digits groups_of
image_parts (scalar w) = refl
image_parts (boolean true) = refl
image_parts (boolean false) = refl
image_parts (string t) = refl
image_parts (reference t) = refl

codes_flag : Codes (λ x. Unit {0}) flag_image read_flag
unfolding flag_image read_flag
codes_flag = record { back = λ a r h. back a r; only = λ b a r y e. (only b a r e, tt) }
  where
    back : (a : Bool) (r : List ℕ) → read_flag (flag_image a ++ r) ≡ got a r
    back true r = refl
    back false r = refl

    only : (b : List ℕ) (a : Bool) (r : List ℕ) → read_flag b ≡ got a r → b ≡ flag_image a ++ r
    only [] a r e = absurd (never e)
    only (zero ∷ b) a r e = let p : false ≡ a = got_value e in let q : b ≡ r = got_rest e in rw (← p, q)
    only (suc zero ∷ b) a r e = let p : true ≡ a = got_value e in let q : b ≡ r = got_rest e in rw (← p, q)
    only (suc (suc x) ∷ b) a r e = absurd (never e)

-- a sound constant of kind k
SoundOf : ℕ → Constant → Type 0
SoundOf k c = (kind_of c ≡ k) × SoundConstant c

body_back : (c : Constant) (r : List ℕ) → SoundConstant c → read_body (kind_of c) (body_image c ++ r) ≡ got c r
unfolding kind_of read_body body_image and_then SoundConstant
body_back (scalar w) r h = rw ((codes_takes 8).back (bytes_of 8 w) r (bytes_length 8 w), word_bytes 8 w h)
body_back (boolean x) r h = rw (codes_flag.back x r tt)
body_back (string t) r h = rw (codes_text.back t r h)
body_back (reference t) r h = rw (codes_text.back t r h)

body_only : (k : ℕ) → k ≤ 3 → (b : List ℕ) (c : Constant) (r : List ℕ) → Bytes b → read_body k b ≡ got c r → (b ≡ body_image c ++ r) × SoundOf k c
unfolding read_body body_image SoundOf SoundConstant kind_of
body_only zero l b c r y e =
    let g = made_only (λ a. scalar (word_of a)) (takes 8 b) c r e in
    let o = (codes_takes 8).only b g.0 r y g.2 in
    let y' : Bytes g.0 = bytes_front g.0 r (subst Bytes o.0 y) in
    let w8 : bytes_of 8 (word_of g.0) ≡ g.0 = subst (λ (n : ℕ). bytes_of n (word_of g.0) ≡ g.0) o.1 (bytes_word g.0 y') in
    let v8 : word_of g.0 < 256 ^ 8 = subst (λ (n : ℕ). word_of g.0 < 256 ^ n) o.1 (word_small g.0 y') in
    subst (λ (x : Constant). (b ≡ body_image x ++ r) × SoundOf 0 x) g.1 (rw w8 o.0, (refl, v8))
body_only (suc zero) l b c r y e =
    let g = made_only boolean (read_flag b) c r e in
    let o = codes_flag.only b g.0 r y g.2 in
    subst (λ (x : Constant). (b ≡ body_image x ++ r) × SoundOf 1 x) g.1 (o.0, (refl, tt))
body_only (suc (suc zero)) l b c r y e =
    let g = made_only string (read_text b) c r e in
    let o = codes_text.only b g.0 r y g.2 in
    subst (λ (x : Constant). (b ≡ body_image x ++ r) × SoundOf 2 x) g.1 (o.0, (refl, o.1))
body_only (suc (suc (suc k))) l b c r y e =
    let g = made_only reference (read_text b) c r e in
    let o = codes_text.only b g.0 r y g.2 in
    subst (λ (x : Constant). (b ≡ body_image x ++ r) × SoundOf (suc (suc (suc k))) x) g.1 (o.0, (let n : 3 ≡ suc (suc (suc k)) = omega arith in n, o.1))

kind_small : (c : Constant) → Small (kind_of c) × (leb (kind_of c) 3 ≡ true)
unfolding kind_of
kind_small (scalar w) = (omega arith, refl)
kind_small (boolean x) = (omega arith, refl)
kind_small (string t) = (omega arith, refl)
kind_small (reference t) = (omega arith, refl)

-- the same reading, its image said otherwise
codes_image : {A : Type 0} {ok : A → Type 0} {enc enc' : A → List ℕ} {dec : List ℕ → Step A} → Codes ok enc dec → ((a : A) → enc' a ≡ enc a) → Codes ok enc' dec
codes_image c e = record {
  back = λ a r h. rw (e a) (c.back a r h);
  only = λ b a r y g. let o = c.only b a r y g in (o.0 ∙ ap (λ (x : List ℕ). x ++ r) (sym (e a)), o.1);
}

pub codes_constant : (u : Unit {0}) → Codes SoundConstant constant_image (read_constant u)
unfolding read_constant read_kind SoundOf
codes_constant u =
    codes_image (codes_as (codes_seq (codes_item (codes_checked number_codes (λ k. leb k 3))) {ok_c = SoundOf} {encC = λ k c. body_image c} {decC = read_body}
    (λ k h. record { back = λ c r g. rw (← g.0) (body_back c r g.1); only = body_only k (leb-true k 3 h.1) }) kind_of (λ k c h. h.0))
    (λ c h. (kind_small c, (refl, h))) (λ c h. h.1.1)) image_parts

-- ---- a count, and each

pub codes_constants : Codes (λ l. Small (length l) × Each (λ u. SoundConstant) always tt l) (counted constant_image) i.read_constants
unfolding counted i.read_constants
codes_constants =
    codes_as (codes_seq number_codes (λ n h. codes_series codes_constant always n tt) length (λ n l h. h.0)) (λ l h. (h.0, (refl, h.1))) (λ l h. (h.0, h.1.1))

pub codes_name : (seen : List (List ℕ)) → Codes (SoundName seen) text_image (read_name seen)
unfolding read_name
codes_name seen = codes_item (codes_checked codes_text (λ t. not (among t seen)))

pub codes_structs : Codes (λ l. Small (length l) × Each SoundName snoc [] l) (counted text_image) i.read_structs
unfolding counted i.read_structs
codes_structs =
    codes_as (codes_seq number_codes (λ n h. codes_series codes_name snoc n []) length (λ n l h. h.0)) (λ l h. (h.0, (refl, h.1))) (λ l h. (h.0, h.1.1))

-- ---- functions

made : List ℕ → List ℕ → List ℕ → Function
made nm c ps = record { name = nm; code = c; places = ps }

-- a function of this name and code; of this name and code length; of this name
OkPlaces : List ℕ → List ℕ → Function → Type 0
OkPlaces nm c f = (made nm c f.places ≡ f) × ((length f.places ≡ length c) × AllSmall f.places)

OkCode : List ℕ → ℕ → Function → Type 0
OkCode nm n f = (length f.code ≡ n) × OkPlaces nm f.code f

OkName : List ℕ → Function → Type 0
OkName nm f = Small (length f.code) × OkCode nm (length f.code) f

abbrev pub read_places : List ℕ → List ℕ → List ℕ → Step Function
read_places nm c t = and_then (read_runs (length c) (length c) no_place t) (λ ps u. got (record { name = nm; code = c; places = ps }) u)

abbrev pub read_code : List ℕ → ℕ → List ℕ → Step Function
read_code nm n s = and_then (takes n s) (λ c t. read_places nm c t)

codes_function_places : (nm c : List ℕ) → Small (length c) → Codes (OkPlaces nm c) (λ f. joined run_image (runs_of f.places)) (read_places nm c)
unfolding OkPlaces made
codes_function_places nm c s = codes_made (codes_places (length c) s) (λ ps. record { name = nm; code = c; places = ps }) (λ f. f.places) (λ ps. refl)

codes_function_code : (nm : List ℕ) (n : ℕ) → Small n → Codes (OkCode nm n) (λ f. f.code ++ joined run_image (runs_of f.places)) (read_code nm n)
unfolding OkCode OkPlaces made
codes_function_code nm n s =
    codes_seq (codes_takes n) (λ c h. codes_function_places nm c (rw h s)) (λ f. f.code) (λ c f h. sym (ap (λ (x : Function). x.code) h.0))

codes_function_rest : (nm : List ℕ) → Codes (OkName nm) (λ f. digits (length f.code) ++ (f.code ++ joined run_image (runs_of f.places))) (λ r. and_then (number r) (λ n s. read_code nm n s))
unfolding OkName OkCode
codes_function_rest nm = codes_seq number_codes (λ n h. codes_function_code nm n h) (λ f. length f.code) (λ n f h. h.0)

regroup : (a b c d : List ℕ) → a ++ b ++ c ++ d ≡ a ++ (b ++ (c ++ d))
regroup a b c d = append_assoc (a ++ b) c d ∙ append_assoc a b (c ++ d)

pub codes_function : (first : Bool) → Codes (SoundFunction first) function_image (read_function first)
unfolding function_image read_function OkName OkCode OkPlaces made
codes_function first =
    codes_image (codes_as (codes_seq (codes_item (codes_checked codes_text (main_first first))) (λ nm h. codes_function_rest nm) (λ f. f.name)
    (λ nm f h. sym (ap (λ (x : Function). x.name) h.1.1.0)))
    (λ f h. ((h.name, h.main), (h.code, (refl, (refl, (h.places, h.small))))))
    (λ f h. record { name = h.0.0; main = h.0.1; code = h.1.0; places = h.1.1.1.1.0; small = h.1.1.1.1.1 }))
    (λ f. regroup (text_image f.name) (digits (length f.code)) f.code (joined run_image (runs_of f.places)))

pub codes_functions : Codes (λ l. (Small (length l) × (0 < length l)) × Each SoundFunction (λ x f. false) true l) (counted function_image) i.read_functions
unfolding counted i.read_functions
codes_functions =
    codes_as (codes_seq (codes_item (codes_checked number_codes (λ n. ltb 0 n))) (λ n h. codes_series codes_function (λ x f. false) n true) length (λ n l h. h.0))
    (λ l h. ((h.0.0, lt-ltb 0 (length l) h.0.1), (refl, h.1))) (λ l h. ((h.0.0, ltb-true 0 (length l) h.0.1), h.1.1))

-- ---- the whole

pub parse_back : (p : Program) → Sound p → parse (image_of p) ≡ got p []
unfolding parse image_of and_then read_end
parse_back p h =
    rw (
      append_assoc (counted constant_image p.constants) (counted text_image p.structs) (counted function_image p.functions),
      codes_constants.back p.constants (counted text_image p.structs ++ counted function_image p.functions) h.constants,
      codes_structs.back p.structs (counted function_image p.functions) h.structs,
      ← append-nil (counted function_image p.functions),
      codes_functions.back p.functions [] h.functions,
    )

end_only : (q : Program) (u : List ℕ) (p : Program) (r : List ℕ) → read_end q u ≡ got p r → (q ≡ p) × (u ≡ [])
unfolding read_end
end_only q [] p r e = (got_value e, refl)
end_only q (x ∷ u) p r e = absurd (never e)

pub parse_only : (b : List ℕ) (p : Program) (r : List ℕ) → Bytes b → parse b ≡ got p r → (b ≡ image_of p) × Sound p
unfolding parse image_of
parse_only b p r y e =
    let g1 = then_only (i.read_constants b) _ p r e in
    let o1 = codes_constants.only b g1.0 g1.1 y g1.2 in
    let y1 = bytes_rest (counted constant_image g1.0) g1.1 (subst Bytes o1.0 y) in
    let g2 = then_only (i.read_structs g1.1) _ p r g1.3 in
    let o2 = codes_structs.only g1.1 g2.0 g2.1 y1 g2.2 in
    let y2 = bytes_rest (counted text_image g2.0) g2.1 (subst Bytes o2.0 y1) in
    let g3 = then_only (i.read_functions g2.1) _ p r g2.3 in
    let o3 = codes_functions.only g2.1 g3.0 g3.1 y2 g3.2 in
    let z = end_only _ g3.1 p r g3.3 in
    subst (λ (x : Program). (b ≡ image_of x) × Sound x) z.0 (
      o1.0 ∙ ap (λ (t : List ℕ). counted constant_image g1.0 ++ t) (o2.0 ∙ ap (λ (t : List ℕ). counted text_image g2.0 ++ t)
          (o3.0 ∙ ap (λ (t : List ℕ). counted function_image g3.0 ++ t) z.1 ∙ append-nil _))
          ∙ sym (append_assoc (counted constant_image g1.0) (counted text_image g2.0) (counted function_image g3.0)),
      record { constants = o1.1; structs = o2.1; functions = o3.1 },
    )

pub judge_back : (p : Program) → Sound p → judge (image_of p) ≡ fine p
unfolding judge judged_step
judge_back p h = rw (parse_back p h)

pub judged_fine : (n : ℕ) (s : Step Program) (p : Program) → judged_step n s ≡ fine p → (r : List ℕ) × (s ≡ got p r)
unfolding judged_step
judged_fine n (got q r) p e = let z : q ≡ p = cc in (r, ap (λ (x : Program). got x r) z)
judged_fine n (bad k) p e = absurd (let z : ◌≡◌ {A = ℕ} 0 1 = cc in let w : ⊥ = omega arith in w)

pub judge_only : (b : List ℕ) (p : Program) → Bytes b → judge b ≡ fine p → (b ≡ image_of p) × Sound p
unfolding judge
judge_only b p y e = let g = judged_fine (length b) (parse b) p e in parse_only b p g.0 y g.1
