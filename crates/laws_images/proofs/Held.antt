-- The stores of a loaded program hold that program.
use Rattle.std.specs.Prelude.{if◌then◌else◌}
use mathlib.Core.Path.{◌≡◌, refl, sym, ap, subst, ◌∙◌}
use mathlib.Core.Bool.{true, false}
use mathlib.Core.List.{List, [], ◌∷◌, ◌++◌, append_assoc}
use Prim.Native.Nat.{ℕ, suc, ◌+◌, ◌*◌, ◌<◌, ◌≤◌, ◌^◌}
use native.Mathlib.Omega.{arith}
use lib.Dec.{eqb}
use lib.ListN.{length, drop, get_or, length-append}
use lib.Seq.{sets-eq, take_at, drop_at, get_or_at}
use borrow.Author.Tests.{ne_eqb}
use Rattle.model.specs.Values.{bit, kind_at, payload_at, text_at}
use Rattle.model.specs.Programs.{Constant, scalar, boolean, string, reference, Function}
use Rattle.model.specs.Images.{joined}
use Rattle.model.specs.Stores.{Stores, pack, part, struct_word, order_word, name_word, code_word, constant_in, constants_from, structs_from, orders_from, function_in, functions_from}
use Rattle.model.specs.Emission.{written}
use Rattle.model.specs.Loading.{constant_text, constant_words, constants_laid, structs_laid, others_laid}
use Rattle.layout.proofs.Parts.{start_pack, size_pack}

-- ---- a store that was written from its start

pub written_front : (l x : List ℕ) → length x ≤ length l → written l 0 x ≡ x ++ drop (length x) l
unfolding written
written_front l x h = sets-eq x l 0 (omega arith) ∙ (let z : 0 + length x ≡ length x = omega arith in ap (λ (k : ℕ). x ++ drop k l) z)

-- two words at place i
pub first_here : (pre : List ℕ) (k a : ℕ) (post : List ℕ) (i : ℕ) → length pre ≡ 2 * i → kind_at (pre ++ (k ∷ a ∷ post)) i ≡ k
unfolding kind_at
first_here pre k a post i e = get_or_at pre k (a ∷ post) 0 (2 * i) e

pub second_here : (pre : List ℕ) (k a : ℕ) (post : List ℕ) (i : ℕ) → length pre ≡ 2 * i → payload_at (pre ++ (k ∷ a ∷ post)) i ≡ a
unfolding payload_at
second_here pre k a post i e =
    let l = length-append pre (k ∷ []) in
    ap (λ (x : List ℕ). get_or x (2 * i + 1) 0) (sym (append_assoc pre (k ∷ []) (a ∷ post))) ∙ get_or_at (pre ++ (k ∷ [])) a post 0 (2 * i + 1) (omega arith)

-- ---- pieces of a store, one behind another

-- from o on stand the pieces of l
unfoldable pub Pieces : {A : Type 0} → (A → List ℕ) → List ℕ → ℕ → List A → Type 0
Pieces f t o [] = Unit
Pieces f t o (a ∷ l) = (text_at t o (length (f a)) ≡ f a) × Pieces f t (o + length (f a)) l

regroup : (pre x y post : List ℕ) → pre ++ ((x ++ y) ++ post) ≡ (pre ++ x) ++ (y ++ post)
regroup pre x y post = ap (λ (z : List ℕ). pre ++ z) (append_assoc x y post) ∙ sym (append_assoc pre x (y ++ post))

pub pieces_here : {A : Type 0} (f : A → List ℕ) (l : List A) (t pre post : List ℕ) (o : ℕ) → t ≡ pre ++ (joined f l ++ post) → length pre ≡ o → Pieces f t o l
unfolding Pieces joined text_at
pieces_here f [] t pre post o e h = tt
pieces_here f (a ∷ l) t pre post o e h =
    let e1 = e ∙ ap (λ (z : List ℕ). pre ++ z) (append_assoc (f a) (joined f l) post) in (
      rw (e1, drop_at pre (f a ++ (joined f l ++ post)) o h, take_at (f a) (joined f l ++ post) (length (f a)) refl),
      pieces_here f l t (pre ++ f a) post (o + length (f a)) (e ∙ regroup pre (f a) (joined f l) post) (length-append pre (f a) ∙ ap (λ (k : ℕ). k + length (f a)) h),
    )

-- a word that names a piece
pub named : (t : List ℕ) (o : ℕ) (x : List ℕ) (w : ℕ) → w ≡ pack o (length x) → o < 2 ^ 32 → text_at t o (length x) ≡ x → part t w ≡ x
unfolding part
named t o x w e h g = rw (e, start_pack o (length x) h, size_pack o (length x) h) g

-- ---- constants

pub two_of : (o : ℕ) (c : Constant) → (k : ℕ) × (a : ℕ) × (constant_words o c ≡ k ∷ a ∷ [])
unfolding constant_words
two_of o (scalar w) = (0, w, refl)
two_of o (boolean b) = (1, bit b, refl)
two_of o (string x) = (2, pack o (length x), refl)
two_of o (reference x) = (3, pack o (length x), refl)

-- from place i on stand the words of l, its texts from o on
unfoldable pub ConstantsAt : List ℕ → ℕ → ℕ → List Constant → Type 0
ConstantsAt cs i o [] = Unit
ConstantsAt cs i o (c ∷ l) = (kind_at cs i ∷ payload_at cs i ∷ [] ≡ constant_words o c) × ConstantsAt cs (suc i) (o + length (constant_text c)) l

pub constants_here : (l : List Constant) (cs pre post : List ℕ) (i o : ℕ) → cs ≡ pre ++ (constants_laid o l ++ post) → length pre ≡ 2 * i → ConstantsAt cs i o l
unfolding ConstantsAt constants_laid
constants_here [] cs pre post i o e h = tt
constants_here (c ∷ l) cs pre post i o e h =
    let w = two_of o c in
    let rest : List ℕ = constants_laid (o + length (constant_text c)) l ++ post in
    let e1 : cs ≡ pre ++ (w.0 ∷ w.1 ∷ (constants_laid (o + length (constant_text c)) l ++ post)) =
    e ∙ ap (λ (z : List ℕ). pre ++ ((z ++ constants_laid (o + length (constant_text c)) l) ++ post)) w.2 in
    let a = length-append pre (constant_words o c) in let b : length (constant_words o c) ≡ 2 = ap length w.2 in (
      pair_same (ap (λ (z : List ℕ). kind_at z i) e1 ∙ first_here pre w.0 w.1 (constants_laid (o + length (constant_text c)) l ++ post) i h)
          (ap (λ (z : List ℕ). payload_at z i) e1 ∙ second_here pre w.0 w.1 (constants_laid (o + length (constant_text c)) l ++ post) i h) ∙ sym w.2,
      constants_here l cs (pre ++ constant_words o c) post (suc i) (o + length (constant_text c))
          (e ∙ regroup pre (constant_words o c) (constants_laid (o + length (constant_text c)) l) post) (omega arith),
    )
  where
    pair_same : {a b c d : ℕ} → a ≡ c → b ≡ d → a ∷ b ∷ [] ≡ c ∷ d ∷ []
    pair_same e f = rw (e, f)

-- the words of a constant stand for it
constant_is : (c : Constant) (t : List ℕ) (o k a : ℕ) → k ∷ a ∷ [] ≡ constant_words o c → o < 2 ^ 32 → text_at t o (length (constant_text c)) ≡ constant_text c → constant_in t k a ≡ c
unfolding constant_words constant_text constant_in
constant_is (scalar w) t o k a q h g = let y : k ≡ 0 = cc in let z : a ≡ w = cc in rw (y, z)
constant_is (boolean true) t o k a q h g = let y : k ≡ 1 = cc in let z : a ≡ 1 = cc in rw (y, z)
constant_is (boolean false) t o k a q h g = let y : k ≡ 1 = cc in let z : a ≡ 0 = cc in rw (y, z)
constant_is (string x) t o k a q h g = let y : k ≡ 2 = cc in let z : a ≡ pack o (length x) = cc in rw y (ap string (named t o x a z h g))
constant_is (reference x) t o k a q h g = let y : k ≡ 3 = cc in let z : a ≡ pack o (length x) = cc in rw y (ap reference (named t o x a z h g))

pub same_cons : {A : Type 0} {a b : A} {x y : List A} → a ≡ b → x ≡ y → a ∷ x ≡ b ∷ y
same_cons e f = rw (e, f)

pub constants_held : (l : List Constant) (cs t : List ℕ) (i o : ℕ) → ConstantsAt cs i o l → Pieces constant_text t o l → o + length (joined constant_text l) < 2 ^ 32
    → constants_from (length l) i cs t ≡ l
unfolding constants_from ConstantsAt Pieces joined
constants_held [] cs t i o w p h = refl
constants_held (c ∷ l) cs t i o w p h =
    let a = length-append (constant_text c) (joined constant_text l) in
    same_cons (constant_is c t o (kind_at cs i) (payload_at cs i) w.0 (omega arith) p.0) (constants_held l cs t (suc i) (o + length (constant_text c)) w.1 p.1 (omega arith))

-- ---- struct names

unfoldable pub StructsAt : List ℕ → ℕ → ℕ → List (List ℕ) → Type 0
StructsAt ss i o [] = Unit
StructsAt ss i o (x ∷ l) = (struct_word ss i ≡ pack o (length x)) × StructsAt ss (suc i) (o + length x) l

-- the words of the names, and the numbers of their order
pub structs_here : (l : List (List ℕ)) (js ss pre post : List ℕ) (i o : ℕ) → length js ≡ length l → ss ≡ pre ++ (structs_laid o l js ++ post) → length pre ≡ 2 * i
    → StructsAt ss i o l × (orders_from (length l) i ss ≡ js)
unfolding StructsAt structs_laid struct_word order_word orders_from
structs_here [] [] ss pre post i o ej e h = (tt, refl)
structs_here [] (j ∷ js) ss pre post i o ej e h = absurd (let y : ⊥ = omega arith in y)
structs_here (x ∷ l) [] ss pre post i o ej e h = absurd (let y : ⊥ = omega arith in y)
structs_here (x ∷ l) (j ∷ js) ss pre post i o ej e h =
    let w = pack o (length x) in let rest = structs_laid (o + length x) l js ++ post in
    let a = length-append pre (w ∷ j ∷ []) in
    let r = structs_here l js ss (pre ++ (w ∷ j ∷ [])) post (suc i) (o + length x) (omega arith) (e ∙ sym (append_assoc pre (w ∷ j ∷ []) rest)) (omega arith) in (
      (ap (λ (z : List ℕ). kind_at z i) e ∙ first_here pre w j rest i h, r.0),
      same_cons (ap (λ (z : List ℕ). payload_at z i) e ∙ second_here pre w j rest i h) r.1,
    )

pub structs_held : (l : List (List ℕ)) (ss t : List ℕ) (i o : ℕ) → StructsAt ss i o l → Pieces (λ n. n) t o l → o + length (joined (λ n. n) l) < 2 ^ 32 → structs_from (length l) i ss t ≡ l
unfolding structs_from StructsAt Pieces joined
structs_held [] ss t i o w p h = refl
structs_held (x ∷ l) ss t i o w p h =
    let a = length-append x (joined (λ n. n) l) in
    same_cons (named t o x (struct_word ss i) w.0 (omega arith) p.0) (structs_held l ss t (suc i) (o + length x) w.1 p.1 (omega arith))

-- ---- functions

-- from function i on: names from o on, codes from j on
unfoldable pub FunctionsAt : List ℕ → ℕ → ℕ → ℕ → List Function → Type 0
FunctionsAt fs i o j [] = Unit
FunctionsAt fs i o j (f ∷ l) = ((name_word fs i ≡ pack o (length f.name)) × (code_word fs i ≡ pack j (length f.code)))
    × FunctionsAt fs (suc i) (o + length f.name) (j + length f.code) l

pub functions_here_lem : (l : List Function) (fs pre post : List ℕ) (i o j : ℕ) → fs ≡ pre ++ (others_laid o j l ++ post) → length pre ≡ 2 * i → FunctionsAt fs i o j l
unfolding FunctionsAt others_laid name_word code_word
functions_here_lem [] fs pre post i o j e h = tt
functions_here_lem (f ∷ l) fs pre post i o j e h =
    let k : ℕ = pack o (length f.name) in let c : ℕ = pack j (length f.code) in
    let a = length-append pre (pack o (length f.name) ∷ pack j (length f.code) ∷ []) in (
      (
        ap (λ (z : List ℕ). kind_at z i) e ∙ first_here pre (pack o (length f.name)) (pack j (length f.code)) (others_laid (o + length f.name) (j + length f.code) l ++ post) i h,
        ap (λ (z : List ℕ). payload_at z i) e ∙ second_here pre (pack o (length f.name)) (pack j (length f.code)) (others_laid (o + length f.name) (j + length f.code) l ++ post) i h,
      ),
      functions_here_lem l fs (pre ++ (pack o (length f.name) ∷ pack j (length f.code) ∷ [])) post (suc i) (o + length f.name) (j + length f.code)
          (e ∙ sym (append_assoc pre (pack o (length f.name) ∷ pack j (length f.code) ∷ []) (others_laid (o + length f.name) (j + length f.code) l ++ post))) (omega arith),
    )

-- each has as many places as bytes of code
unfoldable pub Placed : List Function → Type 0
Placed [] = Unit
Placed (f ∷ l) = (length f.places ≡ length f.code) × Placed l

pub places_sum : (l : List Function) → Placed l → length (joined (λ f. f.places) l) ≡ length (joined (λ f. f.code) l)
unfolding Placed joined
places_sum [] h = refl
places_sum (f ∷ l) h =
    let a = length-append f.places (joined (λ f. f.places) l) in let b = length-append f.code (joined (λ f. f.code) l) in
    let c = places_sum l h.1 in let d = h.0 in omega arith

same_function : {f : Function} {nm c ps : List ℕ} → nm ≡ f.name → c ≡ f.code → ps ≡ f.places → record { name = nm; code = c; places = ps } ≡ f
same_function a b c = rw (a, b, c)

-- a function whose code lies in cd, its places in pl
pub function_held : (f : Function) (x : Stores) (i o j : ℕ) (cd pl : List ℕ)
    → (if eqb i 0 then x.main else x.other) ≡ cd → (if eqb i 0 then x.main_places else x.other_places) ≡ pl
    → (name_word x.functions i ≡ pack o (length f.name)) × (code_word x.functions i ≡ pack j (length f.code))
    → text_at x.text o (length f.name) ≡ f.name → text_at cd j (length f.code) ≡ f.code → text_at pl j (length f.places) ≡ f.places
    → length f.places ≡ length f.code → o < 2 ^ 32 → j < 2 ^ 32 → function_in x i ≡ f
unfolding function_in
function_held f x i o j cd pl ec ep w tn tc tp s ho hj =
    same_function (named x.text o f.name (name_word x.functions i) w.0 ho tn)
    (rw ec (named cd j f.code (code_word x.functions i) w.1 hj tc))
    (rw ep (named pl j f.places (code_word x.functions i) (w.1 ∙ ap (pack j) (sym s)) hj tp))

pub others_held : (l : List Function) (x : Stores) (i o j : ℕ) → FunctionsAt x.functions (suc i) o j l → Pieces (λ f. f.name) x.text o l
    → Pieces (λ f. f.code) x.other j l → Pieces (λ f. f.places) x.other_places j l → Placed l
    → o + length (joined (λ f. f.name) l) < 2 ^ 32 → j + length (joined (λ f. f.code) l) < 2 ^ 32 → functions_from (length l) (suc i) x ≡ l
unfolding functions_from FunctionsAt Pieces Placed joined
others_held [] x i o j w tn tc tp s ho hj = refl
others_held (f ∷ l) x i o j w tn tc tp s ho hj =
    let a = length-append f.name (joined (λ f. f.name) l) in let b = length-append f.code (joined (λ f. f.code) l) in
    let n : eqb (suc i) 0 ≡ false = ne_eqb (suc i) 0 (λ e. omega arith) in
    same_cons (function_held f x (suc i) o j x.other x.other_places (rw n) (rw n) w.0 tn.0 tc.0 tp.0 s.0 (omega arith) (omega arith))
    (others_held l x (suc i) (o + length f.name) (j + length f.code) w.1 tn.1 tc.1
    (subst (λ (k : ℕ). Pieces (λ f. f.places) x.other_places (j + k) l) s.0 tp.1) s.1 (omega arith) (omega arith))
