-- A program in good order has an image, and it is not too long to count.
use Rattle.std.specs.Prelude.{if◌then◌else◌, Err, Ok, Result}
use mathlib.Core.Path.{◌≡◌, refl, sym, ap, subst, ◌∙◌}
use mathlib.Core.Bool.{Bool, true, false, not}
use mathlib.Core.List.{List, [], ◌∷◌, ◌++◌, append_assoc}
use Prim.Native.Nat.{ℕ, zero, suc, ◌+◌, ◌-◌, ◌*◌, ◌<◌, ◌≤◌, ◌^◌, min}
use native.Mathlib.Omega.{arith}
use native.Mathlib.Nat.{min-le_left}
use lib.Dec.{eqb, leb}
use lib.ListN.{length, drop, length-append, length-take}
use borrow.Author.Tests.{leb-true, ltb-true, ne_eqb, le-leb, lt-leb, not-true, not-false}
use Rattle.model.specs.Numbers.{digits}
use Rattle.model.specs.Values.{places, kind_at, payload_at, text_at}
use Rattle.model.specs.Programs.{Function, boolean}
use Rattle.model.specs.Images.{joined, counted, text_image, constant_image, Run, join_run, runs_of, run_image, function_image, image_of}
use Rattle.model.specs.Stores.{Stores, start, size, part, struct_word, name_word, code_word, code_end, constant_in, constants_from, structs_from, function_in, functions_from, program_in}
use Rattle.model.specs.Orders.{inside_text, constant_ok, code_start, main_taken, other_taken, inside_codes, program_ok}
use Rattle.model.specs.Loading.{OutRes, put_out, save_of}
use Rattle.model.specs.declared.Counts.{Counts}
use Rattle.layout.proofs.Parts.{one_word}
use Rattle.laws_programs.proofs.Known.{Limited, limited, text_inside, constants_known, structs_known, Known as KnownFunction, function_known, ascending}
use Rattle.laws_programs.proofs.Keeping.{Good, good_of}
use Rattle.model.specs.Stores.{stores_of as lent}
use Rattle.image_save.specs.Puts.{Put, Near, Known, ConstantsPut, StructsPut, function_here, Lies, FunctionPuts, functions_here, FunctionsPut}
use Rattle.layout.proofs.Bools.{either_way, both_true}
use Rattle.laws_images.proofs.Formats.{bytes_length}
use Rattle.image_save.proofs.Putting.{digits_most, put_as, Split, front, back, both, Putting, putting_start, count_split, one_split, each_near, each_step, each_end, constants_open, constants_shut, structs_open, structs_shut}
use Rattle.model.specs.declared.Refusal.{Refusal}
use Rattle.model.specs.declared.Refusal.TheVariants as why

-- ---- how long a piece can be

text_most : (t : List ℕ) → length (text_image t) ≤ 5 + length t
unfolding text_image
text_most t = let a = length-append (digits (length t)) t in let b = digits_most (length t) in omega arith

pub part_most : (t : List ℕ) (w : ℕ) → length (part t w) ≤ size w
unfolding part text_at
part_most t w = let a = length-take (size w) (drop (start w) t) in let b : min (size w) (length (drop (start w) t)) ≤ size w = min-le_left _ _ in omega arith

runs_count : (p : ℕ) (l : List Run) → length (join_run p l) ≤ suc (length l)
unfolding join_run
runs_count p [] = omega arith
runs_count p (r ∷ l) = either_way (eqb p r.place) (λ t. rw t (let z : suc (length l) ≤ suc (suc (length l)) = omega arith in z))
    (λ t. rw t (let z : suc (suc (length l)) ≤ suc (suc (length l)) = omega arith in z))

runs_fewer : (ps : List ℕ) → length (runs_of ps) ≤ length ps
unfolding runs_of
runs_fewer [] = omega arith
runs_fewer (p ∷ ps) = let a = runs_count p (runs_of ps) in let b = runs_fewer ps in omega arith

run_images : (l : List Run) → length (joined run_image l) ≤ 10 * length l
unfolding joined run_image
run_images [] = omega arith
run_images (r ∷ l) =
    let a = length-append (digits r.bytes ++ digits r.place) (joined run_image l) in let b = length-append (digits r.bytes) (digits r.place) in
    let c = digits_most r.bytes in let d = digits_most r.place in let e = run_images l in omega arith

-- so many from i on, each at most 2 ^ 33
module _ {A : Type 0} (image : A → List ℕ) (from : ℕ → ℕ → List A) (at_i : ℕ → A)
    (opens : (k j : ℕ) → from (suc k) j ≡ at_i j ∷ from k (suc j)) (shuts : (j : ℕ) → from 0 j ≡ []) where
  pub series_most : (k j : ℕ) → ((i : ℕ) → j ≤ i → i < j + k → length (image (at_i i)) ≤ 8589934592) → length (joined image (from k j)) ≤ 8589934592 * k
  unfolding joined
  series_most zero j h = let e = ap (λ (l : List A). length (joined image l)) (shuts j) in omega arith
  series_most (suc k) j h =
      let e = ap (λ (l : List A). length (joined image l)) (opens k j) in
      let a = length-append (image (at_i j)) (joined image (from k (suc j))) in
      let b = h j (omega arith) (omega arith) in
      let c = series_most k (suc j) (λ i x y. h i (omega arith) (omega arith)) in
      omega arith

  pub counted_most : (k : ℕ) → ((i : ℕ) → i < k → length (image (at_i i)) ≤ 8589934592) → length (counted image (from k 0)) ≤ 5 + 8589934592 * k
  unfolding counted
  counted_most k h =
      let a = length-append (digits (length (from k 0))) (joined image (from k 0)) in let b = digits_most (length (from k 0)) in
      let c = series_most k 0 (λ i x y. h i (omega arith)) in omega arith

-- ---- what good order says

module _ (c : Counts) where
  known_of : (t : List ℕ) (k a : ℕ) → c.text < 2 ^ 32 → constant_ok c k a ≡ true → Known t k a
  unfolding constant_ok
  known_of t zero a s h = record { kind = omega arith; flag = λ e. absurd (let w : ⊥ = omega arith in w); small = λ l. absurd (let w : ⊥ = omega arith in w) }
  known_of t (suc zero) a s h = record { kind = omega arith; flag = λ e. ltb-true a 2 h; small = λ l. absurd (let w : ⊥ = omega arith in w) }
  known_of t (suc (suc k)) a s h =
      let e0 : eqb (suc (suc k)) 0 ≡ false = ne_eqb (suc (suc k)) 0 (λ e. omega arith) in
      let e1 : eqb (suc (suc k)) 1 ≡ false = ne_eqb (suc (suc k)) 1 (λ e. omega arith) in
      let g : (if leb (suc (suc k)) 3 then inside_text c a else false) ≡ true = rw (e0, e1) at h in
      either_way (leb (suc (suc k)) 3)
      (λ q. let i : inside_text c a ≡ true = rw q at g in let b = text_inside c a i in let p = part_most t a in
      record { kind = leb-true _ _ q; flag = λ e. absurd (let w : ⊥ = omega arith in w); small = λ l. omega arith })
      (λ q. let z : ◌≡◌ {A = Bool} false true = rw q at g in absurd (let y : ◌≡◌ {A = ℕ} 0 1 = cc in let w : ⊥ = omega arith in w))

flag_length : (b : Bool) → length (constant_image (boolean b)) ≡ 2
unfolding constant_image
flag_length true = refl
flag_length false = refl

pub known_most : (t : List ℕ) (k a : ℕ) → Known t k a → length (constant_image (constant_in t k a)) ≤ 8589934592
unfolding constant_image constant_in
known_most t zero a h = let b = bytes_length 8 a in omega arith
known_most t (suc zero) a h = let b = flag_length (not (eqb a 0)) in omega arith
known_most t (suc (suc zero)) a h = let b = text_most (part t a) in let d = h.small (omega arith) in omega arith
known_most t (suc (suc (suc zero))) a h = let b = text_most (part t a) in let d = h.small (omega arith) in omega arith
known_most t (suc (suc (suc (suc k)))) a h = absurd (let b = h.kind in let w : ⊥ = omega arith in w)

-- ---- functions

pub lies_of : (c : Counts) (fs : List ℕ) (i : ℕ) (t cd pl : List ℕ) → KnownFunction c fs i → c.text < 2 ^ 32 → code_end fs i ≤ length pl → Lies fs i t cd pl
unfolding code_end
lies_of c fs i t cd pl h s e =
    let a = part_most t (name_word fs i) in let b = h.name in let d = part_most cd (code_word fs i) in let f = h.short in
    record { name = omega arith; code = omega arith; places = e }

function_most : (c : Counts) (fs : List ℕ) (i : ℕ) (t cd pl : List ℕ) → KnownFunction c fs i → c.text < 2 ^ 32 → length (function_image (function_here fs i t cd pl)) ≤ 8589934592
unfolding function_image function_here
function_most c fs i t cd pl h s =
    let nm : List ℕ = part t (name_word fs i) in let cb : List ℕ = part cd (code_word fs i) in let ps : List ℕ = part pl (code_word fs i) in
    let l1 = length-append (text_image (part t (name_word fs i)) ++ digits (length (part cd (code_word fs i))) ++ part cd (code_word fs i)) (joined run_image (runs_of (part pl (code_word fs i)))) in
    let l2 = length-append (text_image (part t (name_word fs i)) ++ digits (length (part cd (code_word fs i)))) (part cd (code_word fs i)) in
    let l3 = length-append (text_image (part t (name_word fs i))) (digits (length (part cd (code_word fs i)))) in
    let a = text_most (part t (name_word fs i)) in let b = digits_most (length (part cd (code_word fs i))) in
    let d = run_images (runs_of (part pl (code_word fs i))) in let e = runs_fewer (part pl (code_word fs i)) in
    let f = part_most t (name_word fs i) in let g = part_most cd (code_word fs i) in let k = part_most pl (code_word fs i) in
    let x = h.name in let y = h.short in omega arith

pub first_is : (fs t mn mp ot op : List ℕ) → function_in (lent [] [] fs t mn mp ot op) 0 ≡ function_here fs 0 t mn mp
unfolding function_in function_here
first_is fs t mn mp ot op = refl

pub other_is : (fs t mn mp ot op : List ℕ) (i : ℕ) → 0 < i → function_in (lent [] [] fs t mn mp ot op) i ≡ function_here fs i t ot op
unfolding function_in function_here
other_is fs t mn mp ot op i l = let n : eqb i 0 ≡ false = ne_eqb i 0 (λ e. omega arith) in rw n

pub here_open : (fs t mn mp ot op : List ℕ) (k j : ℕ) → functions_here (suc k) j fs t mn mp ot op ≡ function_in (lent [] [] fs t mn mp ot op) j ∷ functions_here k (suc j) fs t mn mp ot op
unfolding functions_here functions_from
here_open fs t mn mp ot op k j = refl

pub here_shut : (fs t mn mp ot op : List ℕ) (j : ℕ) → functions_here 0 j fs t mn mp ot op ≡ []
unfolding functions_here functions_from
here_shut fs t mn mp ot op j = refl

pub here_all : (n j : ℕ) (cs ss fs t mn mp ot op : List ℕ) → functions_from n j (lent cs ss fs t mn mp ot op) ≡ functions_here n j fs t mn mp ot op
unfolding functions_here functions_from function_in
here_all zero j cs ss fs t mn mp ot op = refl
here_all (suc n) j cs ss fs t mn mp ot op = ap (λ (l : List Function). function_in (lent cs ss fs t mn mp ot op) j ∷ l) (here_all n (suc j) cs ss fs t mn mp ot op)

-- ---- the whole

module _ (c : Counts) (cs ss fs tx mn mp ot op : List ℕ) (ok : program_ok c (lent cs ss fs tx mn mp ot op) ≡ true) where
  pub good : Good c (lent cs ss fs tx mn mp ot op)
  good = good_of c (lent cs ss fs tx mn mp ot op) ok

  pub limits : Limited c
  limits = limited c good.counts

  pub text_small : c.text < 2 ^ 32
  text_small = let z = limits.text in omega arith

  pub constant_at_lem : (i : ℕ) → i < c.constants → Known tx (kind_at cs i) (payload_at cs i)
  constant_at_lem i l = known_of c tx _ _ text_small ((constants_known c cs good.constants).each i l)

  pub struct_at : (i : ℕ) → i < c.structs → length (part tx (struct_word ss i)) < 2 ^ 32
  struct_at i l =
      let h = (structs_known c ss tx good.structs).inside i l in
      let a = text_inside c (struct_word ss i) h in let b = part_most tx (struct_word ss i) in let d = text_small in omega arith

  pub function_at_lem : (i : ℕ) → i < c.functions → KnownFunction c fs i
  function_at_lem = function_known c fs good.functions

  -- the code of function i ends inside stores that the codes lie in
  pub ends_in : (a b : List ℕ) → inside_codes c fs a b ≡ true → (code_end fs 0 ≤ length a) × ((i : ℕ) → 0 < i → i < c.functions → code_end fs i ≤ length b)
  unfolding inside_codes main_taken other_taken
  ends_in a b h =
      let g = both_true (leb (code_end fs 0) (places 1 a)) _ h in
      let e : code_start fs c.functions ≤ length b = (one_word _ b (leb-true _ _ g.1)).0 in
      ((one_word _ a (leb-true _ _ g.0)).0, λ i p q. let z = ascending c fs good.functions i c.functions p q (omega arith) in omega arith)

  main_lies : Lies fs 0 tx mn mp
  main_lies = let a = limits.some in lies_of c fs 0 tx mn mp (function_at_lem 0 (omega arith)) text_small (ends_in mp op good.places).0

  other_lies : (i : ℕ) → 0 < i → i < c.functions → Lies fs i tx ot op
  other_lies i a b = lies_of c fs i tx ot op (function_at_lem i b) text_small ((ends_in mp op good.places).1 i a b)

  bound_1 : length (counted constant_image (constants_from c.constants 0 cs tx)) ≤ 5 + 8589934592 * c.constants
  bound_1 = counted_most constant_image (λ a b. constants_from a b cs tx) (λ j. constant_in tx (kind_at cs j) (payload_at cs j)) (constants_open cs tx) (constants_shut cs tx) c.constants
      (λ i l. known_most tx _ _ (constant_at_lem i l))

  bound_2 : length (counted text_image (structs_from c.structs 0 ss tx)) ≤ 5 + 8589934592 * c.structs
  bound_2 = counted_most text_image (λ a b. structs_from a b ss tx) (λ j. part tx (struct_word ss j)) (structs_open ss tx) (structs_shut ss tx) c.structs
      (λ i l. let a = text_most (part tx (struct_word ss i)) in let b = struct_at i l in omega arith)

  function_image_most : (i : ℕ) → i < c.functions → length (function_image (function_in (lent [] [] fs tx mn mp ot op) i)) ≤ 8589934592
  function_image_most zero l = subst (λ (f : Function). length (function_image f) ≤ 8589934592) (sym (first_is fs tx mn mp ot op)) (function_most c fs 0 tx mn mp (function_at_lem 0 l) text_small)
  function_image_most (suc i) l = subst (λ (f : Function). length (function_image f) ≤ 8589934592) (sym (other_is fs tx mn mp ot op (suc i) (omega arith)))
      (function_most c fs (suc i) tx ot op (function_at_lem (suc i) l) text_small)

  bound_3 : length (counted function_image (functions_here c.functions 0 fs tx mn mp ot op)) ≤ 5 + 8589934592 * c.functions
  bound_3 = counted_most function_image (λ a b. functions_here a b fs tx mn mp ot op) (λ j. function_in (lent [] [] fs tx mn mp ot op) j)
      (here_open fs tx mn mp ot op) (here_shut fs tx mn mp ot op) c.functions
      function_image_most

  C : List ℕ
  C = counted constant_image (constants_from c.constants 0 cs tx)

  S : List ℕ
  S = counted text_image (structs_from c.structs 0 ss tx)

  F : List ℕ
  F = counted function_image (functions_here c.functions 0 fs tx mn mp ot op)

  split_1 : Split (image_of (program_in c (lent cs ss fs tx mn mp ot op))) C (S ++ F)
  unfolding image_of program_in C S F
  split_1 = record {
    split = append_assoc C S (counted function_image (functions_from c.functions 0 (lent cs ss fs tx mn mp ot op)))
        ∙ ap (λ (l : List Function). C ++ (S ++ counted function_image l)) (here_all c.functions 0 cs ss fs tx mn mp ot op);
  }

  split_2 : Split (S ++ F) S F
  split_2 = record { split = refl }

  near : Near 0 (image_of (program_in c (lent cs ss fs tx mn mp ot op)))
  unfolding Near C S F
  near =
      let e = ap length split_1.split in let a = length-append C (S ++ F) in let b = length-append S F in
      let b1 = bound_1 in let b2 = bound_2 in let b3 = bound_3 in
      let n0 = limits.constants in let n1 = limits.structs in let n2 = limits.functions in omega arith

  pub constants_puts : ConstantsPut 0 c.constants cs tx
  unfolding C
  constants_puts = let n = limits.constants in record { count = omega arith; each = constant_at_lem; near = front _ _ _ 0 split_1 near }

  module _ (out o1 : List ℕ) (a : ℕ) (p1 : Put (counted constant_image (constants_from c.constants 0 cs tx)) out 0 o1 a) where
    near_2 : Near a (S ++ F)
    unfolding C
    near_2 = back _ _ _ 0 split_1 near out o1 a p1

    pub structs_puts : StructsPut a c.structs ss tx
    unfolding S
    structs_puts = let n = limits.structs in record { count = omega arith; each = struct_at; near = front _ _ _ a split_2 near_2 }

    module _ (o2 : List ℕ) (b : ℕ) (p2 : Put (counted text_image (structs_from c.structs 0 ss tx)) o1 a o2 b) where
      pub functions_puts : FunctionsPut b c.functions fs tx mn mp ot op
      unfolding S F
      functions_puts = let n = limits.some in let m = limits.functions in record {
        count = omega arith;
        some = omega arith;
        main = main_lies;
        others = other_lies;
        near = back _ _ _ a split_2 near_2 o1 o2 b p2;
      }

      pub image_put : (o3 : List ℕ) (r : ℕ) → Put (counted function_image (functions_here c.functions 0 fs tx mn mp ot op)) o2 b o3 r
          → Put (image_of (program_in c (lent cs ss fs tx mn mp ot op))) out 0 o3 r
      unfolding C S F
      image_put o3 r p3 = both _ _ _ 0 split_1 near out o1 a p1 o3 r (both _ _ _ a split_2 near_2 o1 o2 b p2 o3 r p3)

-- ---- at the head of `put_functions`' loop

pub record PuttingFunctions (n : ℕ) (fs t mn mp ot op out₂ : List ℕ) (at₂ : ℕ) (out : List ℕ) (at j : ℕ) : Type 0 where
  pub some : 0 < j
  pub putting : Putting (joined function_image (functions_here (n - 1) 1 fs t mn mp ot op)) out₂ at₂ out at (joined function_image (functions_here (n - j) j fs t mn mp ot op))

module _ (at₀ n : ℕ) (fs t mn mp ot op : List ℕ) (h : FunctionsPut at₀ n fs t mn mp ot op) where
  abbrev one : ℕ → Function
  one j = function_in (lent [] [] fs t mn mp ot op) j

  abbrev all : ℕ → ℕ → List Function
  all a b = functions_here a b fs t mn mp ot op

  count : Split (counted function_image (functions_here n 0 fs t mn mp ot op)) (digits n) (joined function_image (functions_here (n - 0) 0 fs t mn mp ot op))
  count = count_split function_image all one (here_open fs t mn mp ot op) (here_shut fs t mn mp ot op) n

  main : Split (joined function_image (functions_here (n - 0) 0 fs t mn mp ot op)) (function_image (function_here fs 0 t mn mp)) (joined function_image (functions_here (n - 1) 1 fs t mn mp ot op))
  main = subst (λ (f : Function). Split (joined function_image (functions_here (n - 0) 0 fs t mn mp ot op)) (function_image f)
      (joined function_image (functions_here (n - 1) 1 fs t mn mp ot op))) (first_is fs t mn mp ot op)
      (one_split function_image all one (here_open fs t mn mp ot op) (here_shut fs t mn mp ot op) n 0 h.some)

  pub functions_near : Near at₀ (digits n)
  functions_near = front _ _ _ at₀ count h.near

  module _ (out₀ out₁ : List ℕ) (at₁ : ℕ) (p : Put (digits n) out₀ at₀ out₁ at₁) where
    near_1 : Near at₁ (joined function_image (functions_here (n - 0) 0 fs t mn mp ot op))
    near_1 = back _ _ _ at₀ count h.near out₀ out₁ at₁ p

    pub main_puts : FunctionPuts at₁ fs 0 t mn mp
    main_puts = record { lies = h.main; near = front _ _ _ at₁ main near_1 }

    module _ (out₂ : List ℕ) (at₂ : ℕ) (q : Put (function_image (function_here fs 0 t mn mp)) out₁ at₁ out₂ at₂) where
      rest : Near at₂ (joined function_image (functions_here (n - 1) 1 fs t mn mp ot op))
      rest = back _ _ _ at₁ main near_1 out₁ out₂ at₂ q

      pub functions_start : PuttingFunctions n fs t mn mp ot op out₂ at₂ out₂ at₂ 1
      functions_start = record { some = omega arith; putting = putting_start _ out₂ at₂ }

      module _ (out : List ℕ) (at j : ℕ) (r : PuttingFunctions n fs t mn mp ot op out₂ at₂ out at j) where
        pub function_puts : j < n → FunctionPuts at fs j t ot op
        function_puts l = record {
          lies = h.others j r.some l;
          near = subst (λ (f : Function). Near at (function_image f)) (other_is fs t mn mp ot op j r.some)
              (each_near function_image all one (here_open fs t mn mp ot op) (here_shut fs t mn mp ot op) n 1 out₂ at₂ rest out at j r.putting l);
        }

        pub functions_step : j < n → (out' : List ℕ) (at' : ℕ) → Put (function_image (function_here fs j t ot op)) out at out' at' → PuttingFunctions n fs t mn mp ot op out₂ at₂ out' at' (j + 1)
        functions_step l out' at' s = record {
          some = omega arith;
          putting = each_step function_image all one (here_open fs t mn mp ot op) (here_shut fs t mn mp ot op) n 1 out₂ at₂ rest out at j r.putting l out' at'
              (put_as _ _ out out' at at' (ap function_image (sym (other_is fs t mn mp ot op j r.some))) s);
        }

        pub functions_end : n ≤ j → Put (counted function_image (functions_here n 0 fs t mn mp ot op)) out₀ at₀ out at
        functions_end l = both _ _ _ at₀ count h.near out₀ out₁ at₁ p out at (both _ _ _ at₁ main near_1 out₁ out₂ at₂ q out at
            (each_end function_image all one (here_open fs t mn mp ot op) (here_shut fs t mn mp ot op) n 1 out₂ at₂ rest out at j r.putting l))

-- ---- saving

module _ (c : Counts) (x : Stores) (out : List ℕ) (ok : Bool) (e : ok ≡ program_ok c x) where
  pub save_unordered : not ok ≡ true → record { answer = Err why.NotInOrder; out = out } ≡ save_of c x out
  unfolding save_of
  save_unordered h = rw (sym e ∙ not-true _ h)

  module _ (h : not ok ≡ false) where
    pub in_order : program_ok c x ≡ true
    in_order = sym e ∙ not-false _ h

    -- it was counted with an empty slice, which stays empty
    module _ (o1 o2 : List ℕ) (z : length o1 ≡ 0) (k : ℕ) (p : Put (image_of (program_in c x)) o1 0 o2 k) (r : ℕ) (er : r ≡ places 1 (o2 ++ out)) where
      unchanged : o2 ++ out ≡ out
      unchanged = ap (λ (l : List ℕ). l ++ out) (none o2 (p.kept ∙ z))
        where
          none : (l : List ℕ) → length l ≡ 0 → l ≡ []
          none [] e = refl
          none (a ∷ l) e = absurd (let w : ⊥ = omega arith in w)

      length_is : k ≡ length (image_of (program_in c x))
      length_is = let a = p.next in omega arith

      room_is : r ≡ places 1 out
      room_is = er ∙ ap (places 1) unchanged

      pub save_short : r < k → record { answer = Err why.ResultTooShort; out = o2 ++ out } ≡ save_of c x out
      unfolding save_of put_out
      save_short l = let a = length_is in let b = room_is in
          rw (in_order, lt-leb (length (image_of (program_in c x))) (places 1 out) (omega arith)) (ap (λ (y : List ℕ). record { answer = Err why.ResultTooShort; out = y }) unchanged)

      pub save_done : k ≤ r → (out' : List ℕ) (j : ℕ) → Put (image_of (program_in c x)) (o2 ++ out) 0 out' j → record { answer = Ok k; out = out' } ≡ save_of c x out
      unfolding save_of put_out
      save_done l out' j w =
          let a = length_is in let b = room_is in
          let q : Put (image_of (program_in c x)) out 0 out' j = subst (λ (y : List ℕ). Put (image_of (program_in c x)) y 0 out' j) unchanged w in
          let f : length (image_of (program_in c x)) ≤ places 1 out = omega arith in
          let g = (one_word (length (image_of (program_in c x))) out f).0 in
          rw (in_order, le-leb (length (image_of (program_in c x))) (places 1 out) f) (same_out (ap Ok a) q.stored)
        where
          same_out : {a b : Result ℕ Refusal} {u v : List ℕ} → a ≡ b → u ≡ v → ◌≡◌ {A = OutRes} (record { answer = a; out = u }) (record { answer = b; out = v })
          same_out e f = rw (e, f)
