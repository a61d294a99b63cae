-- A program in good order is sound and within the limits, so that what is saved loads as the same program.
use Rattle.std.specs.Prelude.{if◌then◌else◌}
use mathlib.Core.Path.{◌≡◌, refl, sym, ap, ◌∙◌}
use mathlib.Core.Bool.{Bool, true, false, not}
use mathlib.Core.List.{List, [], ◌∷◌, ◌++◌}
use Prim.Native.Nat.{ℕ, zero, suc, ◌+◌, ◌*◌, ◌<◌, ◌≤◌, ◌^◌}
use native.Mathlib.Omega.{arith}
use lib.Dec.{eqb}
use lib.ListN.{length, take, drop, length-drop}
use lib.Seq.{length-take-le}
use borrow.Author.Tests.{ne_eqb, not-true, le-leb}
use Rattle.model.specs.Values.{kind_at, payload_at, text_at}
use Rattle.model.specs.Equality.{same_bytes}
use Rattle.model.specs.Programs.{among, code_limit, constant_limit, name_limit, codes_within, within_limits}
use Rattle.model.specs.Images.{Small, SoundConstant, SoundName, SoundFunction, AllSmall, Each, always, snoc, main_first, Sound}
use Rattle.model.specs.Stores.{Stores, start, size, part, struct_word, name_word, code_word, code_end, constant_in, constants_from, structs_from, function_in, functions_from, program_in}
use Rattle.model.specs.Orders.{main_ok, program_ok}
use Rattle.model.specs.declared.Counts.{Counts}
use Rattle.laws_names.specs.Sorted.{all_different}
use Rattle.laws_names.proofs.Standing.{all_different_lem}
use Rattle.model.specs.Stores.{stores_of as lent}
use Rattle.image_save.specs.Puts.{Known}
use Rattle.layout.proofs.Bools.{either_way, both_true}
use Rattle.laws_programs.proofs.Searching.{same_sym}
use Rattle.laws_programs.proofs.Known.{structs_known, Known as KnownFunction}
use Rattle.image_load.proofs.Loaded.{Clear}
use Rattle.image.specs.Loads.{Below}
use Rattle.image_save.proofs.Orderly.{part_most, good, limits, text_small, constant_at_lem, struct_at, function_at_lem, ends_in}

-- ---- constants

constant_sound : (t : List ℕ) (k a : ℕ) → Known t k a → a < 2 ^ 64 → SoundConstant (constant_in t k a)
unfolding constant_in SoundConstant
constant_sound t zero a h s = s
constant_sound t (suc zero) a h s = tt
constant_sound t (suc (suc zero)) a h s = h.small (omega arith)
constant_sound t (suc (suc (suc zero))) a h s = h.small (omega arith)
constant_sound t (suc (suc (suc (suc k)))) a h s = absurd (let z = h.kind in let w : ⊥ = omega arith in w)

constants_length : (k j : ℕ) (cs t : List ℕ) → length (constants_from k j cs t) ≡ k
unfolding constants_from
constants_length zero j cs t = refl
constants_length (suc k) j cs t = ap suc (constants_length k (suc j) cs t)

constants_sound : (k j : ℕ) (cs t : List ℕ) → ((i : ℕ) → j ≤ i → i < j + k → SoundConstant (constant_in t (kind_at cs i) (payload_at cs i))) → Each (λ u. SoundConstant) always tt (constants_from k j cs t)
unfolding constants_from Each
constants_sound zero j cs t h = tt
constants_sound (suc k) j cs t h = (h j (omega arith) (omega arith), constants_sound k (suc j) cs t (λ i a b. h i (omega arith) (omega arith)))

-- ---- struct names

structs_length : (k j : ℕ) (ss t : List ℕ) → length (structs_from k j ss t) ≡ k
unfolding structs_from
structs_length zero j ss t = refl
structs_length (suc k) j ss t = ap suc (structs_length k (suc j) ss t)

unfoldable Shorts : List (List ℕ) → Type 0
Shorts [] = Unit
Shorts (x ∷ l) = Small (length x) × Shorts l

structs_short : (k j : ℕ) (ss t : List ℕ) → ((i : ℕ) → j ≤ i → i < j + k → length (part t (struct_word ss i)) < 2 ^ 32) → Shorts (structs_from k j ss t)
unfolding structs_from Shorts
structs_short zero j ss t h = tt
structs_short (suc k) j ss t h = (h j (omega arith) (omega arith), structs_short k (suc j) ss t (λ i a b. h i (omega arith) (omega arith)))

-- t is none of `seen`, none of which is among t and l
fresh : (seen : List (List ℕ)) (t : List ℕ) (l : List (List ℕ)) → Clear seen (t ∷ l) → (among t seen ≡ false) × Clear seen l
unfolding Clear among
fresh [] t l c = (refl, tt)
fresh (x ∷ seen) t l c =
    let r = fresh seen t l c.1 in
    either_way (same_bytes x t)
    (λ e. absurd (let z : ◌≡◌ {A = Bool} true false = rw e at c.0 in let k : ◌≡◌ {A = ℕ} 0 1 = cc in let w : ⊥ = omega arith in w))
    (λ e. (rw (same_sym t x ∙ e) r.0, (rw e at c.0, r.1)))

clear_one : (seen : List (List ℕ)) (t : List ℕ) (l : List (List ℕ)) → Clear seen l → among t l ≡ false → Clear (seen ++ (t ∷ [])) l
unfolding Clear
clear_one [] t l c h = (h, tt)
clear_one (x ∷ seen) t l c h = (c.0, clear_one seen t l c.1 h)

names_sound : (l seen : List (List ℕ)) → all_different l ≡ true → Clear seen l → Shorts l → Each SoundName snoc seen l
unfolding Each all_different Shorts
names_sound [] seen d c s = tt
names_sound (t ∷ l) seen d c s =
    let g = both_true (not (among t l)) (all_different l) d in let f = fresh seen t l c in
    ((s.0, ap not f.0), names_sound l (seen ++ (t ∷ [])) g.1 (clear_one seen t l f.1 (not-true (among t l) g.0)) s.1)

-- ---- functions

functions_length : (k j : ℕ) (x : Stores) → length (functions_from k j x) ≡ k
unfolding functions_from
functions_length zero j x = refl
functions_length (suc k) j x = ap suc (functions_length k (suc j) x)

functions_sound : (k j : ℕ) (x : Stores) → ((i : ℕ) → j ≤ i → i < j + k → SoundFunction false (function_in x i)) → Each SoundFunction (λ y f. false) false (functions_from k j x)
unfolding functions_from Each
functions_sound zero j x h = tt
functions_sound (suc k) j x h = (h j (omega arith) (omega arith), functions_sound k (suc j) x (λ i a b. h i (omega arith) (omega arith)))

all_small : (l : List ℕ) → Below (2 ^ 32) l → AllSmall l
unfolding AllSmall
all_small [] h = tt
all_small (p ∷ l) h = (h 0, all_small l (λ i. h (suc i)))

small_take : (n : ℕ) (l : List ℕ) → AllSmall l → AllSmall (take n l)
unfolding AllSmall
small_take zero l h = tt
small_take (suc n) [] h = tt
small_take (suc n) (p ∷ l) h = (h.0, small_take n l h.1)

small_drop : (n : ℕ) (l : List ℕ) → AllSmall l → AllSmall (drop n l)
unfolding AllSmall
small_drop zero l h = h
small_drop (suc n) [] h = tt
small_drop (suc n) (p ∷ l) h = small_drop n l h.1

part_whole : (s : List ℕ) (w : ℕ) → start w + size w ≤ length s → length (part s w) ≡ size w
unfolding part text_at
part_whole s w h = length-take-le (size w) (drop (start w) s) (let z = length-drop (start w) s in omega arith)

function_sound : (c : Counts) (first : Bool) (fs t cd pl : List ℕ) (i : ℕ) → KnownFunction c fs i → c.text < 2 ^ 32 → code_end fs i ≤ length cd → code_end fs i ≤ length pl → Below (2 ^ 32) pl
    → main_first first (part t (name_word fs i)) ≡ true → SoundFunction first (record { name = part t (name_word fs i); code = part cd (code_word fs i); places = part pl (code_word fs i) })
unfolding code_end part text_at
function_sound c first fs t cd pl i h s a b w m =
    let n = part_most t (name_word fs i) in let k = part_most cd (code_word fs i) in let x = h.name in let y = h.short in
    record {
      name = omega arith;
      main = m;
      code = omega arith;
      places = part_whole pl (code_word fs i) b ∙ sym (part_whole cd (code_word fs i) a);
      small = small_take (size (code_word fs i)) (drop (start (code_word fs i)) pl) (small_drop (start (code_word fs i)) pl (all_small pl w));
    }

-- ---- the whole

module _ (c : Counts) (cs ss fs tx mn mp ot op : List ℕ) (ok : program_ok c (lent cs ss fs tx mn mp ot op) ≡ true)
    (words : Below (2 ^ 64) cs) (mains : Below (2 ^ 32) mp) (others : Below (2 ^ 32) op) where
  x : Stores
  x = lent cs ss fs tx mn mp ot op

  code_ends : (code_end fs 0 ≤ length mn) × ((i : ℕ) → 0 < i → i < c.functions → code_end fs i ≤ length ot)
  code_ends = ends_in c cs ss fs tx mn mp ot op ok mn ot (good c cs ss fs tx mn mp ot op ok).codes

  place_ends : (code_end fs 0 ≤ length mp) × ((i : ℕ) → 0 < i → i < c.functions → code_end fs i ≤ length op)
  place_ends = ends_in c cs ss fs tx mn mp ot op ok mp op (good c cs ss fs tx mn mp ot op ok).places

  main_sound : 0 < c.functions → SoundFunction true (function_in (lent cs ss fs tx mn mp ot op) 0)
  unfolding function_in main_first main_ok
  main_sound l = function_sound c true fs tx mn mp 0 (function_at_lem c cs ss fs tx mn mp ot op ok 0 l) (text_small c cs ss fs tx mn mp ot op ok) code_ends.0
      place_ends.0 mains (good c cs ss fs tx mn mp ot op ok).main

  other_sound : (i : ℕ) → 0 < i → i < c.functions → SoundFunction false (function_in (lent cs ss fs tx mn mp ot op) i)
  unfolding function_in main_first
  other_sound i p l =
      let n : eqb i 0 ≡ false = ne_eqb i 0 (λ e. omega arith) in
      rw n (function_sound c false fs tx ot op i (function_at_lem c cs ss fs tx mn mp ot op ok i l) (text_small c cs ss fs tx mn mp ot op ok) (code_ends.1 i p l) (place_ends.1 i p l) others refl)

  all_sound : (n : ℕ) → n ≡ c.functions → 0 < n → Each SoundFunction (λ y f. false) true (functions_from n 0 (lent cs ss fs tx mn mp ot op))
  unfolding functions_from Each
  all_sound zero e l = absurd (let w : ⊥ = omega arith in w)
  all_sound (suc n) e l = (main_sound (omega arith), functions_sound n 1 (lent cs ss fs tx mn mp ot op) (λ i a b. other_sound i (omega arith) (omega arith)))

  pub order_sound : Sound (program_in c (lent cs ss fs tx mn mp ot op))
  unfolding program_in payload_at Clear
  order_sound =
      let n = limits c cs ss fs tx mn mp ot op ok in let n0 = n.constants in let n1 = n.structs in let n2 = n.some in let n3 = n.functions in
      let l1 = constants_length c.constants 0 cs tx in let l2 = structs_length c.structs 0 ss tx in let l3 = functions_length c.functions 0 (lent cs ss fs tx mn mp ot op) in
      record {
        constants = (omega arith, constants_sound c.constants 0 cs tx (λ i a b. constant_sound tx _ _ (constant_at_lem c cs ss fs tx mn mp ot op ok i (omega arith)) (words (2 * i + 1))));
        structs = (
          omega arith,
          names_sound (structs_from c.structs 0 ss tx) [] (all_different_lem c.structs ss tx (structs_known c ss tx (good c cs ss fs tx mn mp ot op ok).structs).order) tt
              (structs_short c.structs 0 ss tx (λ i a b. struct_at c cs ss fs tx mn mp ot op ok i (omega arith))),
        );
        functions = ((omega arith, omega arith), all_sound c.functions refl (omega arith));
      }

-- ---- within the limits, whatever the numbers in the stores

module _ (c : Counts) (cs ss fs tx mn mp ot op : List ℕ) (ok : program_ok c (lent cs ss fs tx mn mp ot op) ≡ true) where
  -- a code is at most as long as its word says, and good order keeps the word within the limit
  code_short : (i : ℕ) → i < c.functions → length (function_in (lent cs ss fs tx mn mp ot op) i).code ≤ code_limit
  unfolding function_in
  code_short i l = let a = (function_at_lem c cs ss fs tx mn mp ot op ok i l).short in let b = part_most (if eqb i 0 then mn else ot) (code_word fs i) in omega arith

  codes_short : (k j : ℕ) → j + k ≤ c.functions → codes_within (functions_from k j (lent cs ss fs tx mn mp ot op)) ≡ true
  unfolding functions_from codes_within
  codes_short zero j h = refl
  codes_short (suc k) j h = rw (le-leb _ code_limit (code_short j (omega arith))) (codes_short k (suc j) (omega arith))

  -- so that loading does not refuse it 22
  pub order_within : within_limits (program_in c (lent cs ss fs tx mn mp ot op)) ≡ true
  unfolding program_in within_limits
  order_within =
      let n = limits c cs ss fs tx mn mp ot op ok in
      rw (
        constants_length c.constants 0 cs tx,
        structs_length c.structs 0 ss tx,
        functions_length c.functions 0 (lent cs ss fs tx mn mp ot op),
        le-leb c.constants constant_limit n.constants,
        le-leb c.structs name_limit n.structs,
        le-leb c.functions name_limit n.functions,
      )
      (codes_short c.functions 0 (omega arith))
