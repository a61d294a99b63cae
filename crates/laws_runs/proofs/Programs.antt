-- A program in good order is a world in good order.
use Rattle.std.specs.Prelude.{if◌then◌else◌}
use mathlib.Core.Path.{◌≡◌, refl, sym, ap}
use mathlib.Core.Bool.{Bool, true, false, ◌&&◌, ◌||◌, true≢false}
use mathlib.Core.Logic.{◌⊎◌, inl, inr, ⊎_elim}
use mathlib.Core.List.{List, []}
use Prim.Native.Nat.{ℕ, zero, suc, ◌+◌, ◌≤◌, ◌<◌}
use native.Mathlib.Omega.{arith}
use borrow.Author.Tests.{leb-true, eqb-true, eqb-false, ne_eqb}
use lib.Dec.{leb, eqb}
use lib.ListN.{length, get_or, take, drop, length-take, length-drop, get_or-eq_default}
use lib.Seq.{get_or-take, get_or-drop}
use Rattle.model.specs.declared.Counts.{Counts}
use Rattle.model.specs.declared.Value.{Value}
use Rattle.model.specs.Basics.{every_from}
use Rattle.model.specs.Values.{places, most_places, kind_at, payload_at, value_of, value_at, values_from, text_at}
use Rattle.model.specs.Heap.{placed_below}
use Rattle.model.specs.Programs.{Function, function_at, constant_limit, name_limit}
use Rattle.model.specs.Stores.{Stores, start, size, part, name_word, code_word, code_end, function_in, functions_from, world_in}
use Rattle.model.specs.Orders.{counts_ok, text_ok, inside_text, constant_ok, constants_ok, structs_ok, program_ok, code_start, function_ok, functions_ok, main_ok, main_taken, other_taken, inside_codes}
use Rattle.value.proofs.Coding.{and_left, and_right}
use Rattle.cells.proofs.Order.{Placed, by_less}
use Rattle.laws_runs.specs.Sane.{AllPlaced, CodesFit, SaneWorld}
use Rattle.laws_runs.specs.Ordered.{CodeBytes}
use Rattle.laws_runs.proofs.Tests.{every_of}

zero_add : (i : ℕ) → 0 + i ≡ i
zero_add i = omega arith

either : {A : Type 0} (P : A → Type 0) (b : Bool) (x y : A) → (b ≡ true → P x) → (b ≡ false → P y) → P (if b then x else y)
either P true x y f g = f refl
either P false x y f g = g refl

-- ---- a part of a store

part_length : (xs : List ℕ) (w : ℕ) → start w + size w ≤ length xs → length (part xs w) ≡ size w
unfolding part text_at
part_length xs w h = simp (length-take, length-drop) (omega arith)

abbrev Bytes : List ℕ → Type 0
Bytes xs = (j : ℕ) → j < length xs → get_or xs j 0 < 256

-- past its end a store reads as 0
bytes_at : (xs : List ℕ) → Bytes xs → (j : ℕ) → get_or xs j 0 < 256
bytes_at xs b j = ⊎_elim (λ l. b j l) (λ g. rw (get_or-eq_default xs 0 {n = j} g) (omega arith)) (by_less j (length xs))

part_bytes : (xs : List ℕ) (w : ℕ) → Bytes xs → Bytes (part xs w)
unfolding part text_at
part_bytes xs w b j h =
    let l : j < size w = omega (arith, simp length-take at h) in
    rw (get_or-take (size w) (drop (start w) xs) j 0 l, get_or-drop (start w) xs j 0) (bytes_at xs b (start w + j))

-- the places that count are there
pub within : (n : ℕ) (xs : List ℕ) → leb n (places 1 xs) ≡ true → n ≤ length xs
unfolding places
within n xs e = omega (arith, leb-true n _ e)

-- ---- the functions of a program

module _ (s : Stores) where
  pub length_functions : (n i : ℕ) → length (functions_from n i s) ≡ n
  unfolding functions_from
  length_functions zero i = refl
  length_functions (suc n) i = ap suc (length_functions n (suc i))

  pub function_at_lem : (n i k : ℕ) → k < n → function_at (functions_from n i s) k ≡ function_in s (i + k)
  unfolding functions_from function_at
  function_at_lem zero i k h = absurd (let z : ⊥ = omega arith in z)
  function_at_lem (suc n) i zero h = let z : i + 0 ≡ i = omega arith in rw z
  function_at_lem (suc n) i (suc k) h = let z : i + suc k ≡ suc i + k = omega arith in rw z (function_at_lem n (suc i) k (omega arith))

  no_code : (n i : ℕ) → n ≤ i → (function_at (functions_from n 0 s) i).code ≡ []
  unfolding function_at
  no_code n i h = ap (λ (f : Function). f.code) (get_or-eq_default (functions_from n 0 s) _ {n = i} (omega (arith, length_functions n 0)))

-- ---- codes stand inside their stores

module _ (c : Counts) (fs : List ℕ) (ok : functions_ok c fs ≡ true) where
  -- a code starts where the one before it ends, and is within the limit
  placed_code : (i : ℕ) → i < c.functions → (start (code_word fs i) ≡ code_start fs i) × (size (code_word fs i) ≤ 65535)
  unfolding functions_ok function_ok
  placed_code i h =
      let name = inside_text c (name_word fs i) in
      let from = eqb (start (code_word fs i)) (code_start fs i) in
      let short = leb (size (code_word fs i)) 65535 in
      let e = every_of (function_ok c fs) c.functions 0 (and_right (leb c.functions (places 2 fs)) (every_from c.functions 0 (function_ok c fs)) ok) i (omega arith) (omega arith) in
      let f = and_left (name && from && short) (leb (code_end fs i) most_places) e in
      (eqb-true _ _ (and_right name from (and_left (name && from) short f)), leb-true _ _ (and_right (name && from) short f))

  ends_below : (n i : ℕ) → n ≤ c.functions → i < n → 1 ≤ i → code_end fs i ≤ code_start fs n
  unfolding code_start code_end
  ends_below zero i g h l = absurd (let z : ⊥ = omega arith in z)
  ends_below (suc zero) i g h l = absurd (let z : ⊥ = omega arith in z)
  ends_below (suc (suc n)) i g h l = on (λ less. ends_below (suc n) i (omega arith) less l) (by_less i (suc n))
    where
      on : (i < suc n → code_end fs i ≤ code_start fs (suc n)) → (i < suc n) ⊎ (suc n ≤ i) → code_end fs i ≤ code_end fs (suc n)
      on below (inl less) = omega (arith, below less, (placed_code (suc n) (omega arith)).0)
      on below (inr same) = let z : i ≡ suc n = omega arith in rw z (omega arith)

  -- main's code in one store, the others' in another: a code, or its places
  module _ (main other : List ℕ) (inside : inside_codes c fs main other ≡ true) where
    pub part_size : (i : ℕ) → i < c.functions → length (part (if eqb i 0 then main else other) (code_word fs i)) ≡ size (code_word fs i)
    unfolding inside_codes main_taken other_taken code_end
    part_size zero h = part_length main (code_word fs 0) (within _ main (and_left (leb (main_taken fs) (places 1 main)) (leb (other_taken c fs) (places 1 other)) inside))
    part_size (suc i) h =
        let n : suc i ≡ 0 → ⊥ = (λ e. omega arith) in
        let z = within (other_taken c fs) other (and_right (leb (main_taken fs) (places 1 main)) (leb (other_taken c fs) (places 1 other)) inside) in
        rw (ne_eqb (suc i) 0 n) (part_length other (code_word fs (suc i)) (omega (arith, z, ends_below c.functions (suc i) (omega arith) h (omega arith))))

-- ---- a program

-- what good order says of a program, as far as the world is made of it
pub record Parts (c : Counts) (s : Stores) : Type 0 where
  pub counts : counts_ok c ≡ true
  pub text : text_ok c s.text ≡ true
  pub constants : constants_ok c s.constants ≡ true
  pub functions : functions_ok c s.functions ≡ true
  pub codes : inside_codes c s.functions s.main s.other ≡ true
  pub places : inside_codes c s.functions s.main_places s.other_places ≡ true

pub parts_of_lem : (c : Counts) (s : Stores) → program_ok c s ≡ true → Parts c s
unfolding program_ok
parts_of_lem c s e =
    let counts = counts_ok c in
    let text = text_ok c s.text in
    let constants = constants_ok c s.constants in
    let structs = structs_ok c s.structs s.text in
    let functions = functions_ok c s.functions in
    let main = main_ok s.functions s.text in
    let codes = inside_codes c s.functions s.main s.other in
    let places = inside_codes c s.functions s.main_places s.other_places in
    let e7 = and_left (counts && text && constants && structs && functions && main && codes) places e in
    let e6 = and_left (counts && text && constants && structs && functions && main) codes e7 in
    let e5 = and_left (counts && text && constants && structs && functions) main e6 in
    let e4 = and_left (counts && text && constants && structs) functions e5 in
    let e3 = and_left (counts && text && constants) structs e4 in
    let e2 = and_left (counts && text) constants e3 in
    record {
      counts = and_left counts text e2;
      text = and_right counts text e2;
      constants = and_right (counts && text) constants e3;
      functions = and_right (counts && text && constants && structs) functions e5;
      codes = and_right (counts && text && constants && structs && functions && main) codes e7;
      places = and_right (counts && text && constants && structs && functions && main && codes) places e;
    }

module _ (c : Counts) (s : Stores) (p : Parts c s) where
  pub has_main : 1 ≤ c.functions
  unfolding counts_ok
  has_main =
      let x = leb c.constants constant_limit && leb c.structs name_limit in
      let y = leb 1 c.functions in
      let z = leb c.functions name_limit in
      let t = leb c.text most_places in
      let n = eqb c.current 0 || eqb (suc c.current) c.functions in
      leb-true 1 c.functions (and_right x y (and_left (x && y) z (and_left (x && y && z) t (and_left (x && y && z && t) n p.counts))))

  pub length_text : length (take c.text s.text) ≡ c.text
  unfolding text_ok
  length_text = let z = within c.text s.text p.text in simp length-take (omega arith)

  -- the length of a function's code, and of its places, is what its word says
  pub code_size : (i : ℕ) → i < c.functions → length (function_at (functions_from c.functions 0 s) i).code ≡ size (code_word s.functions i)
  unfolding function_in
  code_size i h = rw (function_at_lem s c.functions 0 i h, zero_add i) (part_size c s.functions p.functions s.main s.other p.codes i h)

  code_fits : (i : ℕ) → i < c.functions → length (function_in s i).code ≤ 65535
  unfolding function_in
  code_fits i h = omega (arith, part_size c s.functions p.functions s.main s.other p.codes i h, (placed_code c s.functions p.functions i h).1)

  codes_fit : (n i : ℕ) → i + n ≤ c.functions → CodesFit (functions_from n i s)
  unfolding functions_from CodesFit
  codes_fit zero i h = tt
  codes_fit (suc n) i h = (code_fits i (omega arith), codes_fit n (suc i) (omega arith))

-- ---- constants name no cells

known_inside : (b x : Bool) → (if b then x else false) ≡ true → (b ≡ true) × (x ≡ true)
known_inside true x e = (refl, e)
known_inside false x e = absurd (true≢false (sym e))

constant_placed : (c : Counts) (k a : ℕ) → constant_ok c k a ≡ true → Placed c.text [] 0 (value_of k a)
unfolding constant_ok inside_text start size value_of placed_below
constant_placed c k a e =
    let known : Value → Type 0 = (λ x. Placed c.text [] 0 x) in
    either known (eqb k 0) _ _ (λ z. refl) (λ n0.
    either known (eqb k 1) _ _ (λ z. refl) (λ n1.
    let (l, i) = known_inside (leb k 3) (inside_text c a) (rw (n0, n1) at e) in
    either known (eqb k 2) _ _ (λ z. i) (λ n2.
    either known (eqb k 3) _ _ (λ z. i) (λ n3.
    absurd (let z : ⊥ = omega (arith, leb-true k 3 l, eqb-false k 0 n0, eqb-false k 1 n1, eqb-false k 2 n2, eqb-false k 3 n3) in z)))))

all_constants : (t : ℕ) (cs : List ℕ) (n i : ℕ) → ((j : ℕ) → i ≤ j → j < i + n → Placed t [] 0 (value_at cs j)) → AllPlaced t [] (values_from n i cs)
unfolding values_from AllPlaced
all_constants t cs zero i f = tt
all_constants t cs (suc n) i f = (f i (omega arith) (omega arith), all_constants t cs n (suc i) (λ j l h. f j (omega arith) (omega arith)))

constants_placed : (c : Counts) (cs : List ℕ) → constants_ok c cs ≡ true → AllPlaced c.text [] (values_from c.constants 0 cs)
unfolding constants_ok value_at
constants_placed c cs e =
    let ok : ℕ → Bool = (λ i. constant_ok c (kind_at cs i) (payload_at cs i)) in
    let all = and_right (leb c.constants (places 2 cs)) (every_from c.constants 0 ok) e in
    all_constants c.text cs c.constants 0 (λ j l h. constant_placed c (kind_at cs j) (payload_at cs j) (every_of ok c.constants 0 all j l h))

-- ---- codes are bytes

module _ (s : Stores) (b : CodeBytes s) where
  function_bytes : (i j : ℕ) → get_or (function_in s i).code j 0 < 256
  unfolding function_in
  function_bytes i j =
      let store = if eqb i 0 then s.main else s.other in
      bytes_at (part store (code_word s.functions i)) (part_bytes store (code_word s.functions i) (either Bytes (eqb i 0) s.main s.other (λ e. b.main) (λ e. b.other))) j

  code_bytes : (n i j : ℕ) → get_or (function_at (functions_from n 0 s) i).code j 0 < 256
  code_bytes n i j =
      ⊎_elim (λ l. rw (function_at_lem s n 0 i l) (function_bytes (0 + i) j))
      (λ g. rw (no_code s n i g) (omega arith))
      (by_less i n)

-- ---- the world of a program in good order

pub program_world : (c : Counts) (s : Stores) (stack_room frame_room cell_room : ℕ) (strict : Bool) → program_ok c s ≡ true → CodeBytes s → SaneWorld (world_in c s stack_room frame_room cell_room strict)
unfolding world_in
program_world c s stack_room frame_room cell_room strict e b =
    let p = parts_of_lem c s e in
    record {
      constants = rw (length_text c s p) (constants_placed c s.constants p.constants);
      codes = codes_fit c s p c.functions 0 (omega arith);
      bytes = code_bytes s b c.functions;
    }
