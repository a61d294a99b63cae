-- A loaded program is in good order, and stands for the program that was read.
use mathlib.Core.Path.{◌≡◌, refl, sym, ap, subst, ◌∙◌}
use mathlib.Core.Bool.{Bool, true, false, not}
use mathlib.Core.List.{List, [], ◌∷◌, ◌++◌, append_assoc}
use Prim.Native.Nat.{ℕ, zero, suc, ◌+◌, ◌<◌, ◌≤◌, ◌^◌}
use native.Mathlib.Omega.{arith}
use lib.Dec.{leb}
use lib.ListN.{length, take, length-append}
use borrow.Author.Tests.{leb-true, le-leb, eq-eqb, not-true}
use Rattle.model.specs.Basics.{every_from}
use Rattle.model.specs.Values.{places, kind_at, payload_at, text_at}
use Rattle.model.specs.Equality.{same_bytes}
use Rattle.model.specs.Programs.{Constant, scalar, boolean, string, reference, Function, Program, function_at, among, order_of, codes_within, within_limits}
use Rattle.model.specs.Images.{joined, SoundName, SoundFunction, Each, snoc, main_first, Sound}
use Rattle.model.specs.Stores.{Stores, start, size, pack, struct_word, name_word, code_word, code_end, structs_from, orders_from, functions_from, program_in}
use Rattle.model.specs.Orders.{counts_ok, text_ok, inside_text, constant_ok, constants_ok, structs_ok, code_start, function_ok, functions_ok, main_ok, main_taken, other_taken, inside_codes, program_ok}
use Rattle.model.specs.Loading.{constant_text, constant_words, constants_laid, structs_laid, others_laid, functions_laid, constant_texts, struct_texts, texts_of, main_of, others_of, laid, counts_for, room_for}
use Rattle.model.specs.declared.Counts.{Counts}
use Rattle.laws_names.specs.Sorted.{all_different}
use Rattle.laws_names.proofs.Laying.{length_order, laid_length as structs_length, different_unlike, standing_of}
use Rattle.laws_programs.proofs.Known.{structs_good}
use Rattle.layout.proofs.Parts.{one_word, two_words, places_same, start_pack, size_pack}
use Rattle.layout.proofs.Bools.{either_way, both_true, and_both}
use Rattle.laws_programs.proofs.Searching.{same_sym}
use Rattle.image_load.proofs.Filling.{laid_length}
use Rattle.image_load.proofs.Placing.{others_length}
use Rattle.image_load.proofs.Loads.{Room, room_of_lem}
use Rattle.layout.proofs.Writing.{length_written}
use Rattle.laws_images.proofs.Held.{written_front, Pieces, pieces_here, named, ConstantsAt, constants_here, constants_held, StructsAt, structs_here, structs_held, FunctionsAt, functions_here_lem, Placed, places_sum, function_held, others_held, first_here, second_here}

-- ---- in good order, part by part

inside_pack : (c : Counts) (w o n : ℕ) → w ≡ pack o n → o < 2 ^ 32 → o + n ≤ c.text → inside_text c w ≡ true
unfolding inside_text
inside_pack c w o n e h g = rw (e, start_pack o n h, size_pack o n h) (le-leb (o + n) c.text g)

constant_fine : (c : Counts) (x : Constant) (k a o : ℕ) → k ∷ a ∷ [] ≡ constant_words o x → o < 2 ^ 32 → o + length (constant_text x) ≤ c.text → constant_ok c k a ≡ true
unfolding constant_ok constant_words constant_text
constant_fine c (scalar w) k a o q h g = let y : k ≡ 0 = cc in rw y
constant_fine c (boolean true) k a o q h g = let y : k ≡ 1 = cc in let z : a ≡ 1 = cc in rw (y, z)
constant_fine c (boolean false) k a o q h g = let y : k ≡ 1 = cc in let z : a ≡ 0 = cc in rw (y, z)
constant_fine c (string x) k a o q h g = let y : k ≡ 2 = cc in let z : a ≡ pack o (length x) = cc in rw y (inside_pack c a o (length x) z h g)
constant_fine c (reference x) k a o q h g = let y : k ≡ 3 = cc in let z : a ≡ pack o (length x) = cc in rw y (inside_pack c a o (length x) z h g)

constants_fine : (c : Counts) (l : List Constant) (cs : List ℕ) (i o : ℕ) → ConstantsAt cs i o l → o + length (joined constant_text l) ≤ c.text → c.text < 2 ^ 32
    → every_from (length l) i (λ j. constant_ok c (kind_at cs j) (payload_at cs j)) ≡ true
unfolding every_from ConstantsAt joined
constants_fine c [] cs i o w h s = refl
constants_fine c (x ∷ l) cs i o w h s =
    let a = length-append (constant_text x) (joined constant_text l) in
    and_both _ _ (constant_fine c x (kind_at cs i) (payload_at cs i) o w.0 (omega arith) (omega arith)) (constants_fine c l cs (suc i) (o + length (constant_text x)) w.1 (omega arith) s)

structs_fine : (c : Counts) (l : List (List ℕ)) (ss : List ℕ) (i o : ℕ) → StructsAt ss i o l → o + length (joined (λ n. n) l) ≤ c.text → c.text < 2 ^ 32
    → (k : ℕ) → k < length l → inside_text c (struct_word ss (i + k)) ≡ true
unfolding StructsAt joined
structs_fine c [] ss i o w h s k g = absurd (let y : ⊥ = omega arith in y)
structs_fine c (x ∷ l) ss i o w h s zero g =
    let a = length-append x (joined (λ n. n) l) in let z : i + 0 ≡ i = omega arith in
    rw z (inside_pack c (struct_word ss i) o (length x) w.0 (omega arith) (omega arith))
structs_fine c (x ∷ l) ss i o w h s (suc k) g =
    let a = length-append x (joined (λ n. n) l) in let z : i + suc k ≡ suc i + k = omega arith in
    rw z (structs_fine c l ss (suc i) (o + length x) w.1 (omega arith) s k (omega arith))

function_fine : (c : Counts) (f : Function) (fs : List ℕ) (i o j : ℕ) → (name_word fs i ≡ pack o (length f.name)) × (code_word fs i ≡ pack j (length f.code))
    → code_start fs i ≡ j → o + length f.name ≤ c.text → c.text < 2 ^ 32 → length f.code ≤ 65535 → j + length f.code < 2 ^ 32
    → (function_ok c fs i ≡ true) × (code_end fs i ≡ j + length f.code)
unfolding function_ok code_end
function_fine c f fs i o j w e h s k m =
    let st : start (code_word fs i) ≡ j = ap start w.1 ∙ start_pack j (length f.code) (omega arith) in
    let sz : size (code_word fs i) ≡ length f.code = ap size w.1 ∙ size_pack j (length f.code) (omega arith) in (
      and_both _ _ (and_both _ _ (and_both _ _ (inside_pack c (name_word fs i) o (length f.name) w.0 (omega arith) h) (eq-eqb _ _ (st ∙ sym e)))
          (rw sz (le-leb (length f.code) 65535 k))) (rw (st, sz) (le-leb (j + length f.code) 0xFFFF_FFFF (omega arith))),
      rw (st, sz),
    )

-- the others' codes stand one behind the other; where the next would start
others_fine : (c : Counts) (l : List Function) (fs : List ℕ) (i o j : ℕ) → FunctionsAt fs (suc i) o j l → code_start fs (suc i) ≡ j
    → o + length (joined (λ f. f.name) l) ≤ c.text → c.text < 2 ^ 32 → codes_within l ≡ true → j + length (joined (λ f. f.code) l) < 2 ^ 32
    → (every_from (length l) (suc i) (function_ok c fs) ≡ true) × (code_start fs (suc i + length l) ≡ j + length (joined (λ f. f.code) l))
unfolding every_from FunctionsAt joined codes_within code_start
others_fine c [] fs i o j w e h s k m = (refl, ap (code_start fs) (let z : suc i + 0 ≡ suc i = omega arith in z) ∙ e ∙ (let z : j ≡ j + 0 = omega arith in z))
others_fine c (f ∷ l) fs i o j w e h s k m =
    let a = length-append f.name (joined (λ f. f.name) l) in let b = length-append f.code (joined (λ f. f.code) l) in
    let k2 = both_true _ _ k in let kl = leb-true _ _ k2.0 in
    let g = function_fine c f fs (suc i) o j w.0 e (omega arith) s kl (omega arith) in
    let r = others_fine c l fs (suc i) (o + length f.name) (j + length f.code) w.1 g.1 (omega arith) s k2.1 (omega arith) in (
      and_both _ _ g.0 r.0,
      ap (code_start fs) (let z : suc i + suc (length l) ≡ suc (suc i) + length l = omega arith in z) ∙ r.1
          ∙ (let z : j + length f.code + length (joined (λ f. f.code) l) ≡ j + length (f.code ++ joined (λ f. f.code) l) = omega arith in z),
    )

-- ---- names all different, whichever way they are compared

-- no name of `seen` is t
unfoldable NotIn : List ℕ → List (List ℕ) → Type 0
NotIn t [] = Unit
NotIn t (x ∷ l) = (same_bytes x t ≡ false) × NotIn t l

not_in : (t : List ℕ) (l : List (List ℕ)) → among t l ≡ false → NotIn t l
unfolding among NotIn
not_in t [] h = tt
not_in t (x ∷ l) h = either_way (same_bytes t x)
    (λ e. absurd (let z : ◌≡◌ {A = Bool} true false = rw e at h in let k : ◌≡◌ {A = ℕ} 0 1 = cc in let w : ⊥ = omega arith in w))
    (λ e. (same_sym x t ∙ e, not_in t l (rw e at h)))

-- none of `seen` is among l
unfoldable pub Clear : List (List ℕ) → List (List ℕ) → Type 0
Clear [] l = Unit
Clear (x ∷ seen) l = (among x l ≡ false) × Clear seen l

clear_cons : (seen : List (List ℕ)) (t : List ℕ) (l : List (List ℕ)) → NotIn t seen → Clear seen l → Clear seen (t ∷ l)
unfolding Clear NotIn among
clear_cons [] t l n c = tt
clear_cons (x ∷ seen) t l n c = (rw n.0 c.0, clear_cons seen t l n.1 c.1)

clear_parts : (seen : List (List ℕ)) (t : List ℕ) (l : List (List ℕ)) → Clear (seen ++ (t ∷ [])) l → Clear seen l × (among t l ≡ false)
unfolding Clear
clear_parts [] t l c = (tt, c.0)
clear_parts (x ∷ seen) t l c = let r = clear_parts seen t l c.1 in ((c.0, r.0), r.1)

clear_none : (seen : List (List ℕ)) → Clear seen []
unfolding Clear among
clear_none [] = tt
clear_none (x ∷ seen) = (refl, clear_none seen)

different : (l seen : List (List ℕ)) → Each SoundName snoc seen l → (all_different l ≡ true) × Clear seen l
unfolding Each all_different
different [] seen h = (refl, clear_none seen)
different (t ∷ l) seen h =
    let r = different l (seen ++ (t ∷ [])) h.1 in
    let p = clear_parts seen t l r.1 in
    (and_both _ _ (ap not p.1) r.0, clear_cons seen t l (not_in t seen (not-true _ h.0.1)) p.0)

-- ---- the whole

placed_of : (b : Bool) (l : List Function) → Each SoundFunction (λ x f. false) b l → Placed l
unfolding Each Placed
placed_of b [] h = tt
placed_of b (f ∷ l) h = (h.0.places, placed_of false l h.1)

within_parts : (f : Function) (l : List Function) → codes_within (f ∷ l) ≡ true → (length f.code ≤ 65535) × (codes_within l ≡ true)
unfolding codes_within
within_parts f l h = let g = both_true (leb (length f.code) 65535) (codes_within l) h in (leb-true _ _ g.0, g.1)

program : List Constant → List (List ℕ) → Function → List Function → Program
program cs ss f l = record { constants = cs; structs = ss; functions = f ∷ l }

module _ (cs : List Constant) (ss : List (List ℕ)) (f : Function) (l : List Function) (x : Stores)
    (sound : Sound (program cs ss f l)) (limits : within_limits (program cs ss f l) ≡ true) (fits : room_for (program cs ss f l) x ≡ true) where
  y : Stores
  y = laid (program cs ss f l) x

  c : Counts
  c = counts_for (program cs ss f l)

  C : List ℕ
  C = joined constant_text cs

  S : List ℕ
  S = joined (λ n. n) ss

  N : List ℕ
  N = joined (λ f. f.name) (f ∷ l)

  room : Room (program cs ss f l) x
  room = room_of_lem (program cs ss f l) x fits

  placed : Placed (f ∷ l)
  unfolding program
  placed = placed_of true (f ∷ l) sound.functions.1

  texts : (R : List ℕ) × (y.text ≡ (C ++ S ++ N) ++ R)
  unfolding y laid texts_of constant_texts struct_texts program C S N
  texts = (_, written_front x.text (texts_of (program cs ss f l)) (one_word _ x.text room.text).0)

  text_sum : length C + length S + length N ≡ c.text
  unfolding c counts_for texts_of constant_texts struct_texts program C S N
  text_sum = let a = length-append (C ++ S) N in let b = length-append C S in omega arith

  text_small : c.text < 2 ^ 32
  unfolding c counts_for
  text_small = (one_word _ x.text room.text).1

  at_constants : y.text ≡ C ++ (S ++ (N ++ texts.0))
  at_constants = texts.1 ∙ append_assoc (C ++ S) N texts.0 ∙ append_assoc C S (N ++ texts.0)

  at_names : y.text ≡ (C ++ S) ++ (N ++ texts.0)
  at_names = texts.1 ∙ append_assoc (C ++ S) N texts.0

  constant_pieces : Pieces constant_text y.text 0 cs
  unfolding C
  constant_pieces = pieces_here constant_text cs y.text [] (S ++ (N ++ texts.0)) 0 at_constants refl

  struct_pieces : Pieces (λ n. n) y.text (length C) ss
  unfolding S
  struct_pieces = pieces_here (λ n. n) ss y.text C (N ++ texts.0) (length C) at_constants refl

  name_pieces : Pieces (λ f. f.name) y.text (length C + length S) (f ∷ l)
  unfolding N
  name_pieces = pieces_here (λ f. f.name) (f ∷ l) y.text (C ++ S) texts.0 (length C + length S) at_names (length-append C S)

  constants_at : ConstantsAt y.constants 0 0 cs
  unfolding y laid program
  constants_at =
      let n = laid_length 0 cs in let r = two_words _ x.constants room.constants in
      constants_here cs y.constants [] _ 0 0 (written_front x.constants (constants_laid 0 cs) (omega arith)) refl

  structs_at : StructsAt y.structs 0 (length C) ss × (orders_from (length ss) 0 y.structs ≡ order_of (length ss) ss)
  unfolding y laid program constant_texts C
  structs_at =
      let n = length_order (length ss) ss in let e = structs_length (length C) ss (order_of (length ss) ss) n in let r = two_words _ x.structs room.structs in
      structs_here ss (order_of (length ss) ss) y.structs [] _ 0 (length C) n (written_front x.structs (structs_laid (length C) ss (order_of (length ss) ss)) (omega arith)) refl

  functions_are : (R : List ℕ) × (y.functions ≡ pack (length C + length S) (length f.name) ∷ pack 0 (length f.code) ∷ (others_laid (length C + length S + length f.name) 0 l ++ R))
  unfolding y laid program constant_texts struct_texts functions_laid C S
  functions_are =
      let n = others_length (length C + length S + length f.name) 0 l in let r = two_words _ x.functions room.functions in
      (_, written_front x.functions (functions_laid (length C + length S) (f ∷ l)) (omega arith))

  main_at_lem : (name_word y.functions 0 ≡ pack (length C + length S) (length f.name)) × (code_word y.functions 0 ≡ pack 0 (length f.code))
  unfolding name_word code_word
  main_at_lem =
      (ap (λ (z : List ℕ). kind_at z 0) functions_are.1 ∙ first_here [] _ _ _ 0 refl, ap (λ (z : List ℕ). payload_at z 0) functions_are.1 ∙ second_here [] _ _ _ 0 refl)

  others_at : FunctionsAt y.functions 1 (length C + length S + length f.name) 0 l
  others_at = functions_here_lem l y.functions (pack (length C + length S) (length f.name) ∷ pack 0 (length f.code) ∷ []) functions_are.0 1 _ 0 functions_are.1 refl

  front_piece : (s z R : List ℕ) → s ≡ z ++ R → text_at s 0 (length z) ≡ z
  unfolding text_at
  front_piece s z R e = rw e (take_front z R)
    where
      take_front : (z R : List ℕ) → take (length z) (z ++ R) ≡ z
      take_front [] R = refl
      take_front (a ∷ z) R = ap (λ (w : List ℕ). a ∷ w) (take_front z R)

  main_code : text_at y.main 0 (length f.code) ≡ f.code
  unfolding y laid main_of function_at program
  main_code = front_piece y.main f.code _ (written_front x.main f.code (one_word _ x.main room.main).0)

  main_places_lem : text_at y.main_places 0 (length f.places) ≡ f.places
  unfolding y laid main_of function_at program Placed
  main_places_lem =
      let r = (one_word _ x.main_places room.main_places).0 in let e = placed.0 in
      front_piece y.main_places f.places _ (written_front x.main_places f.places (omega arith))

  other_codes : Pieces (λ f. f.code) y.other 0 l
  unfolding y laid others_of program
  other_codes = pieces_here (λ f. f.code) l y.other [] _ 0 (written_front x.other (joined (λ f. f.code) l) (one_word _ x.other room.other).0) refl

  other_places_lem : Pieces (λ f. f.places) y.other_places 0 l
  unfolding y laid others_of program Placed
  other_places_lem =
      let r = (one_word _ x.other_places room.other_places).0 in let e = places_sum l placed.1 in
      pieces_here (λ f. f.places) l y.other_places [] _ 0 (written_front x.other_places (joined (λ f. f.places) l) (omega arith)) refl

  sums : (length C + length S + length f.name + length (joined (λ f. f.name) l) ≡ c.text)
  unfolding N joined
  sums = let a = length-append f.name (joined (λ f. f.name) l) in let b = text_sum in omega arith

  code_small : (length f.code < 2 ^ 32) × (length (joined (λ f. f.code) l) < 2 ^ 32)
  unfolding program main_of others_of function_at
  code_small = ((one_word _ x.main room.main).1, (one_word _ x.other room.other).1)

  stands : program_in c y ≡ program cs ss f l
  unfolding program_in functions_from program c counts_for Pieces Placed C S joined
  stands =
      let t = text_small in let u = sums in let v = text_sum in
      same_program (constants_held cs y.constants y.text 0 0 constants_at constant_pieces (let z : 0 + length C < 2 ^ 32 = omega arith in z))
      (structs_held ss y.structs y.text 0 (length C) structs_at.0 struct_pieces (let z : length C + length S < 2 ^ 32 = omega arith in z))
      (function_held f y 0 (length C + length S) 0 y.main y.main_places refl refl main_at_lem name_pieces.0 main_code main_places_lem placed.0 (omega arith) (omega arith))
      (others_held l y 0 (length C + length S + length f.name) 0 others_at name_pieces.1 other_codes other_places_lem placed.1 (omega arith) (let z = code_small.1 in omega arith))
    where
      same_program : {a : List Constant} {b : List (List ℕ)} {g : Function} {m : List Function} → a ≡ cs → b ≡ ss → g ≡ f → m ≡ l
          → record { constants = a; structs = b; functions = g ∷ m } ≡ program cs ss f l
      same_program e1 e2 e3 e4 = rw (e1, e2, e3, e4)

  limits_are : (length cs ≤ 65535) × ((length ss ≤ 65536) × ((suc (length l) ≤ 65536) × (codes_within (f ∷ l) ≡ true)))
  unfolding within_limits program
  limits_are =
      let h3 = both_true _ _ limits in let h2 = both_true _ _ h3.0 in let h1 = both_true _ _ h2.0 in
      (leb-true _ _ h1.0, (leb-true _ _ h1.1, (leb-true _ _ h2.1, h3.1)))

  counts_fine : counts_ok c ≡ true
  unfolding counts_ok c counts_for program
  counts_fine =
      let t = text_small in
      and_both _ _ (and_both _ _ (and_both _ _ (and_both _ _ (and_both _ _ (le-leb _ _ limits_are.0) (le-leb _ _ limits_are.1.0)) (le-leb 1 (suc (length l)) (omega arith)))
      (le-leb _ _ limits_are.1.1.0)) (le-leb _ 0xFFFF_FFFF (let z : length (texts_of (program cs ss f l)) ≤ 0xFFFF_FFFF = omega arith in z))) refl

  -- the stores are as long as they were
  same_places : (places 2 y.constants ≡ places 2 x.constants) × ((places 2 y.structs ≡ places 2 x.structs) × ((places 2 y.functions ≡ places 2 x.functions)
      × ((places 1 y.text ≡ places 1 x.text) × ((places 1 y.main ≡ places 1 x.main) × ((places 1 y.main_places ≡ places 1 x.main_places)
      × ((places 1 y.other ≡ places 1 x.other) × (places 1 y.other_places ≡ places 1 x.other_places)))))))
  unfolding y laid
  same_places = (
    places_same 2 _ x.constants (length_written x.constants 0 _),
    (
      places_same 2 _ x.structs (length_written x.structs 0 _),
      (
        places_same 2 _ x.functions (length_written x.functions 0 _),
        (
          places_same 1 _ x.text (length_written x.text 0 _),
          (
            places_same 1 _ x.main (length_written x.main 0 _),
            (
              places_same 1 _ x.main_places (length_written x.main_places 0 _),
              (places_same 1 _ x.other (length_written x.other 0 _), places_same 1 _ x.other_places (length_written x.other_places 0 _)),
            ),
          ),
        ),
      ),
    ),
  )

  text_fine : text_ok c y.text ≡ true
  unfolding text_ok c counts_for
  text_fine = rw same_places.1.1.1.0 (le-leb _ _ room.text)

  constants_ok_lem : constants_ok c y.constants ≡ true
  unfolding constants_ok c counts_for program C
  constants_ok_lem =
      let t = text_sum in
      let a : leb (length cs) (places 2 y.constants) ≡ true = rw same_places.0 (le-leb _ _ room.constants) in
      and_both _ _ a (constants_fine c cs y.constants 0 0 constants_at (let z : 0 + length C ≤ c.text = omega arith in z) text_small)

  structs_ok_lem : structs_ok c y.structs y.text ≡ true
  unfolding c counts_for program S
  structs_ok_lem =
      let t = text_sum in let u = text_small in
      let e : structs_from (length ss) 0 y.structs y.text ≡ ss = structs_held ss y.structs y.text 0 (length C) structs_at.0 struct_pieces
      (let z : length C + length S < 2 ^ 32 = omega arith in z) in
      structs_good c y.structs y.text (record {
        within = rw same_places.1.0 room.structs;
        inside = λ k g.
            let z : 0 + k ≡ k = omega arith in
            rw z at (structs_fine c ss y.structs 0 (length C) structs_at.0 (let z : length C + length S ≤ c.text = omega arith in z) text_small k g);
        order = standing_of (length ss) y.structs y.text ss e structs_at.1 (different_unlike ss (different ss [] sound.structs.1).0);
      })

  main_fine : (function_ok c y.functions 0 ≡ true) × (code_end y.functions 0 ≡ 0 + length f.code)
  unfolding code_start codes_within
  main_fine =
      let t = sums in let k = (within_parts f l limits_are.1.1.1).0 in let q = code_small.0 in
      function_fine c f y.functions 0 (length C + length S) 0 main_at_lem refl (omega arith) text_small k (omega arith)

  rest_fine : (every_from (length l) 1 (function_ok c y.functions) ≡ true) × (code_start y.functions (1 + length l) ≡ 0 + length (joined (λ f. f.code) l))
  unfolding code_start codes_within
  rest_fine =
      let t = sums in let q = code_small.1 in
      others_fine c l y.functions 0 (length C + length S + length f.name) 0 others_at refl (omega arith) text_small (within_parts f l limits_are.1.1.1).1 (omega arith)

  functions_ok_lem : functions_ok c y.functions ≡ true
  unfolding functions_ok c counts_for program every_from
  functions_ok_lem =
      let a : leb (suc (length l)) (places 2 y.functions) ≡ true = rw same_places.1.1.0 (le-leb _ _ room.functions) in
      and_both _ _ a (and_both _ _ main_fine.0 rest_fine.0)

  main_ok_lem : main_ok y.functions y.text ≡ true
  unfolding main_ok Pieces program main_first Each
  main_ok_lem =
      let t = sums in let u = text_small in
      rw (named y.text (length C + length S) f.name (name_word y.functions 0) main_at_lem.0 (omega arith) name_pieces.0) sound.functions.1.0.main

  codes_ok : (a b : List ℕ) → length f.code ≤ places 1 a → length (joined (λ f. f.code) l) ≤ places 1 b → inside_codes c y.functions a b ≡ true
  unfolding inside_codes main_taken other_taken c counts_for program
  codes_ok a b h g =
      let m : code_end y.functions 0 ≡ length f.code = main_fine.1 ∙ (let z : 0 + length f.code ≡ length f.code = omega arith in z) in
      let o : code_start y.functions (suc (length l)) ≡ length (joined (λ f. f.code) l) =
      ap (code_start y.functions) (let z : suc (length l) ≡ 1 + length l = omega arith in z) ∙ rest_fine.1
      ∙ (let z : 0 + length (joined (λ f. f.code) l) ≡ length (joined (λ f. f.code) l) = omega arith in z) in
      let a' : leb (code_end y.functions 0) (places 1 a) ≡ true = rw m (le-leb _ _ h) in
      let b' : leb (code_start y.functions (suc (length l))) (places 1 b) ≡ true = rw o (le-leb _ _ g) in
      and_both _ _ a' b'

  in_order : program_ok c y ≡ true
  unfolding program_ok main_of others_of function_at program
  in_order =
      and_both _ _ (and_both _ _ (and_both _ _ (and_both _ _ (and_both _ _ (and_both _ _ (and_both _ _ counts_fine text_fine) constants_ok_lem) structs_ok_lem) functions_ok_lem) main_ok_lem)
      (codes_ok y.main y.other (rw same_places.1.1.1.1.0 room.main) (rw same_places.1.1.1.1.1.1.0 room.other)))
      (codes_ok y.main_places y.other_places (rw same_places.1.1.1.1.1.0 room.main_places) (rw same_places.1.1.1.1.1.1.1 room.other_places))

laid_one : (cs : List Constant) (ss : List (List ℕ)) (f : Function) (l : List Function) (x : Stores) {q : Program} → record { constants = cs; structs = ss; functions = f ∷ l } ≡ q
    → Sound q → within_limits q ≡ true → room_for q x ≡ true → (program_ok (counts_for q) (laid q x) ≡ true) × (program_in (counts_for q) (laid q x) ≡ q)
unfolding program c y
laid_one cs ss f l x {q} e = subst
    (λ (v : Program). Sound v → within_limits v ≡ true → room_for v x ≡ true → (program_ok (counts_for v) (laid v x) ≡ true) × (program_in (counts_for v) (laid v x) ≡ v)) e
    (λ s h r. (in_order cs ss f l x s h r, stands cs ss f l x s h r))

-- a sound program within the limits, loaded where there is room, is in good order and stands for itself
pub laid_again : (p : Program) (x : Stores) → Sound p → within_limits p ≡ true → room_for p x ≡ true → (program_ok (counts_for p) (laid p x) ≡ true) × (program_in (counts_for p) (laid p x) ≡ p)
laid_again p x s h r = by p.constants p.structs p.functions refl s h r
  where
    by : (cs : List Constant) (ss : List (List ℕ)) (fs : List Function) → {q : Program} → record { constants = cs; structs = ss; functions = fs } ≡ q → Sound q
        → within_limits q ≡ true → room_for q x ≡ true
        → (program_ok (counts_for q) (laid q x) ≡ true) × (program_in (counts_for q) (laid q x) ≡ q)
    by cs ss [] {q} e s h r = absurd (let z : 0 < length q.functions = s.functions.0.1 in let k : q.functions ≡ [] = ap (λ (v : Program). v.functions)
        (sym e) in let j = ap length k in let w : ⊥ = omega arith in w)
    by cs ss (f ∷ l) {q} e s h r = laid_one cs ss f l x e s h r
