-- The readers of texts and constants.
use Rattle.std.specs.Int.{w64, from_le_bytes}
use mathlib.Core.Path.{◌≡◌, refl, sym, ap, subst, ◌∙◌}
use mathlib.Core.Bool.{not}
use mathlib.Core.List.{List, [], ◌∷◌}
use Prim.Native.Nat.{ℕ, zero, suc, ◌+◌, ◌-◌, ◌*◌, ◌<◌, ◌≤◌, ◌^◌}
use native.Mathlib.Omega.{arith}
use native.Mathlib.Numerals.{add-one}
use lib.Dec.{leb, eqb}
use lib.ListN.{length, take, drop, get_or, length-drop, drop_of_length-le}
use lib.Seq.{drop-cons, drop-drop, length-take-le}
use borrow.Author.Tests.{le-ltb, le-leb, lt-leb}
use Rattle.model.specs.Numbers.{Step, got, bad, and_then, item, checked, number}
use Rattle.model.specs.Values.{bit}
use Rattle.model.specs.Programs.{Constant, scalar}
use Rattle.model.specs.Images.{takes, read_text, word_of, read_flag, read_kind, read_body, read_constant}
use Rattle.model.specs.Stores.{pack}
use Rattle.model.specs.Loading.{constant_text, constant_words}
use Rattle.number.specs.Links.{NumPost}
use Rattle.image_judge.specs.Links.{Good, Bad, part_of, TextAt, TextIs, TextPost, constant_of, constant_at, payload_at, EntryAt, ItemIs, ItemPost}
use Rattle.image_judge.specs.declared.Entry.{Entry}
use Rattle.image_judge.proofs.Near.{number_near}
use Rattle.image_judge.proofs.Reading.{no_number_lem, a_number, bad_item, good_item, bad_test, bad_tested, good_test, bad_first, bad_second, good_both, good_made}
use Rattle.std.specs.Prelude.{Err, None, Ok, Option, Result, Some}
use Rattle.image_judge.specs.declared.Broken.{Broken}
use Rattle.image_judge.specs.declared.Broken.TheVariants.{At}

-- ---- parts

pub part_length : (s : List ℕ) (i n : ℕ) → i + n ≤ length s → length (part_of s i n) ≡ n
unfolding part_of
part_length s i n h = length-take-le n (drop i s) (let z = length-drop i s in omega arith)

-- a slice of the image
pub part_slice : (s : List ℕ) (i n : ℕ) → take (i + n - i) (drop i s) ≡ part_of s i n
unfolding part_of
part_slice s i n = let z : i + n - i ≡ n = omega arith in rw z

pub part_read : (s : List ℕ) (at n : ℕ) → at ≤ length s → n ≤ length s - at → Good (takes n) s at (at + n) (part_of s at n)
unfolding takes part_of
part_read s at n h l =
    let g : n ≤ length (drop at s) = rw length-drop l in
    record { means = rw (le-leb n (length (drop at s)) g, drop-drop n at s); ahead = omega arith; within = omega arith }

pub part_short : (s : List ℕ) (at n : ℕ) → at ≤ length s → length s - at < n → Bad (takes n) s at at
unfolding takes
part_short s at n h l =
    let g : length (drop at s) < n = rw length-drop l in
    record { means = rw (lt-leb n (length (drop at s)) g) (ap bad (length-drop at s)); ahead = omega arith; within = h }

-- ---- texts

pub text_is : (s : List ℕ) (at : ℕ) (r : Option (ℕ × ℕ)) → TextPost s at r → (i n : ℕ) → r ≡ Some (i, n) → TextAt s at i n
text_is s at r p i n e = subst (TextIs s at) e p.is

pub text_not : (s : List ℕ) (at : ℕ) (r : Option (ℕ × ℕ)) → TextPost s at r → r ≡ None → Bad read_text s at at
text_not s at r p e = subst (TextIs s at) e p.is

pub text_end : (s : List ℕ) (at : ℕ) (r : Option (ℕ × ℕ)) → TextPost s at r → (i n : ℕ) → r ≡ Some (i, n) → i + n ≤ length s
text_end s at r p i n e = (text_is s at r p i n e).good.within

module _ (s : List ℕ) (at : ℕ) (pre : at ≤ length s) (r : Option (ℕ × ℕ)) (p : NumPost s at r) where
  pub text_none : r ≡ None → TextPost s at None
  unfolding read_text
  text_none e = record { is = bad_item (bad_first takes (no_number_lem s at r p pre e)) }

  module _ (v start len : ℕ) (e : r ≡ Some (v, start)) (w : (len ≡ v) × (len < 4294967296)) where
    g : Good number s at start len
    g = subst (Good number s at start) (sym w.0) (a_number s at r p v start e)

    pub text_starts : start ≤ length s
    text_starts = g.within

    pub text_short : length s - start < len → TextPost s at None
    unfolding read_text item and_then
    text_short l = record {
      is =
          let b = part_short s start len g.within l in
          record { means = rw (g.means, b.means) (ap bad (length-drop at s)); ahead = omega arith; within = pre };
    }

    pub text_read : len ≤ length s - start → TextPost s at (Some (start, len))
    unfolding read_text
    text_read l = record {
      is = record {
        good = good_item (good_both takes g (part_read s start len g.within l));
        ahead = g.ahead;
        near = number_near s at start len g;
        small = w.1;
      };
    }

-- ---- eight bytes

word_from : (s : List ℕ) (i : ℕ) → word_of (drop i s) ≡ get_or s i 0 + 256 * word_of (drop (suc i) s)
unfolding word_of
word_from [] zero = refl
word_from [] (suc i) = refl
word_from (x ∷ s) zero = refl
word_from (x ∷ s) (suc i) = word_from s i

pub word_read : (b : List ℕ) → length b ≡ 8 → from_le_bytes w64 b ≡ word_of b
unfolding word_of
word_read b e =
    let z : word_of (drop 8 b) ≡ 0 = rw (drop_of_length-le b {i = 8} (omega arith)) in
    omega (arith, word_from b 0, word_from b 1, word_from b 2, word_from b 3, word_from b 4, word_from b 5, word_from b 6, word_from b 7)

-- ---- constants

pub entry_is : (dec : List ℕ → Step Constant) (s : List ℕ) (at : ℕ) (r : Result Entry Broken) → ItemPost dec s at r → (p : Entry) → r ≡ Ok p → EntryAt dec s at p
entry_is dec s at r h p q = subst (ItemIs dec s at) q h.is

pub entry_not : (dec : List ℕ → Step Constant) (s : List ℕ) (at : ℕ) (r : Result Entry Broken) → ItemPost dec s at r → (o : ℕ) → r ≡ Err (At o) → Bad dec s at o
entry_not dec s at r h o q = subst (ItemIs dec s at) q h.is

module _ (s : List ℕ) (at : ℕ) (pre : at ≤ length s) where
  pub scalar_short : length s - at < 8 → ItemPost (read_body 0) s at (Err (At at))
  unfolding read_body
  scalar_short l = record { is = bad_first (λ l r. got (scalar (word_of l)) r) (part_short s at 8 pre l) }

  pub scalar_read : 8 ≤ length s - at → (w : ℕ) → w ≡ word_of (part_of s at 8) → ItemPost (read_body 0) s at (Ok (record { kind = 0; word = w; from = at; len = 0; next = at + 8 }))
  unfolding read_body constant_at constant_of constant_text constant_words payload_at part_of
  scalar_read l w q = record {
    is = record {
      good = subst (λ (k : ℕ). Good (λ b. and_then (takes 8 b) (λ l r. got (scalar (word_of l)) r)) s at (at + 8) (scalar k)) (sym q) (good_made (λ l. scalar (word_of l)) (part_read s at 8 pre l));
      text = refl;
      words = λ o. refl;
      inside = omega arith;
      small = let z : 0 < 2 ^ 32 = omega arith in z;
      room = omega arith;
    };
  }

  pub flag_none : length s ≤ at → ItemPost (read_body 1) s at (Err (At at))
  unfolding read_body read_flag and_then
  flag_none l = record { is = record { means = rw (drop_of_length-le s l) (ap bad (let z : 0 ≡ length s - at = omega arith in z)); ahead = omega arith; within = pre } }

  module _ (l : at < length s) (x : ℕ) (q : x ≡ get_or s at 0) where
    here : drop at s ≡ x ∷ drop (at + 1) s
    here = rw (add-one, q) (drop-cons s at 0 l)

    flag_two : (y : ℕ) (r : List ℕ) → 1 < y → read_flag (y ∷ r) ≡ bad (suc (length r))
    unfolding read_flag
    flag_two zero r h = absurd (let w : ⊥ = omega arith in w)
    flag_two (suc zero) r h = absurd (let w : ⊥ = omega arith in w)
    flag_two (suc (suc y)) r h = refl

    flag_one : (y : ℕ) (r : List ℕ) → y ≤ 1 → read_flag (y ∷ r) ≡ got (not (eqb y 0)) r
    unfolding read_flag
    flag_one zero r h = refl
    flag_one (suc zero) r h = refl
    flag_one (suc (suc y)) r h = absurd (let w : ⊥ = omega arith in w)

    flag_words : (y : ℕ) → y ≤ 1 → bit (not (eqb y 0)) ≡ y
    flag_words zero h = refl
    flag_words (suc zero) h = refl
    flag_words (suc (suc y)) h = absurd (let w : ⊥ = omega arith in w)

    pub flag_bad : 1 < x → ItemPost (read_body 1) s at (Err (At at))
    unfolding read_body and_then
    flag_bad h = record {
      is = record {
        means = rw (here, flag_two x (drop (at + 1) s) h) (ap bad (let z = length-drop (at + 1) s in let y : suc (length (drop (at + 1) s)) ≡ length s - at = omega arith in y));
        ahead = omega arith;
        within = pre;
      };
    }

    pub flag_read : x ≤ 1 → ItemPost (read_body 1) s at (Ok (record { kind = 1; word = x; from = at; len = 0; next = at + 1 }))
    unfolding read_body and_then constant_at constant_of constant_text constant_words payload_at part_of
    flag_read h = record {
      is = record {
        good = record { means = rw (here, flag_one x (drop (at + 1) s) h); ahead = omega arith; within = omega arith };
        text = refl;
        words = λ o. ap (λ (y : ℕ). 1 ∷ y ∷ []) (flag_words x h);
        inside = omega arith;
        small = let z : 0 < 2 ^ 32 = omega arith in z;
        room = omega arith;
      };
    }

  module _ (r : Option (ℕ × ℕ)) (p : TextPost s at r) (k : ℕ) (two : 1 < k) (four : k < 4) where
    body : (j : ℕ) → 1 < j → j < 4 → (b : List ℕ) → read_body j b ≡ and_then (read_text b) (λ t q. got (constant_of j 0 t) q)
    unfolding read_body constant_of
    body zero x y b = absurd (let w : ⊥ = omega arith in w)
    body (suc zero) x y b = absurd (let w : ⊥ = omega arith in w)
    body (suc (suc zero)) x y b = refl
    body (suc (suc (suc j))) x y b = refl

    has_text_lem : (j : ℕ) → 1 < j → (t : List ℕ) → constant_text (constant_of j 0 t) ≡ t
    unfolding constant_text constant_of
    has_text_lem zero x t = absurd (let w : ⊥ = omega arith in w)
    has_text_lem (suc zero) x t = absurd (let w : ⊥ = omega arith in w)
    has_text_lem (suc (suc zero)) x t = refl
    has_text_lem (suc (suc (suc j))) x t = refl

    has_words : (j : ℕ) → 1 < j → j < 4 → (o : ℕ) (t : List ℕ) → constant_words o (constant_of j 0 t) ≡ j ∷ pack o (length t) ∷ []
    unfolding constant_words constant_of
    has_words zero x y o t = absurd (let w : ⊥ = omega arith in w)
    has_words (suc zero) x y o t = absurd (let w : ⊥ = omega arith in w)
    has_words (suc (suc zero)) x y o t = refl
    has_words (suc (suc (suc j))) x y o t = ap (λ (z : ℕ). z ∷ pack o (length t) ∷ []) (let z : 3 ≡ suc (suc (suc j)) = omega arith in z)

    pub letters_none : r ≡ None → ItemPost (read_body k) s at (Err (At at))
    unfolding and_then
    letters_none q = record {
      is =
          let b = text_not s at r p q in
          record { means = body k two four (drop at s) ∙ rw b.means; ahead = b.ahead; within = b.within };
    }

    pub letters_read : (i n : ℕ) → r ≡ Some (i, n) → ItemPost (read_body k) s at (Ok (record { kind = k; word = 0; from = i; len = n; next = i + n }))
    unfolding and_then constant_at payload_at
    letters_read i n q =
        let g = text_is s at r p i n q in let a = g.ahead in
        record {
          is = record {
            good = record { means = body k two four (drop at s) ∙ rw g.good.means; ahead = g.good.ahead; within = g.good.within };
            text = has_text_lem k two (part_of s i n);
            words = λ o. has_words k two four o (part_of s i n) ∙ rw (le-ltb k 2 two, part_length s i n g.good.within);
            inside = g.good.within;
            small = g.small;
            room = omega arith;
          };
        }

  -- a kind, and a body
  module _ (r : Option (ℕ × ℕ)) (p : NumPost s at r) where
    pub constant_none : r ≡ None → ItemPost (read_constant tt) s at (Err (At at))
    unfolding read_constant read_kind
    constant_none q = record { is = bad_first read_body (bad_tested (λ k. leb k 3) (no_number_lem s at r p pre q)) }

    module _ (k next : ℕ) (q : r ≡ Some (k, next)) where
      pub constant_next : next ≤ length s
      constant_next = (a_number s at r p k next q).within

      pub constant_kind : 3 < k → ItemPost (read_constant tt) s at (Err (At at))
      unfolding read_constant read_kind
      constant_kind h = record { is = bad_first read_body (bad_test (λ k. leb k 3) (a_number s at r p k next q) (lt-leb k 3 h)) }

      pub constant_read : k ≤ 3 → (j : ℕ) → k ≡ j → (o : Result Entry Broken) → ItemPost (read_body j) s next o → ItemPost (read_constant tt) s at o
      unfolding read_constant read_kind
      constant_read h j ej o w = record { is = by o (subst (λ (z : ℕ). ItemIs (read_body z) s next o) (sym ej) w.is) }
        where
          first : Good (λ b. item b (checked (λ k. leb k 3) (number b))) s at next k
          first = good_test (λ k. leb k 3) (a_number s at r p k next q) (le-leb k 3 h)

          by : (o : Result Entry Broken) → ItemIs (read_body k) s next o → ItemIs (read_constant tt) s at o
          by (Ok y) g = let a = first.ahead in let b = g.room in record {
            good = good_both read_body first g.good;
            text = g.text;
            words = g.words;
            inside = g.inside;
            small = g.small;
            room = omega arith;
          }
          by (Err (At y)) g = bad_second read_body first g

-- a kind that is neither 0 nor 1
pub two_left : (k : ℕ) → (k ≡ 0 → ⊥) → (k ≡ 1 → ⊥) → k ≤ 3 → (1 < k) × (k < 4)
two_left zero a b h = absurd (a refl)
two_left (suc zero) a b h = absurd (b refl)
two_left (suc (suc k)) a b h = (omega arith, omega arith)
