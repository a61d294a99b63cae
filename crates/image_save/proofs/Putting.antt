-- The writing of an image, piece behind piece.
use Rattle.std.specs.Int.{w64, to_le_bytes, bytes_low_first}
use Rattle.std.specs.List.{position, position_or_len}
use Rattle.std.specs.Option.{unwrap_or}
use Rattle.std.proofs.Common.{Option}
use Rattle.std.proofs.lemmas.List.{get_or-take, get_or-drop}
use Rattle.std.proofs.lemmas.List.Sums.{prefix_len-le-length, fails_before_first, passes_at_first}
use mathlib.Core.Bool.{Bool, not}
use mathlib.Core.Path.{◌≡◌, refl, sym, ap, subst, ◌∙◌}
use mathlib.Core.List.{List, [], ◌∷◌, ◌++◌, append_assoc, append-nil}
use Prim.Native.Nat.{ℕ, zero, suc, ◌+◌, ◌-◌, ◌/◌, ◌%◌, ◌<◌, ◌≤◌, ◌^◌}
use native.Mathlib.Omega.{arith}
use native.Mathlib.Numerals.{add-one}
use native.Mathlib.Nat.{pos_of_ne-zero, pow-suc, div-div-eq-div-mul}
use lib.Dec.{eqb, ltb}
use lib.ListN.{length, get_or, take, drop, length-append, length-drop}
use lib.Seq.{take_at, length-take-le}
use borrow.Author.Tests.{ltb-false, eqb-true, eqb-false, not-true, not-false}
use Rattle.model.specs.Numbers.{digits, groups_of}
use Rattle.model.specs.Values.{kind_at, payload_at}
use Rattle.model.specs.Programs.{Constant}
use Rattle.model.specs.Images.{joined, counted, bytes_of, text_image, constant_image}
use Rattle.model.specs.Stores.{part, struct_word, constant_in, constants_from, structs_from}
use Rattle.model.specs.Emission.{written}
use Rattle.number.specs.Links.{WritePost}
use Rattle.image_save.specs.Puts.{Put, Near, TextPuts, Known, ConstantPuts, ConstantsPut, StructsPut, SameRun}
use Rattle.layout.proofs.Bools.{either_way}
use Rattle.layout.proofs.Writing.{length_written}
use Rattle.laws_images.proofs.Written.{written_none, written_past, written_first, more_written, kept_length}
use Rattle.laws_images.proofs.Held.{written_front}

-- ---- one piece

pub put_is : (l out out' : List ℕ) (at next : ℕ) → next ≡ at + length l → out' ≡ written out at l → Put l out at out' next
put_is l out out' at next e f = record { next = e; kept = ap length f ∙ length_written out at l; stored = f }

pub put_then : (x y out out₁ out₂ : List ℕ) (at mid next : ℕ) → Put x out at out₁ mid → Put y out₁ mid out₂ next → Put (x ++ y) out at out₂ next
put_then x y out out₁ out₂ at mid next p q =
    let a = p.next in let b = q.next in let l = length-append x y in
    record { next = omega arith; kept = q.kept ∙ p.kept; stored = more_written out out₁ out₂ at mid x y p.stored a q.stored }

pub put_as : (x y out out' : List ℕ) (at next : ℕ) → x ≡ y → Put x out at out' next → Put y out at out' next
put_as x y out out' at next e p = subst (λ (z : List ℕ). Put z out at out' next) e p

near_front : (at : ℕ) (l x y : List ℕ) → l ≡ x ++ y → Near at l → Near at x
unfolding Near
near_front at l x y e h = let a = ap length e ∙ length-append x y in omega arith

near_back : (at : ℕ) (l x y : List ℕ) (mid : ℕ) → l ≡ x ++ y → mid ≡ at + length x → Near at l → Near mid y
unfolding Near
near_back at l x y mid e m h = let a = ap length e ∙ length-append x y in omega arith

pub near_fits : (at : ℕ) (l : List ℕ) → Near at l → at + length l < 2 ^ 62
unfolding Near
near_fits at l h = h

-- two pieces
pub record Split (l x y : List ℕ) : Type 0 where
  pub split : l ≡ x ++ y

module _ (l x y : List ℕ) (at : ℕ) (s : Split l x y) (h : Near at l) where
  pub front : Near at x
  front = near_front at l x y s.split h

  pub back : (out out₁ : List ℕ) (mid : ℕ) → Put x out at out₁ mid → Near mid y
  back out out₁ mid p = near_back at l x y mid s.split p.next h

  pub both : (out out₁ : List ℕ) (mid : ℕ) → Put x out at out₁ mid → (out₂ : List ℕ) (next : ℕ) → Put y out₁ mid out₂ next → Put l out at out₂ next
  both out out₁ mid p out₂ next q = put_as (x ++ y) l out out₂ at next (sym s.split) (put_then x y out out₁ out₂ at mid next p q)

-- ---- a loop: what was put, and the rest

pub record Putting (l out₀ : List ℕ) (at₀ : ℕ) (out : List ℕ) (at : ℕ) (rest : List ℕ) : Type 0 where
  pub done : List ℕ
  pub whole : l ≡ done ++ rest
  pub put : Put done out₀ at₀ out at

pub putting_start : (l out : List ℕ) (at : ℕ) → Putting l out at out at l
putting_start l out at = record { done = []; whole = refl; put = put_is [] out out at at (omega arith) (written_none out at) }

module _ (l out₀ : List ℕ) (at₀ : ℕ) (out : List ℕ) (at : ℕ) (rest : List ℕ) (p : Putting l out₀ at₀ out at rest) where
  pub putting_near : Near at₀ l → Near at rest
  putting_near h = near_back at₀ l p.done rest at p.whole p.put.next h

  pub putting_step : (x y : List ℕ) → rest ≡ x ++ y → (out' : List ℕ) (at' : ℕ) → Put x out at out' at' → Putting l out₀ at₀ out' at' y
  putting_step x y e out' at' q = record {
    done = p.done ++ x;
    whole = p.whole ∙ ap (λ (z : List ℕ). p.done ++ z) e ∙ sym (append_assoc p.done x y);
    put = put_then p.done x out₀ out out' at₀ at at' p.put q;
  }

  pub putting_end : rest ≡ [] → Put l out₀ at₀ out at
  putting_end e = put_as p.done l out₀ out at₀ at (sym (p.whole ∙ ap (λ (z : List ℕ). p.done ++ z) e ∙ append-nil p.done)) p.put

-- ---- numbers, bytes, texts

groups_most : (f v : ℕ) → length (groups_of f v) ≤ suc f
unfolding groups_of
groups_most zero v = omega arith
groups_most (suc f) v = either_way (ltb v 128) (λ t. rw t (let z : 1 ≤ suc (suc f) = omega arith in z))
    (λ t. rw t (let z = groups_most f (v / 128) in let y : suc (length (groups_of f (v / 128))) ≤ suc (suc f) = omega arith in y))

pub digits_most : (v : ℕ) → length (digits v) ≤ 5
unfolding digits
digits_most v = groups_most 4 v

-- a number, by way of five bytes
module _ (v : ℕ) {five bytes : List ℕ} {k : ℕ} (n : length five ≡ 5) (w : WritePost (digits v) five 0 bytes k) where
  pub number_inside : k ≤ length bytes
  number_inside = let a = digits_most v in let b = w.next in let z = kept_length bytes five 0 (digits v) w.stored in omega arith

  pub number_bytes : take k bytes ≡ digits v
  number_bytes =
      let a = digits_most v in
      let b : length (digits v) ≡ k = let z = w.next in omega arith in
      let fits : length (digits v) ≤ length five = omega arith in
      rw (w.stored, written_front five (digits v) fits) (take_at (digits v) _ k b)

  pub number_length : k ≡ length (take k bytes)
  number_length = sym (length-take-le k bytes number_inside)

  pub number_near : (at : ℕ) → Near at (digits v) → Near at (take k bytes)
  number_near at h = rw number_bytes h

  pub number_put : {out : List ℕ} {at : ℕ} {out' : List ℕ} {r : ℕ} → Put (take k bytes) out at out' r → Put (digits v) out at out' r
  number_put p = rw number_bytes at p

pub part_put : (out out' bytes : List ℕ) (at : ℕ) → out' ≡ written out at bytes → Put bytes out at out' (at + length bytes)
part_put out out' bytes at e = put_is bytes out out' at (at + length bytes) refl e

-- as much of it as there is room for
module _ (out bytes : List ℕ) (at : ℕ) (more : length out < at + length bytes) (some : at < length out) where
  pub cut_length : length out - at ≡ length (take (length out - at) bytes)
  cut_length = sym (length-take-le (length out - at) bytes (omega arith))

  pub cut_fits : at + length (take (length out - at) bytes) ≤ length out
  cut_fits = let z = cut_length in omega arith

  pub part_cut : {out' : List ℕ} → out' ≡ written out at (take (length out - at) bytes) → Put bytes out at out' (at + length bytes)
  part_cut e = part_put out _ bytes at (e ∙ written_first (length out - at) out at bytes (omega arith))

pub part_past : (out bytes : List ℕ) (at : ℕ) → length out ≤ at → Put bytes out at out (at + length bytes)
part_past out bytes at h = part_put out out bytes at (written_past out at bytes h)

pub text_split : (t : List ℕ) → Split (text_image t) (digits (length t)) t
unfolding text_image
text_split t = record { split = refl }

-- ---- eight bytes

bytes_from : (i k w : ℕ) → bytes_low_first (suc i) k w ≡ bytes_of k (w / 256 ^ suc i)
unfolding bytes_of
bytes_from i zero w = refl
bytes_from i (suc k) w =
    let z : w / 256 ^ suc (suc i) ≡ w / 256 ^ suc i / 256 = ap (λ (d : ℕ). w / d) (pow-suc 256 (suc i)) ∙ sym (div-div-eq-div-mul w (256 ^ suc i) 256) in
    ap (λ (l : List ℕ). w / 256 ^ suc i % 256 ∷ l) (bytes_from (suc i) k w ∙ ap (bytes_of k) z)

pub word_bytes : (w : ℕ) → to_le_bytes w64 w ≡ bytes_of 8 w
unfolding bytes_of
word_bytes w = ap (λ (l : List ℕ). w % 256 ∷ l) (bytes_from 0 7 w)

-- there are eight of them, whatever the word is
pub word_near : (at w x : ℕ) (l : List ℕ) → l ≡ to_le_bytes w64 x → Near at (bytes_of 8 w) → Near at l
unfolding Near bytes_of
word_near at w x l e h = let a = ap length (e ∙ word_bytes x) in omega arith

-- ---- constants

-- a kind and a body
scalar_split : (t : List ℕ) (a : ℕ) → Split (constant_image (constant_in t 0 a)) (digits 0) (bytes_of 8 a)
unfolding constant_image constant_in digits groups_of
scalar_split t a = record { split = refl }

flag_split : (t : List ℕ) (a : ℕ) → a < 2 → Split (constant_image (constant_in t 1 a)) (digits 1) (digits a)
unfolding constant_image constant_in digits groups_of
flag_split t zero h = record { split = refl }
flag_split t (suc zero) h = record { split = refl }
flag_split t (suc (suc a)) h = absurd (let w : ⊥ = omega arith in w)

letters_split : (t : List ℕ) (k a : ℕ) → 1 < k → k ≤ 3 → Split (constant_image (constant_in t k a)) (digits k) (text_image (part t a))
unfolding constant_image constant_in digits groups_of
letters_split t zero a l h = absurd (let w : ⊥ = omega arith in w)
letters_split t (suc zero) a l h = absurd (let w : ⊥ = omega arith in w)
letters_split t (suc (suc zero)) a l h = record { split = refl }
letters_split t (suc (suc (suc zero))) a l h = record { split = refl }
letters_split t (suc (suc (suc (suc k)))) a l h = absurd (let w : ⊥ = omega arith in w)

-- the body, by the kind
body : List ℕ → ℕ → ℕ → List ℕ
body t zero a = bytes_of 8 a
body t (suc zero) a = digits a
body t (suc (suc k)) a = text_image (part t a)

kind_split : (t : List ℕ) (k a : ℕ) → Known t k a → Split (constant_image (constant_in t k a)) (digits k) (body t k a)
unfolding body
kind_split t zero a h = scalar_split t a
kind_split t (suc zero) a h = flag_split t a (h.flag refl)
kind_split t (suc (suc k)) a h = letters_split t (suc (suc k)) a (omega arith) h.kind

module _ (at : ℕ) (t : List ℕ) (k a : ℕ) (c : ConstantPuts at t k a) where
  pub kind_near : Near at (digits k)
  kind_near = front _ _ _ at (kind_split t k a c.known) c.near

  module _ (out out₁ : List ℕ) (mid : ℕ) (p : Put (digits k) out at out₁ mid) where
    body_near : (j : ℕ) → k ≡ j → Near mid (body t j a)
    body_near j e = subst (λ (z : ℕ). Near mid (body t z a)) e (back _ _ _ at (kind_split t k a c.known) c.near out out₁ mid p)

    whole : (j : ℕ) → k ≡ j → (out₂ : List ℕ) (next : ℕ) → Put (body t j a) out₁ mid out₂ next → Put (constant_image (constant_in t k a)) out at out₂ next
    whole j e out₂ next q = both _ _ _ at (kind_split t k a c.known) c.near out out₁ mid p out₂ next (subst (λ (z : ℕ). Put (body t z a) out₁ mid out₂ next) (sym e) q)

    pub scalar_near : k ≡ 0 → Near mid (bytes_of 8 a)
    unfolding body
    scalar_near e = body_near 0 e

    pub scalar_put : k ≡ 0 → (out₂ : List ℕ) (next : ℕ) → Put (bytes_of 8 a) out₁ mid out₂ next → Put (constant_image (constant_in t k a)) out at out₂ next
    unfolding body
    scalar_put e out₂ next q = whole 0 e out₂ next q

    pub flag_near : k ≡ 1 → Near mid (digits a)
    unfolding body
    flag_near e = body_near 1 e

    pub flag_put : k ≡ 1 → (out₂ : List ℕ) (next : ℕ) → Put (digits a) out₁ mid out₂ next → Put (constant_image (constant_in t k a)) out at out₂ next
    unfolding body
    flag_put e out₂ next q = whole 1 e out₂ next q

    letters : (j : ℕ) → (j ≡ 0 → ⊥) → (j ≡ 1 → ⊥) → (body t j a ≡ text_image (part t a)) × (1 < j)
    unfolding body
    letters zero x y = absurd (x refl)
    letters (suc zero) x y = absurd (y refl)
    letters (suc (suc j)) x y = (refl, omega arith)

    pub letters_near : (k ≡ 0 → ⊥) → (k ≡ 1 → ⊥) → (bytes : List ℕ) → bytes ≡ part t a → TextPuts mid bytes
    letters_near x y bytes e = subst (TextPuts mid) (sym e) (record {
      small = c.known.small (letters k x y).1;
      near = subst (Near mid) (letters k x y).0 (body_near k refl);
    })

    pub letters_put : (k ≡ 0 → ⊥) → (k ≡ 1 → ⊥) → (bytes : List ℕ) → bytes ≡ part t a → (out₂ : List ℕ) (next : ℕ) → Put (text_image bytes) out₁ mid out₂ next
        → Put (constant_image (constant_in t k a)) out at out₂ next
    letters_put x y bytes e out₂ next q = whole k refl out₂ next (put_as _ _ out₁ out₂ mid next (ap text_image e ∙ sym (letters k x y).0) q)

-- ---- a count, and each

-- a series of n from i on: the first, and the others
module _ {A : Type 0} (image : A → List ℕ) (from : ℕ → ℕ → List A) (at_i : ℕ → A)
    (opens : (k j : ℕ) → from (suc k) j ≡ at_i j ∷ from k (suc j)) (shuts : (j : ℕ) → from 0 j ≡ []) (n : ℕ) where
  from_length : (k j : ℕ) → length (from k j) ≡ k
  from_length zero j = ap length (shuts j)
  from_length (suc k) j = ap length (opens k j) ∙ ap suc (from_length k (suc j))

  pub count_split : Split (counted image (from n 0)) (digits n) (joined image (from (n - 0) 0))
  unfolding counted
  count_split = record { split = ap (λ (z : ℕ). digits z ++ joined image (from n 0)) (from_length n 0) ∙ ap (λ (k : ℕ). digits n ++ joined image (from k 0)) (let z : n ≡ n - 0 = omega arith in z) }

  pub one_split : (j : ℕ) → j < n → Split (joined image (from (n - j) j)) (image (at_i j)) (joined image (from (n - (j + 1)) (j + 1)))
  unfolding joined
  one_split j l =
      let z : n - j ≡ suc (n - (j + 1)) = omega arith in
      record { split = ap (λ (k : ℕ). joined image (from k j)) z ∙ ap (joined image) (opens (n - (j + 1)) j) ∙ ap (λ (k : ℕ). image (at_i j) ++ joined image (from (n - (j + 1)) k)) (sym (add-one j)) }

  -- a loop over those from b on
  module _ (b : ℕ) (out₀ : List ℕ) (at₀ : ℕ) (h : Near at₀ (joined image (from (n - b) b))) (out : List ℕ) (at j : ℕ)
      (p : Putting (joined image (from (n - b) b)) out₀ at₀ out at (joined image (from (n - j) j))) where
    pub each_near : j < n → Near at (image (at_i j))
    each_near l = front _ _ _ at (one_split j l) (putting_near _ out₀ at₀ out at _ p h)

    pub each_step : j < n → (out' : List ℕ) (at' : ℕ) → Put (image (at_i j)) out at out' at' → Putting (joined image (from (n - b) b)) out₀ at₀ out' at' (joined image (from (n - (j + 1)) (j + 1)))
    each_step l out' at' q = putting_step _ out₀ at₀ out at _ p (image (at_i j)) _ (one_split j l).split out' at' q

    pub each_end : n ≤ j → Put (joined image (from (n - b) b)) out₀ at₀ out at
    unfolding joined
    each_end l = let z : n - j ≡ 0 = omega arith in putting_end _ out₀ at₀ out at _ p (ap (λ (k : ℕ). joined image (from k j)) z ∙ ap (joined image) (shuts j))

pub constants_open : (cs t : List ℕ) (k j : ℕ) → constants_from (suc k) j cs t ≡ constant_in t (kind_at cs j) (payload_at cs j) ∷ constants_from k (suc j) cs t
unfolding constants_from
constants_open cs t k j = refl

pub constants_shut : (cs t : List ℕ) (j : ℕ) → constants_from 0 j cs t ≡ []
unfolding constants_from
constants_shut cs t j = refl

pub structs_open : (ss t : List ℕ) (k j : ℕ) → structs_from (suc k) j ss t ≡ part t (struct_word ss j) ∷ structs_from k (suc j) ss t
unfolding structs_from
structs_open ss t k j = refl

pub structs_shut : (ss t : List ℕ) (j : ℕ) → structs_from 0 j ss t ≡ []
unfolding structs_from
structs_shut ss t j = refl

-- at the head of `put_constants`' loop
abbrev pub PuttingConstants : ℕ → List ℕ → List ℕ → List ℕ → ℕ → List ℕ → ℕ → ℕ → Type 0
PuttingConstants k cs t out₁ at₁ out at j = Putting (joined constant_image (constants_from (k - 0) 0 cs t)) out₁ at₁ out at (joined constant_image (constants_from (k - j) j cs t))

module _ (at₀ k : ℕ) (cs t : List ℕ) (c : ConstantsPut at₀ k cs t) where
  abbrev constants_all : ℕ → ℕ → List Constant
  constants_all a b = constants_from a b cs t

  abbrev constants_one : ℕ → Constant
  constants_one j = constant_in t (kind_at cs j) (payload_at cs j)

  constants_count : Split (counted constant_image (constants_from k 0 cs t)) (digits k) (joined constant_image (constants_from (k - 0) 0 cs t))
  constants_count = count_split constant_image constants_all constants_one (constants_open cs t) (constants_shut cs t) k

  pub constants_near : Near at₀ (digits k)
  constants_near = front _ _ _ at₀ constants_count c.near

  module _ (out₀ out₁ : List ℕ) (at₁ : ℕ) (q : Put (digits k) out₀ at₀ out₁ at₁) where
    constants_rest : Near at₁ (joined constant_image (constants_from (k - 0) 0 cs t))
    constants_rest = back _ _ _ at₀ constants_count c.near out₀ out₁ at₁ q

    pub constants_start : PuttingConstants k cs t out₁ at₁ out₁ at₁ 0
    constants_start = putting_start _ out₁ at₁

    module _ (out : List ℕ) (at j : ℕ) (p : PuttingConstants k cs t out₁ at₁ out at j) where
      pub constants_each : j < k → (x y : ℕ) → x ≡ kind_at cs j → y ≡ payload_at cs j → ConstantPuts at t x y
      constants_each l x y ex ey = subst (λ (z : ℕ). ConstantPuts at t z y) (sym ex) (subst (λ (z : ℕ). ConstantPuts at t (kind_at cs j) z) (sym ey)
          (record { known = c.each j l; near = each_near constant_image constants_all constants_one (constants_open cs t) (constants_shut cs t) k 0 out₁ at₁ constants_rest out at j p l }))

      pub constants_step : j < k → (x y : ℕ) → x ≡ kind_at cs j → y ≡ payload_at cs j → (out' : List ℕ) (at' : ℕ) → Put (constant_image (constant_in t x y)) out at out' at'
          → PuttingConstants k cs t out₁ at₁ out' at' (j + 1)
      constants_step l x y ex ey out' at' r = each_step constant_image constants_all constants_one (constants_open cs t) (constants_shut cs t) k 0 out₁ at₁ constants_rest out at j p l out' at'
          (put_as _ _ out out' at at' (ap (λ (z : ℕ). constant_image (constant_in t z y)) ex ∙ ap (λ (z : ℕ). constant_image (constant_in t (kind_at cs j) z)) ey) r)

      pub constants_end : k ≤ j → Put (counted constant_image (constants_from k 0 cs t)) out₀ at₀ out at
      constants_end l = both _ _ _ at₀ constants_count c.near out₀ out₁ at₁ q out at
          (each_end constant_image constants_all constants_one (constants_open cs t) (constants_shut cs t) k 0 out₁ at₁ constants_rest out at j p l)

abbrev pub PuttingStructs : ℕ → List ℕ → List ℕ → List ℕ → ℕ → List ℕ → ℕ → ℕ → Type 0
PuttingStructs k ss t out₁ at₁ out at j = Putting (joined text_image (structs_from (k - 0) 0 ss t)) out₁ at₁ out at (joined text_image (structs_from (k - j) j ss t))

module _ (at₀ k : ℕ) (ss t : List ℕ) (c : StructsPut at₀ k ss t) where
  abbrev structs_all : ℕ → ℕ → List (List ℕ)
  structs_all a b = structs_from a b ss t

  abbrev structs_one : ℕ → List ℕ
  structs_one j = part t (struct_word ss j)

  structs_count : Split (counted text_image (structs_from k 0 ss t)) (digits k) (joined text_image (structs_from (k - 0) 0 ss t))
  structs_count = count_split text_image structs_all structs_one (structs_open ss t) (structs_shut ss t) k

  pub structs_near : Near at₀ (digits k)
  structs_near = front _ _ _ at₀ structs_count c.near

  module _ (out₀ out₁ : List ℕ) (at₁ : ℕ) (q : Put (digits k) out₀ at₀ out₁ at₁) where
    structs_rest : Near at₁ (joined text_image (structs_from (k - 0) 0 ss t))
    structs_rest = back _ _ _ at₀ structs_count c.near out₀ out₁ at₁ q

    pub structs_start : PuttingStructs k ss t out₁ at₁ out₁ at₁ 0
    structs_start = putting_start _ out₁ at₁

    module _ (out : List ℕ) (at j : ℕ) (p : PuttingStructs k ss t out₁ at₁ out at j) where
      pub structs_each : j < k → (w : ℕ) → w ≡ kind_at ss j → (x : List ℕ) → x ≡ part t w → TextPuts at x
      unfolding struct_word
      structs_each l w ew x ex = subst (TextPuts at) (sym (ex ∙ ap (part t) ew))
          (record { small = c.each j l; near = each_near text_image structs_all structs_one (structs_open ss t) (structs_shut ss t) k 0 out₁ at₁ structs_rest out at j p l })

      pub structs_step : j < k → (w : ℕ) → w ≡ kind_at ss j → (x : List ℕ) → x ≡ part t w → (out' : List ℕ) (at' : ℕ) → Put (text_image x) out at out' at'
          → PuttingStructs k ss t out₁ at₁ out' at' (j + 1)
      unfolding struct_word
      structs_step l w ew x ex out' at' r = each_step text_image structs_all structs_one (structs_open ss t) (structs_shut ss t) k 0 out₁ at₁ structs_rest out at j p l out' at'
          (put_as _ _ out out' at at' (ap text_image (ex ∙ ap (part t) ew)) r)

      pub structs_end : k ≤ j → Put (counted text_image (structs_from k 0 ss t)) out₀ at₀ out at
      structs_end l = both _ _ _ at₀ structs_count c.near out₀ out₁ at₁ q out at
          (each_end text_image structs_all structs_one (structs_open ss t) (structs_shut ss t) k 0 out₁ at₁ structs_rest out at j p l)

-- ---- runs

-- the places from i on, before `to`: those before the first that is another are a run
module _ (places : List ℕ) (i to : ℕ) (h : (i < to) × (to ≤ length places)) where
  abbrev another : ℕ → Bool
  another x = not (eqb x (get_or places i 0))

  abbrev rest_of : List ℕ
  rest_of = take (to - i) (drop i places)

  abbrev run_to : ℕ
  run_to = position_or_len another rest_of

  rest_length : length rest_of ≡ to - i
  rest_length = let z = length-drop i places in let l = h.1 in length-take-le (to - i) (drop i places) (omega arith)

  rest_at : (k : ℕ) → k < to - i → get_or rest_of k 0 ≡ get_or places (i + k) 0
  rest_at k l = get_or-take (to - i) (drop i places) k 0 l ∙ get_or-drop i places k 0

  last_one : i + run_to < to → get_or places (i + run_to) 0 ≡ get_or places i 0 → ⊥
  last_one l e =
      let n = rest_length in
      eqb-false _ _ (not-true _ (passes_at_first another rest_of 0 (omega arith))) (rest_at run_to (omega arith) ∙ e)

  run_here : SameRun places i to run_to
  run_here =
      let n = rest_length in let b : run_to ≤ length rest_of = prefix_len-le-length _ rest_of in let l = h.0 in
      record {
        some = pos_of_ne-zero (λ (z : run_to ≡ 0). let y : i + run_to ≡ i = omega arith in last_one (omega arith) (ap (λ (k : ℕ). get_or places k 0) y));
        most = omega arith;
        same = λ k m. sym (rest_at k (omega arith)) ∙ eqb-true _ _ (not-false _ (fails_before_first another rest_of k 0 m));
        last = last_one;
      }

  pub run_found : (o : Option ℕ) (r : ℕ) → o ≡ position another rest_of → r ≡ unwrap_or o (to - i) → SameRun places i to r
  run_found o r eo er = subst (SameRun places i to) (sym is) run_here
    where
      is : r ≡ run_to
      is = either_way (ltb run_to (length rest_of)) (λ x. er ∙ rw (eo, x))
          (λ x.
          let n = rest_length in let b : run_to ≤ length rest_of = prefix_len-le-length _ rest_of in let y = ltb-false _ _ x in
          let z : to - i ≡ run_to = omega arith in er ∙ rw (eo, x) z)
