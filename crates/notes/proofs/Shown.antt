-- Texts, constants and names as a note shows them.
use mathlib.Core.Path.{◌≡◌, refl, sym, ap, ◌∙◌}
use mathlib.Core.Bool.{true, false, ◌&&◌}
use mathlib.Core.List.{List, [], ◌∷◌, ◌++◌, map, append-nil}
use Prim.Native.Nat.{ℕ, zero, suc, ◌+◌, ◌≤◌, ◌<◌, min}
use native.Mathlib.Omega.{arith}
use lib.Dec.{leb, ltb}
use lib.ListN.{length, get_or, take, length-take, length-map, get_or-map, get_or-eq_default}
use lib.Seq.{take_all}
use borrow.Author.Tests.{eq-eqb, ne_eqb, le-leb, lt-leb}
use Rattle.model.specs.Basics.{ascii}
use Rattle.model.specs.Values.{kind_at, payload_at}
use Rattle.model.specs.Stores.{part, struct_word, constant_in, constants_from, structs_from}
use Rattle.model.specs.Reports.{hex_for, boolean_text}
use Rattle.printing.specs.Links.{Put}
use Rattle.printing.proofs.Puts.{is, within, both, Along, another, whole}
use Rattle.notes.specs.Notes.{shown_byte, shown_text, constant_text, constant_at, name_at}

-- ---- a byte

pub plain_byte : (b : ℕ) → (leb 32 b && ltb b 127) ≡ true → b ≡ shown_byte b
unfolding shown_byte
plain_byte b e = rw e

pub other_byte : (b : ℕ) → (leb 32 b && ltb b 127) ≡ false → 46 ≡ shown_byte b
unfolding shown_byte
other_byte b e = rw e

-- ---- a text: n bytes of it are shown

abbrev pub front : ℕ → List ℕ → List ℕ
front n t = map shown_byte (take n t)

module _ (t : List ℕ) (n : ℕ) {s : List ℕ} {at : ℕ} {s' : List ℕ} {i r : ℕ} (h : Along (front n t) s at s' i r) where
  pub one_shown : i < length (take n t) → {b : ℕ} → b ≡ shown_byte (get_or (take n t) i 0) → {u : List ℕ} {q : ℕ} → Put 1 (b ∷ []) s' r u q → Along (front n t) s at u (i + 1) q
  one_shown g f p = another h _ (shown_byte 0) (f ∙ sym (get_or-map shown_byte (take n t) i 0)) (rw length-map g) p

  module _ (e : n ≡ min (length t) 24) (g : length (take n t) ≤ i) where
    all_shown : Put (length (front n t)) (front n t) s at s' r
    all_shown = whole h (rw length-map g)

    few : length (front n t) ≤ 24
    few = let l : length (front n t) ≡ min n (length t) = length-map (take n t) shown_byte ∙ length-take n t in omega arith

    pub whole_text : length t ≤ n → Put 26 (shown_text t) s at s' r
    unfolding shown_text
    whole_text k =
        let l : length t ≤ 24 = omega arith in
        let z : front n t ≡ front 24 t ++ [] = rw (take_all n t k, take_all 24 t l, append-nil) in
        rw (le-leb _ _ l) (within (is all_shown z) 26 (let m = few in omega arith))

    pub cut_text : n < length t → {u : List ℕ} {q : ℕ} → Put 2 (ascii "..") s' r u q → Put 26 (shown_text t) s at u q
    unfolding shown_text
    cut_text k q =
        let l : 24 < length t = omega arith in
        let z : n ≡ 24 = omega arith in
        rw (lt-leb _ _ l) (within (both (is all_shown (ap (λ (m : ℕ). front m t) z)) q) 26 (let m = few in omega arith))

pub part_is : (kind t : List ℕ) (w : ℕ) (b : List ℕ) → b ≡ part t w → {s₀ s₁ s₂ : List ℕ} {i₀ i₁ i₂ : ℕ}
    → Put (length kind) kind s₀ i₀ s₁ i₁ → Put 26 (shown_text b) s₁ i₁ s₂ i₂ → Put (length kind + 26) (kind ++ shown_text (part t w)) s₀ i₀ s₂ i₂
part_is kind t w b e p q = both p (is q (ap shown_text e))

-- ---- a constant, by its kind k and its payload a

module _ (t : List ℕ) (k a : ℕ) {s₀ s₁ : List ℕ} {i₀ i₁ : ℕ} where
  pub scalar_is : k ≡ 0 → {s₂ : List ℕ} {i₂ : ℕ} → Put 7 (ascii "scalar ") s₀ i₀ s₁ i₁ → Put 16 (hex_for 16 a) s₁ i₁ s₂ i₂ → Put 35 (constant_text (constant_in t k a)) s₀ i₀ s₂ i₂
  unfolding constant_in constant_text
  scalar_is e p q = rw (eq-eqb k 0 e) (within (both p q) 35 (omega arith))

  pub false_is : k ≡ 1 → a ≡ 0 → Put 5 (ascii "false") s₀ i₀ s₁ i₁ → Put 35 (constant_text (constant_in t k a)) s₀ i₀ s₁ i₁
  unfolding constant_in constant_text boolean_text
  false_is e f p = rw (e, eq-eqb a 0 f) (within p 35 (omega arith))

  pub true_is : k ≡ 1 → (a ≡ 0 → ⊥) → Put 4 (ascii "true") s₀ i₀ s₁ i₁ → Put 35 (constant_text (constant_in t k a)) s₀ i₀ s₁ i₁
  unfolding constant_in constant_text boolean_text
  true_is e f p = rw (e, ne_eqb a 0 f) (within p 35 (omega arith))

  pub string_is : k ≡ 2 → Put 33 (ascii "string " ++ shown_text (part t a)) s₀ i₀ s₁ i₁ → Put 35 (constant_text (constant_in t k a)) s₀ i₀ s₁ i₁
  unfolding constant_in constant_text
  string_is e p = rw e (within p 35 (omega arith))

  pub reference_is : (k ≡ 0 → ⊥) → (k ≡ 1 → ⊥) → (k ≡ 2 → ⊥) → Put 35 (ascii "function " ++ shown_text (part t a)) s₀ i₀ s₁ i₁ → Put 35 (constant_text (constant_in t k a)) s₀ i₀ s₁ i₁
  unfolding constant_in constant_text
  reference_is e f g p = rw (ne_eqb k 0 e, ne_eqb k 1 f, ne_eqb k 2 g) p

-- ---- what has a number, and what has none

not_there : (l : List (List ℕ)) (none : List ℕ) (k : ℕ) → length l ≤ k → get_or l k none ≡ none
not_there l none k h = get_or-eq_default l none h

module _ (cs t : List ℕ) where
  constant_there : (n i k : ℕ) → k < n → get_or (map constant_text (constants_from n i cs t)) k (ascii "no constant") ≡ constant_text (constant_in t (kind_at cs (i + k)) (payload_at cs (i + k)))
  unfolding constants_from
  constant_there zero i k h = absurd (let z : ⊥ = omega arith in z)
  constant_there (suc n) i zero h = let z : i + 0 ≡ i = omega arith in rw z
  constant_there (suc n) i (suc k) h = let z : i + suc k ≡ suc i + k = omega arith in rw z (constant_there n (suc i) k (omega arith))

  length_constants : (n i : ℕ) → length (constants_from n i cs t) ≡ n
  unfolding constants_from
  length_constants zero i = refl
  length_constants (suc n) i = ap suc (length_constants n (suc i))

  module _ (n k : ℕ) {s : List ℕ} {at : ℕ} {s' : List ℕ} {r : ℕ} where
    pub known_constant : k < n → {x a : ℕ} → x ≡ kind_at cs k → a ≡ payload_at cs k → Put 35 (constant_text (constant_in t x a)) s at s' r → Put 35 (constant_at (constants_from n 0 cs t) k) s at s' r
    unfolding constant_at
    known_constant h e f p = let z : 0 + k ≡ k = omega arith in rw (constant_there n 0 k h, z, ← e, ← f) p

    pub no_constant : n ≤ k → Put 11 (ascii "no constant") s at s' r → Put 35 (constant_at (constants_from n 0 cs t) k) s at s' r
    unfolding constant_at
    no_constant h p =
        let l = length-map (constants_from n 0 cs t) constant_text ∙ length_constants n 0 in
        rw (not_there (map constant_text (constants_from n 0 cs t)) (ascii "no constant") k (omega arith)) (within p 35 (omega arith))

module _ (ns t : List ℕ) where
  name_there : (none : List ℕ) (n i k : ℕ) → k < n → get_or (map shown_text (structs_from n i ns t)) k none ≡ shown_text (part t (kind_at ns (i + k)))
  unfolding structs_from struct_word
  name_there none zero i k h = absurd (let z : ⊥ = omega arith in z)
  name_there none (suc n) i zero h = let z : i + 0 ≡ i = omega arith in rw z
  name_there none (suc n) i (suc k) h = let z : i + suc k ≡ suc i + k = omega arith in rw z (name_there none n (suc i) k (omega arith))

  length_names : (n i : ℕ) → length (structs_from n i ns t) ≡ n
  unfolding structs_from
  length_names zero i = refl
  length_names (suc n) i = ap suc (length_names n (suc i))

  module _ (none : List ℕ) (n k : ℕ) {s : List ℕ} {at : ℕ} {s' : List ℕ} {r : ℕ} where
    pub known_name : k < n → {w : ℕ} {b : List ℕ} → w ≡ kind_at ns k → b ≡ part t w → Put 26 (shown_text b) s at s' r → Put (26 + length none) (name_at (structs_from n 0 ns t) k none) s at s' r
    unfolding name_at
    known_name h e f p = let z : 0 + k ≡ k = omega arith in rw (name_there none n 0 k h, z, ← e, ← f) (within p (26 + length none) (omega arith))

    pub no_name : n ≤ k → Put (length none) none s at s' r → Put (26 + length none) (name_at (structs_from n 0 ns t) k none) s at s' r
    unfolding name_at
    no_name h p =
        let l = length-map (structs_from n 0 ns t) shown_text ∙ length_names n 0 in
        rw (not_there (map shown_text (structs_from n 0 ns t)) none k (omega arith)) (within p (26 + length none) (omega arith))
