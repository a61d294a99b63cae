-- What is written reads back, and nothing else reads: a law for each way to put readings together.
use mathlib.Core.Path.{◌≡◌, refl, sym, ap, subst, ◌∙◌}
use mathlib.Core.Bool.{Bool, true}
use mathlib.Core.List.{List, [], ◌∷◌, ◌++◌, append_assoc}
use Prim.Native.Nat.{ℕ, zero, suc, ◌≤◌}
use native.Mathlib.Omega.{arith}
use lib.Dec.{leb}
use lib.ListN.{length, take, drop, length-append, take-append-drop}
use lib.Seq.{take_at, drop_at, length-take-le}
use borrow.Author.Tests.{le-leb, leb-true}
use Rattle.model.specs.Numbers.{Step, got, bad, and_then, item, checked, Bytes, Codes}
use Rattle.model.specs.Images.{joined, series, takes, Each}
use Rattle.layout.proofs.Bools.{either_way}
use Rattle.number.proofs.Codes.{never, item_only}

-- ---- steps taken apart

pub got_value : {A : Type 0} {a b : A} {r q : List ℕ} → got a r ≡ got b q → a ≡ b
got_value e = cc

pub got_rest : {A : Type 0} {a b : A} {r q : List ℕ} → got a r ≡ got b q → r ≡ q
got_rest e = cc

pub then_only : {A B : Type 0} (s : Step A) (k : A → List ℕ → Step B) (c : B) (r : List ℕ) → and_then s k ≡ got c r
    → (a : A) × (q : List ℕ) × (s ≡ got a q) × (k a q ≡ got c r)
unfolding and_then
then_only (got a q) k c r e = (a, q, refl, e)
then_only (bad n) k c r e = absurd (never e)

-- a reading whose value goes under a constructor
pub made_only : {A C : Type 0} (mk : A → C) (s : Step A) (c : C) (r : List ℕ) → and_then s (λ a q. got (mk a) q) ≡ got c r
    → (a : A) × (mk a ≡ c) × (s ≡ got a r)
unfolding and_then
made_only mk (got a q) c r e = (a, got_value e, ap (got a) (got_rest e))
made_only mk (bad n) c r e = absurd (never e)

pub checked_only : {A : Type 0} (t : A → Bool) (s : Step A) (a : A) (r : List ℕ) → checked t s ≡ got a r → (s ≡ got a r) × (t a ≡ true)
unfolding checked
checked_only t (got x q) a r e =
    either_way (t x)
    (λ y. let g : got x q ≡ got a r = rw y at e in (g, (let p : x ≡ a = got_value g in rw p at y)))
    (λ y. absurd (never (rw y at e)))
checked_only t (bad n) a r e = absurd (never e)

pub item_got : {A : Type 0} (b : List ℕ) (s : Step A) (a : A) (r : List ℕ) → s ≡ got a r → item b s ≡ got a r
unfolding item
item_got b s a r e = rw e

pub bytes_front : (a r : List ℕ) → Bytes (a ++ r) → Bytes a
unfolding Bytes
bytes_front [] r h = tt
bytes_front (x ∷ a) r h = (h.0, bytes_front a r h.1)

pub bytes_rest : (a r : List ℕ) → Bytes (a ++ r) → Bytes r
unfolding Bytes
bytes_rest [] r h = h
bytes_rest (x ∷ a) r h = bytes_rest a r h.1

-- ---- the laws

-- the same reading, its good values said otherwise
pub codes_as : {A : Type 0} {ok ok' : A → Type 0} {enc : A → List ℕ} {dec : List ℕ → Step A} → Codes ok enc dec
    → ((a : A) → ok' a → ok a) → ((a : A) → ok a → ok' a) → Codes ok' enc dec
codes_as c to from = record { back = λ a r h. c.back a r (to a h); only = λ b a r y e. let g = c.only b a r y e in (g.0, from a g.1) }

module _ {A : Type 0} {ok : A → Type 0} {enc : A → List ℕ} {dec : List ℕ → Step A} (c : Codes ok enc dec) where
  pub codes_item : Codes ok enc (λ b. item b (dec b))
  codes_item = record {
    back = λ a r h. item_got _ _ _ _ (c.back a r h);
    only = λ b a r y e. c.only b a r y (item_only b _ a r e);
  }

  pub codes_checked : (t : A → Bool) → Codes (λ a. ok a × (t a ≡ true)) enc (λ b. checked t (dec b))
  unfolding checked
  codes_checked t = record {
    back = λ a r h. rw (c.back a r h.0, h.1);
    only = λ b a r y e. let g = checked_only t (dec b) a r e in let o = c.only b a r y g.0 in (o.0, (o.1, g.1));
  }

  -- a value under a constructor
  pub codes_made : {C : Type 0} (mk : A → C) (un : C → A) → ((a : A) → un (mk a) ≡ a)
      → Codes (λ x. (mk (un x) ≡ x) × ok (un x)) (λ x. enc (un x)) (λ b. and_then (dec b) (λ a r. got (mk a) r))
  unfolding and_then
  codes_made {C} mk un same = record {
    back = λ x r h. rw (c.back (un x) r h.1) (ap (λ (y : C). got y r) h.0);
    only = λ b x r y e.
        let g = made_only mk (dec b) x r e in
        let o = c.only b g.0 r y g.2 in
        let k : un x ≡ g.0 = ap un (sym g.1) ∙ same g.0 in
        (rw k o.0, (ap mk k ∙ g.1, subst ok (sym k) o.1));
  }

  -- a first part that decides how the rest is read; the key of a value is its first part
  pub codes_seq : {C : Type 0} {ok_c : A → C → Type 0} {encC : A → C → List ℕ} {decC : A → List ℕ → Step C}
      → ((a : A) → ok a → Codes (ok_c a) (encC a) (decC a)) → (key : C → A) → ((a : A) (x : C) → ok_c a x → key x ≡ a)
      → Codes (λ x. ok (key x) × ok_c (key x) x) (λ x. enc (key x) ++ encC (key x) x) (λ b. and_then (dec b) decC)
  unfolding and_then
  codes_seq {C} {ok_c} {encC} {decC} d key tells = record {
    back = λ x r h. rw (append_assoc, c.back (key x) (encC (key x) x ++ r) h.0) ((d (key x) h.0).back x r h.1);
    only = λ b x r y e.
        let g = then_only (dec b) decC x r e in
        let o = c.only b g.0 g.1 y g.2 in
        let y' : Bytes (enc g.0 ++ g.1) = subst Bytes o.0 y in
        let p = (d g.0 o.1).only g.1 x r (bytes_rest (enc g.0) g.1 y') g.3 in
        let k : key x ≡ g.0 = tells g.0 x p.1 in
        (rw (k, append_assoc, ← p.0) o.0, (subst ok (sym k) o.1, subst (λ (a : A). ok_c a x) (sym k) p.1));
  }

pub codes_takes : (n : ℕ) → Codes (λ l. length l ≡ n) (λ l. l) (takes n)
unfolding takes
codes_takes n = record {
  back = λ a r h. let g : n ≤ length (a ++ r) = (let z = length-append a r in omega arith) in rw (le-leb n (length (a ++ r)) g, take_at a r n h, drop_at a r n h);
  only = λ b a r y e.
      either_way (leb n (length b))
      (λ t. let g : got (take n b) (drop n b) ≡ got a r = rw t at e in
      let p : take n b ≡ a = got_value g in let q : drop n b ≡ r = got_rest g in
      (rw (← p, ← q) (sym (take-append-drop n b)), rw (← p) (length-take-le n b (leb-true n (length b) t))))
      (λ t. absurd (never (rw t at e)));
}

-- a series, each element read by what those before it gave
module _ {S A : Type 0} {ok : S → A → Type 0} {enc : A → List ℕ} {dec : S → List ℕ → Step A} (c : (s : S) → Codes (ok s) enc (dec s)) (next : S → A → S) where
  series_back : (n : ℕ) (s : S) (l : List A) (r : List ℕ) → length l ≡ n → Each ok next s l → series dec next n s (joined enc l ++ r) ≡ got l r
  unfolding series joined and_then Each
  series_back zero s [] r h g = refl
  series_back zero s (a ∷ l) r h g = absurd (let w : ⊥ = omega arith in w)
  series_back (suc n) s [] r h g = absurd (let w : ⊥ = omega arith in w)
  series_back (suc n) s (a ∷ l) r h g =
      rw (append_assoc, (c s).back a (joined enc l ++ r) g.0, series_back n (next s a) l r (omega arith) g.1)

  series_only : (n : ℕ) (s : S) (b : List ℕ) (l : List A) (r : List ℕ) → Bytes b → series dec next n s b ≡ got l r
      → (b ≡ joined enc l ++ r) × ((length l ≡ n) × Each ok next s l)
  unfolding series joined Each
  series_only zero s b l r y e =
      subst (λ (x : List A). (b ≡ joined enc x ++ r) × ((length x ≡ 0) × Each ok next s x)) (got_value e) (got_rest e, (refl, tt))
  series_only (suc n) s b l r y e =
      let g = then_only (dec s b) _ l r e in
      let m = made_only (λ x. g.0 ∷ x) (series dec next n (next s g.0) g.1) l r g.3 in
      let o = (c s).only b g.0 g.1 y g.2 in
      let y' = bytes_rest (enc g.0) g.1 (subst Bytes o.0 y) in
      let ih = series_only n (next s g.0) g.1 m.0 r y' m.2 in
      subst (λ (x : List A). (b ≡ joined enc x ++ r) × ((length x ≡ suc n) × Each ok next s x)) m.1
      (o.0 ∙ ap (λ (t : List ℕ). enc g.0 ++ t) ih.0 ∙ sym (append_assoc (enc g.0) (joined enc m.0) r), (ap suc ih.1.0, (o.1, ih.1.1)))

  pub codes_series : (n : ℕ) (s : S) → Codes (λ l. (length l ≡ n) × Each ok next s l) (joined enc) (series dec next n s)
  codes_series n s = record { back = λ l r h. series_back n s l r h.0 h.1; only = series_only n s }
