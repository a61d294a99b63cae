-- Searches by name.
use Rattle.std.specs.Prelude.{if◌then◌else◌, Err, Ok}
use mathlib.Core.Path.{◌≡◌, refl, sym, ap, ◌∙◌}
use mathlib.Core.Bool.{Bool, true, false, ◌&&◌}
use mathlib.Core.List.{List, [], ◌∷◌, ◌++◌}
use mathlib.Core.Option.{Option, none, some}
use Prim.Native.Nat.{ℕ, zero, suc, ◌+◌, ◌-◌, ◌≤◌, ◌<◌}
use native.Mathlib.Omega.{arith}
use lib.Dec.{eqb}
use lib.ListN.{length}
use borrow.Author.Tests.{eq-eqb, ne_eqb, eqb-true, eqb-false}
use Rattle.model.specs.declared.Refusal.TheVariants as why
use Rattle.model.specs.Values.{kind_at}
use Rattle.model.specs.Equality.{same_bytes}
use Rattle.model.specs.Programs.{or_else, newest_from, first_from, among}
use Rattle.model.specs.Stores.{Stores, part, name_word}
use Rattle.model.specs.Emission.{names_from, told_name}
use Rattle.layout.specs.Links.{names_lent}
use Rattle.layout.proofs.Bools.{either_way}

-- ---- the newest first

names_more : (k i : ℕ) (s : Stores) → names_from (suc k) i s ≡ names_from k i s ++ (part s.text (name_word s.functions (i + k)) ∷ [])
unfolding names_from
names_more zero i s = let z : i + 0 ≡ i = omega arith in rw z
names_more (suc k) i s = let z : i + suc k ≡ suc i + k = omega arith in ap (λ (l : List (List ℕ)). part s.text (name_word s.functions i) ∷ l) (rw z (names_more k (suc i) s))

length_names : (k i : ℕ) (s : Stores) → length (names_from k i s) ≡ k
unfolding names_from
length_names zero i s = refl
length_names (suc k) i s = ap suc (length_names k (suc i) s)

or_else_if : (b : Bool) (x : ℕ) (a o : Option ℕ) → or_else (if b then some x else a) o ≡ (if b then some x else or_else a o)
unfolding or_else
or_else_if true x a o = refl
or_else_if false x a o = refl

newest_more : (i : ℕ) (n : List ℕ) (ns : List (List ℕ)) (x : List ℕ) → newest_from i n (ns ++ (x ∷ [])) ≡ (if same_bytes n x then some (i + length ns) else newest_from i n ns)
unfolding newest_from or_else
newest_more i n [] x = let z : i + 0 ≡ i = omega arith in rw z
newest_more i n (y ∷ ns) x =
    let z : i + suc (length ns) ≡ suc i + length ns = omega arith in
    rw (newest_more (suc i) n ns x, z) (or_else_if (same_bytes n x) (suc i + length ns) (newest_from (suc i) n ns) (if same_bytes n y then some i else none))

newest_step : (n : List ℕ) (k : ℕ) (s : Stores) → newest_from 0 n (names_from (suc k) 0 s) ≡
    (if same_bytes n (part s.text (name_word s.functions k)) then some k else newest_from 0 n (names_from k 0 s))
newest_step n k s = let z : 0 + k ≡ k = omega arith in rw (names_more k 0 s, newest_more 0 n (names_from k 0 s) (part s.text (name_word s.functions (0 + k))), length_names k 0 s, z)

-- the functions from number left on do not have the name
pub record Newest (n : ℕ) (name fs t : List ℕ) (left : ℕ) : Type 0 where
  pub within : left ≤ n
  pub means : (rest : Stores) → newest_from 0 name (names_from n 0 (names_lent rest fs t)) ≡ newest_from 0 name (names_from left 0 (names_lent rest fs t))

module _ (n : ℕ) (name fs t : List ℕ) (left : ℕ) (h : Newest n name fs t left) where
  pub newest_none : left ≤ 0 → (rest : Stores) → Err why.NoFunction ≡ told_name (newest_from 0 name (names_from n 0 (names_lent rest fs t)))
  unfolding newest_from names_from told_name
  newest_none l rest = let z : left ≡ 0 = omega arith in rw (h.means rest, z)

  module _ (l : 0 < left) (w : ℕ) (p : List ℕ) (b : Bool) (ew : w ≡ kind_at fs (left - 1)) (ep : p ≡ part t w) (eb : b ≡ same_bytes name p) where
    here : (rest : Stores) → newest_from 0 name (names_from n 0 (names_lent rest fs t)) ≡ (if b then some (left - 1) else newest_from 0 name (names_from (left - 1) 0 (names_lent rest fs t)))
    unfolding name_word names_lent
    here rest =
        let z : left ≡ suc (left - 1) = omega arith in
        let q : newest_from 0 name (names_from left 0 (names_lent rest fs t)) ≡ newest_from 0 name (names_from (suc (left - 1)) 0 (names_lent rest fs t)) = ap
        (λ (k : ℕ). newest_from 0 name (names_from k 0 (names_lent rest fs t))) z in
        h.means rest ∙ q ∙ newest_step name (left - 1) (names_lent rest fs t) ∙ rw (eb, ep, ew)

    pub newest_here : b ≡ true → (rest : Stores) → Ok (left - 1) ≡ told_name (newest_from 0 name (names_from n 0 (names_lent rest fs t)))
    unfolding told_name
    newest_here e rest = rw (here rest, e)

    pub newest_below : b ≡ false → Newest n name fs t (left - 1)
    newest_below e = record { within = let x = h.within in omega arith; means = λ rest. here rest ∙ rw e }

-- ---- among the names

if_none : (b : Bool) (i : ℕ) (o : Option ℕ) (a : Bool) → (if b then some i else o) ≡ none → (o ≡ none → a ≡ false) → (if b then true else a) ≡ false
if_none true i o a e h = absurd (let z : ◌≡◌ {A = ℕ} 0 1 = cc in let y : ⊥ = omega arith in y)
if_none false i o a e h = h e

if_some : (b : Bool) (i k : ℕ) (o : Option ℕ) (a : Bool) → (if b then some i else o) ≡ some k → (o ≡ some k → a ≡ true) → (if b then true else a) ≡ true
if_some true i k o a e h = refl
if_some false i k o a e h = h e

pub among_none : (i : ℕ) (n : List ℕ) (ns : List (List ℕ)) → first_from i n ns ≡ none → among n ns ≡ false
unfolding first_from among
among_none i n [] e = refl
among_none i n (x ∷ ns) e = if_none (same_bytes n x) i (first_from (suc i) n ns) (among n ns) e (λ f. among_none (suc i) n ns f)

pub among_some : (i : ℕ) (n : List ℕ) (ns : List (List ℕ)) (k : ℕ) → first_from i n ns ≡ some k → among n ns ≡ true
unfolding first_from among
among_some i n [] k e = absurd (let z : ◌≡◌ {A = ℕ} 0 1 = cc in let y : ⊥ = omega arith in y)
among_some i n (x ∷ ns) k e = if_some (same_bytes n x) i k (first_from (suc i) n ns) (among n ns) e (λ f. among_some (suc i) n ns k f)

-- whichever way names are compared
pub same_sym : (a b : List ℕ) → same_bytes a b ≡ same_bytes b a
unfolding same_bytes
same_sym [] [] = refl
same_sym [] (y ∷ b) = refl
same_sym (x ∷ a) [] = refl
same_sym (x ∷ a) (y ∷ b) = rw (same_sym a b) (ap (λ (z : Bool). z && same_bytes b a) (eqb_sym x y))
  where
    eqb_sym : (x y : ℕ) → eqb x y ≡ eqb y x
    eqb_sym x y = either_way (eqb x y) (λ t. t ∙ sym (eq-eqb y x (sym (eqb-true x y t)))) (λ f. f ∙ sym (ne_eqb y x (λ e. eqb-false x y f (sym e))))

pub among_false : (t : List ℕ) (l : List (List ℕ)) (x : List ℕ) → among t l ≡ false → same_bytes t x ≡ false → among t (l ++ (x ∷ [])) ≡ false
unfolding among
among_false t [] x a b = rw b
among_false t (y ∷ l) x a b = or_both (same_bytes t y) (among t l) a (λ q. among_false t l x q b)
  where
    or_both : (c d : Bool) → (if c then true else d) ≡ false → {e : Bool} → (d ≡ false → e ≡ false) → (if c then true else e) ≡ false
    or_both true d h f = h
    or_both false d h f = f h
