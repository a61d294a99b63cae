-- Each check answers what the definition says.
use mathlib.Core.Path.{◌≡◌, refl, ◌∙◌}
use mathlib.Core.Bool.{Bool, true, false, ◌&&◌, ◌||◌}
use mathlib.Core.List.{List, [], ◌∷◌}
use Prim.Native.Nat.{ℕ, suc, ◌+◌, ◌-◌, ◌≤◌, ◌<◌}
use native.Mathlib.Omega.{arith}
use lib.Dec.{eqb, leb, ltb}
use lib.ListN.{length}
use borrow.Author.Tests.{eq-eqb, ne_eqb, le-leb, lt-leb}
use Rattle.model.specs.declared.Counts.{Counts}
use Rattle.model.specs.Values.{places, kind_at, payload_at}
use Rattle.model.specs.Equality.{same_bytes}
use Rattle.model.specs.Stores.{start, size, part, struct_word, order_word, name_word, code_word, code_end}
use Rattle.model.specs.Programs.{before, main_name}
use Rattle.model.specs.Basics.{ascii, every_from}
use Rattle.laws_programs.proofs.Every.{Judged}
use Rattle.layout.proofs.Names.{name_here}
use Rattle.model.specs.Orders.{counts_ok, text_ok, inside_text, constant_ok, constants_ok, name_in_order, structs_ok, code_start, function_ok, functions_ok, main_ok, main_taken, other_taken, inside_codes, program_ok}
use Rattle.layout.specs.declared.lent.ProgramStores.{ProgramStores}
use Rattle.layout.specs.Lent.{program_lent, stores_in}
use Rattle.layout.specs.Links.{WholeIs}

pub counts_is : (c : Counts) (last : Bool) → last ≡ eqb (suc c.current) c.functions
    → (leb c.constants 65535 && leb c.structs 65536 && leb 1 c.functions && leb c.functions 65536 && leb c.text 0xFFFF_FFFF && (eqb c.current 0 || last)) ≡ counts_ok c
unfolding counts_ok
counts_is c last e = rw e

pub text_is : (c : Counts) (t : List ℕ) (r : ℕ) → r ≡ places 1 t → leb c.text r ≡ text_ok c t
unfolding text_ok
text_is c t r e = rw e

pub inside_is : (c : Counts) (w a b : ℕ) → a ≡ start w → b ≡ size w → leb (a + b) c.text ≡ inside_text c w
unfolding inside_text
inside_is c w a b e f = rw (e, f)

-- a constant, by its kind
module _ (c : Counts) (k a : ℕ) where
  pub kind_0 : k ≡ 0 → true ≡ constant_ok c k a
  unfolding constant_ok
  kind_0 e = rw (eq-eqb _ _ e)

  pub kind_1 : (k ≡ 0 → ⊥) → k ≡ 1 → ltb a 2 ≡ constant_ok c k a
  unfolding constant_ok
  kind_1 h e = rw (ne_eqb _ _ h, eq-eqb _ _ e)

  pub kind_text : (k ≡ 0 → ⊥) → (k ≡ 1 → ⊥) → k ≤ 3 → (r : Bool) → r ≡ inside_text c a → r ≡ constant_ok c k a
  unfolding constant_ok
  kind_text h g l r e = rw (ne_eqb _ _ h, ne_eqb _ _ g, le-leb _ _ l) e

  pub kind_none : (k ≡ 0 → ⊥) → (k ≡ 1 → ⊥) → 3 < k → false ≡ constant_ok c k a
  unfolding constant_ok
  kind_none h g l = rw (ne_eqb _ _ h, ne_eqb _ _ g, lt-leb _ _ l)

pub constants_judged : (c : Counts) (cs : List ℕ) → Judged (constants_ok c cs) c.constants (places 2 cs) (λ i. constant_ok c (kind_at cs i) (payload_at cs i))
unfolding constants_ok
constants_judged c cs = record { says = refl }

-- a struct name inside the text, and a number of a struct
pub structs_judged : (c : Counts) (ss : List ℕ) → Judged (leb c.structs (places 2 ss) && every_from c.structs 0 (λ i. inside_text c (struct_word ss i) && ltb (order_word ss i) c.structs))
    c.structs (places 2 ss) (λ i. inside_text c (struct_word ss i) && ltb (order_word ss i) c.structs)
structs_judged c ss = record { says = refl }

pub struct_here : (c : Counts) (ss : List ℕ) (i v k w : ℕ) (b : Bool) → v ≡ payload_at ss i → k ≡ v → w ≡ kind_at ss i → b ≡ inside_text c w
    → (b && ltb k c.structs) ≡ (inside_text c (struct_word ss i) && ltb (order_word ss i) c.structs)
unfolding struct_word order_word
struct_here c ss i v k w b ev ek ew eb = rw (eb, ew, ek, ev)

-- each name before the next
module _ (n : ℕ) (ss t : List ℕ) where
  abbrev pub ascending : ℕ → Bool
  ascending i = before (name_in_order ss t i) (name_in_order ss t (suc i))

  pub ascends_here : (i w v : ℕ) (p q : List ℕ) (b : Bool) → w ≡ struct_word ss (order_word ss i) → p ≡ part t w → v ≡ struct_word ss (order_word ss (i + 1)) → q ≡ part t v
      → b ≡ before p q → b ≡ ascending i
  ascends_here i w v p q b ew ep ev eq eb =
      let z : i + 1 ≡ suc i = omega arith in
      eb ∙ rw (name_here ss t i w p ew ep, name_here ss t (suc i) v q (rw z at ev) eq)

module _ (c : Counts) (ss t : List ℕ) (a : Bool) (e : a ≡ (leb c.structs (places 2 ss) && every_from c.structs 0 (λ i. inside_text c (struct_word ss i) && ltb (order_word ss i) c.structs))) where
  pub structs_is : a ≡ true → (b : Bool) → b ≡ every_from (c.structs - 1) 0 (λ i. before (name_in_order ss t i) (name_in_order ss t (suc i))) → b ≡ structs_ok c ss t
  unfolding structs_ok
  structs_is h b f = rw (← e, h) f

  pub structs_not : a ≡ false → a ≡ structs_ok c ss t
  unfolding structs_ok
  structs_not h = h ∙ rw (← e, h)

pub functions_judged : (c : Counts) (fs : List ℕ) → Judged (functions_ok c fs) c.functions (places 2 fs) (function_ok c fs)
unfolding functions_ok
functions_judged c fs = record { says = refl }

pub function_is : (c : Counts) (fs : List ℕ) (i : ℕ) (name code a b s e : ℕ) (n : Bool)
    → code ≡ payload_at fs i → name ≡ kind_at fs i → n ≡ inside_text c name → a ≡ start code → b ≡ size code → s ≡ code_start fs i → e ≡ code_end fs i
    → (n && eqb a s && leb b 65535 && leb e 0xFFFF_FFFF) ≡ function_ok c fs i
unfolding function_ok name_word code_word
function_is c fs i name code a b s e n ec em en ea eb es ee = rw (en, em, ea, eb, es, ee, ec)

pub main_is : (fs t p : List ℕ) (w : ℕ) (r : Bool) → w ≡ kind_at fs 0 → p ≡ part t w → r ≡ same_bytes p (60 ∷ 109 ∷ 97 ∷ 105 ∷ 110 ∷ 62 ∷ []) → r ≡ main_ok fs t
unfolding main_ok main_name ascii name_word
main_is fs t p w r ew ep er = er ∙ rw (ep, ew)

pub codes_is : (c : Counts) (fs : List ℕ) (a b m o : ℕ) → a ≡ code_end fs 0 → b ≡ code_start fs c.functions
    → (main other : List ℕ) → m ≡ places 1 main → o ≡ places 1 other → (leb a m && leb b o) ≡ inside_codes c fs main other
unfolding inside_codes main_taken other_taken
codes_is c fs a b m o ea eb main other em eo = rw (ea, eb, em, eo)

-- the whole, clause by clause
pub whole_is : (c : Counts) (cs ss fs t : List ℕ) (m mp o op : ℕ) (b1 b2 b3 b4 b5 b6 b7 b8 : Bool)
    → b1 ≡ counts_ok c → b2 ≡ text_ok c t → b3 ≡ constants_ok c cs → b4 ≡ structs_ok c ss t → b5 ≡ functions_ok c fs → b6 ≡ main_ok fs t
    → ((x y : List ℕ) → length x ≡ m → length y ≡ o → b7 ≡ inside_codes c fs x y)
    → ((x y : List ℕ) → length x ≡ mp → length y ≡ op → b8 ≡ inside_codes c fs x y)
    → WholeIs c cs ss fs t m mp o op (b1 && b2 && b3 && b4 && b5 && b6 && b7 && b8)
unfolding program_ok
whole_is c cs ss fs t m mp o op b1 b2 b3 b4 b5 b6 b7 b8 e1 e2 e3 e4 e5 e6 e7 e8 = record {
  is = λ s q1 q2 q3 q4 q5 q6 q7 q8.
      rw (e1, e2, e3, e4, e5, e6, ← q1, ← q2, ← q3, ← q4) (rw (rw (← q3) at (e7 s.main s.other q5 q7), rw (← q3) at (e8 s.main_places s.other_places q6 q8)));
}

-- and of stores that are lent
pub stores_are : (c : Counts) (p : ProgramStores) {r : Bool}
    → WholeIs c p.constants.now p.structs.now p.functions.now p.text.now
    (length p.main.now) (length p.main_places.now) (length p.other.now) (length p.other_places.now) r
    → r ≡ program_ok c (stores_in p)
unfolding program_lent
stores_are c p whole = whole.is (stores_in p) refl refl refl refl refl refl refl refl
