-- What good order hands on.
use mathlib.Core.Path.{◌≡◌, refl}
use mathlib.Core.Bool.{Bool, true, false, ◌&&◌, ◌||◌}
use mathlib.Core.List.{List}
use Prim.Native.Nat.{ℕ, zero, suc, ◌+◌, ◌-◌, ◌*◌, ◌≤◌, ◌<◌}
use native.Mathlib.Omega.{arith}
use native.Mathlib.Numerals.{lt_of_le_of_ne}
use lib.Dec.{eqb, leb, ltb}
use lib.ListN.{length}
use borrow.Author.Tests.{leb-true, ltb-true, le-leb, lt-ltb, eqb-true, eqb-false}
use Rattle.model.specs.declared.Counts.{Counts}
use Rattle.model.specs.Basics.{every_from}
use Rattle.model.specs.Values.{places, kind_at, payload_at}
use Rattle.model.specs.Programs.{before, code_limit}
use Rattle.model.specs.Stores.{start, size, struct_word, order_word, name_word, code_word, code_end}
use Rattle.model.specs.Orders.{counts_ok, text_ok, inside_text, constant_ok, constants_ok, name_in_order, structs_ok, code_start, function_ok, functions_ok, main_taken, other_taken, inside_codes}
use Rattle.laws_names.specs.Sorted.{InOrder}
use Rattle.layout.proofs.Bools.{either_way, and_left, and_right, and_both}
use Rattle.layout.proofs.Parts.{room_1, room_2}
use Rattle.laws_programs.proofs.Every.{passed, pass_all}

-- the counts are within their limits, and the current function is one of them
pub record Limited (c : Counts) : Type 0 where
  pub constants : c.constants ≤ 65535
  pub structs : c.structs ≤ 65536
  pub some : 1 ≤ c.functions
  pub functions : c.functions ≤ 65536
  pub text : c.text ≤ 0xFFFF_FFFF
  pub current : c.current < c.functions
  pub main_or_newest : (eqb c.current 0 || eqb (suc c.current) c.functions) ≡ true
  pub newest : (c.current ≡ 0 → ⊥) → suc c.current ≡ c.functions

-- main or the newest
which : (i n : ℕ) → 1 ≤ n → (eqb i 0 || eqb (suc i) n) ≡ true → (i < n) × ((i ≡ 0 → ⊥) → suc i ≡ n)
which i n h e = by (eqb i 0) (eqb (suc i) n) e (λ x. eqb-true i 0 x) (λ x. eqb-true (suc i) n x)
  where
    by : (a b : Bool) → (a || b) ≡ true → (a ≡ true → i ≡ 0) → (b ≡ true → suc i ≡ n) → (i < n) × ((i ≡ 0 → ⊥) → suc i ≡ n)
    by true b e f g = let z : i ≡ 0 = f refl in (omega arith, λ k. absurd (k z))
    by false b e f g = let z : suc i ≡ n = g e in (omega arith, λ k. z)

pub limited : (c : Counts) → counts_ok c ≡ true → Limited c
unfolding counts_ok
limited c e =
    let a1 = leb c.constants 65535 in let a2 = leb c.structs 65536 in let a3 = leb 1 c.functions in
    let a4 = leb c.functions 65536 in let a5 = leb c.text 0xFFFF_FFFF in let a6 = eqb c.current 0 || eqb (suc c.current) c.functions in
    let e5 = and_left (a1 && a2 && a3 && a4 && a5) a6 e in
    let e4 = and_left (a1 && a2 && a3 && a4) a5 e5 in
    let e3 = and_left (a1 && a2 && a3) a4 e4 in
    let e2 = and_left (a1 && a2) a3 e3 in
    let one : 1 ≤ c.functions = leb-true 1 c.functions (and_right (a1 && a2) a3 e3) in
    let w = which c.current c.functions one (and_right (a1 && a2 && a3 && a4 && a5) a6 e) in
    record {
      constants = leb-true c.constants 65535 (and_left a1 a2 e2);
      structs = leb-true c.structs 65536 (and_right a1 a2 e2);
      some = one;
      functions = leb-true c.functions 65536 (and_right (a1 && a2 && a3) a4 e4);
      text = leb-true c.text 0xFFFF_FFFF (and_right (a1 && a2 && a3 && a4) a5 e5);
      current = w.0;
      main_or_newest = and_right (a1 && a2 && a3 && a4 && a5) a6 e;
      newest = w.1;
    }

-- the text that is taken lies in its store
pub text_within : (c : Counts) (t : List ℕ) → text_ok c t ≡ true → c.text ≤ length t
unfolding text_ok
text_within c t e = let h : c.text ≤ places 1 t = leb-true c.text (places 1 t) e in let x = room_1 t in omega arith

pub text_inside : (c : Counts) (w : ℕ) → inside_text c w ≡ true → start w + size w ≤ c.text
unfolding inside_text
text_inside c w e = leb-true (start w + size w) c.text e

-- the constants lie in their store, and each is of one of the four kinds
pub record Constants (c : Counts) (cs : List ℕ) : Type 0 where
  pub within : c.constants ≤ places 2 cs
  pub each : (i : ℕ) → i < c.constants → constant_ok c (kind_at cs i) (payload_at cs i) ≡ true

pub constants_known : (c : Counts) (cs : List ℕ) → constants_ok c cs ≡ true → Constants c cs
unfolding constants_ok
constants_known c cs e =
    let a = leb c.constants (places 2 cs) in let b = every_from c.constants 0 (λ i. constant_ok c (kind_at cs i) (payload_at cs i)) in
    record {
      within = leb-true c.constants (places 2 cs) (and_left a b e);
      each = passed c.constants (λ j. constant_ok c (kind_at cs j) (payload_at cs j)) (and_right a b e);
    }

-- the struct names lie in their store and in the text, and stand in order
pub record Structs (c : Counts) (ss t : List ℕ) : Type 0 where
  pub within : c.structs ≤ places 2 ss
  pub inside : (i : ℕ) → i < c.structs → inside_text c (struct_word ss i) ≡ true
  pub order : InOrder c.structs ss t

module _ (c : Counts) (ss t : List ℕ) where
  placed : ℕ → Bool
  placed i = inside_text c (struct_word ss i) && ltb (order_word ss i) c.structs

  next : ℕ → Bool
  next i = before (name_in_order ss t i) (name_in_order ss t (suc i))

  pub structs_known : structs_ok c ss t ≡ true → Structs c ss t
  unfolding structs_ok placed next
  structs_known e =
      let a = leb c.structs (places 2 ss) in let b = every_from c.structs 0 placed in let d = every_from (c.structs - 1) 0 next in
      let f : (a && b) ≡ true = and_left (a && b) d e in
      let each : (i : ℕ) → i < c.structs → placed i ≡ true = passed c.structs placed (and_right a b f) in
      record {
        within = leb-true c.structs (places 2 ss) (and_left a b f);
        inside = λ i h. and_left (inside_text c (struct_word ss i)) (ltb (order_word ss i) c.structs) (each i h);
        order = record {
          below = λ i h. ltb-true (order_word ss i) c.structs (and_right (inside_text c (struct_word ss i)) (ltb (order_word ss i) c.structs) (each i h));
          ascending = record { next = λ i h. passed (c.structs - 1) next (and_right (a && b) d e) i (omega arith) };
        };
      }

  pub structs_good : Structs c ss t → structs_ok c ss t ≡ true
  unfolding structs_ok placed next
  structs_good g =
      let a = leb c.structs (places 2 ss) in let b = every_from c.structs 0 placed in let d = every_from (c.structs - 1) 0 next in
      and_both (a && b) d
      (and_both a b (le-leb c.structs (places 2 ss) g.within)
      (pass_all c.structs 0 placed (λ i h.
      let z : 0 + i ≡ i = omega arith in
      rw z (and_both (inside_text c (struct_word ss i)) (ltb (order_word ss i) c.structs) (g.inside i h) (lt-ltb (order_word ss i) c.structs (g.order.below i h))))))
      (pass_all (c.structs - 1) 0 next (λ i h. let z : 0 + i ≡ i = omega arith in rw z (g.order.ascending.next i (omega arith))))

-- function i: its words lie in the store, its name in the text, its code behind the others
pub record Known (c : Counts) (fs : List ℕ) (i : ℕ) : Type 0 where
  pub few : i < 0xFFFF_FFFF
  pub within : 2 * i + 2 ≤ length fs
  pub name : start (name_word fs i) + size (name_word fs i) ≤ c.text
  pub starts : start (code_word fs i) ≡ code_start fs i
  pub short : size (code_word fs i) ≤ 65535
  pub ends : code_end fs i ≤ 0xFFFF_FFFF

pub function_known : (c : Counts) (fs : List ℕ) → functions_ok c fs ≡ true → (i : ℕ) → i < c.functions → Known c fs i
unfolding functions_ok function_ok
function_known c fs e i h =
    let a = leb c.functions (places 2 fs) in let b = every_from c.functions 0 (function_ok c fs) in
    let r : c.functions ≤ places 2 fs = leb-true c.functions (places 2 fs) (and_left a b e) in
    let x = room_2 fs in
    let f : function_ok c fs i ≡ true = passed c.functions (function_ok c fs) (and_right a b e) i h in
    let b1 = inside_text c (name_word fs i) in let b2 = eqb (start (code_word fs i)) (code_start fs i) in
    let b3 = leb (size (code_word fs i)) code_limit in let b4 = leb (code_end fs i) 0xFFFF_FFFF in
    let f3 = and_left (b1 && b2 && b3) b4 f in
    let f2 = and_left (b1 && b2) b3 f3 in
    record {
      few = omega arith;
      within = omega arith;
      name = text_inside c (name_word fs i) (and_left b1 b2 f2);
      starts = eqb-true (start (code_word fs i)) (code_start fs i) (and_right b1 b2 f2);
      short = leb-true (size (code_word fs i)) 65535 (and_right (b1 && b2) b3 f3);
      ends = leb-true (code_end fs i) 0xFFFF_FFFF (and_right (b1 && b2 && b3) b4 f);
    }

-- the codes of the others stand one behind the other
start_end : (c : Counts) (fs : List ℕ) (j : ℕ) → Known c fs j → code_start fs j ≤ code_end fs j
unfolding code_end
start_end c fs j q = rw (← q.starts) (omega arith)

pub ascending : (c : Counts) (fs : List ℕ) → functions_ok c fs ≡ true → (i j : ℕ) → 1 ≤ i → i < j → j ≤ c.functions → code_end fs i ≤ code_start fs j
unfolding code_start
ascending c fs g i zero a b d = absurd (let y : ⊥ = omega arith in y)
ascending c fs g i (suc zero) a b d = absurd (let y : ⊥ = omega arith in y)
ascending c fs g i (suc (suc j)) a b d = either_way (eqb i (suc j))
    (λ t. let e : i ≡ suc j = eqb-true i (suc j) t in rw e (omega arith))
    (λ f.
    let l : i < suc j = lt_of_le_of_ne (omega arith) (eqb-false i (suc j) f) in
    let r : code_end fs i ≤ code_start fs (suc j) = ascending c fs g i (suc j) a l (omega arith) in
    let q : code_start fs (suc j) ≤ code_end fs (suc j) = start_end c fs (suc j) (function_known c fs g (suc j) (omega arith)) in
    omega arith)

-- the current function's code lies in its store
pub codes_behind : (fs : List ℕ) (i n : ℕ) → (i ≡ 0 → ⊥) → suc i ≡ n → code_start fs n ≡ code_end fs i
unfolding code_start
codes_behind fs zero n h e = absurd (h refl)
codes_behind fs (suc i) n h e = rw (← e)

module _ (c : Counts) (fs m o : List ℕ) (l : Limited c) (e : inside_codes c fs m o ≡ true) where
  pub code_in_main : c.current ≡ 0 → code_end fs c.current ≤ length m
  unfolding inside_codes main_taken
  code_in_main z =
      let h : code_end fs 0 ≤ places 1 m = leb-true (code_end fs 0) (places 1 m) (and_left (leb (code_end fs 0) (places 1 m)) (leb (other_taken c fs) (places 1 o)) e) in
      let x = room_1 m in rw z (omega arith)

  pub code_in_other : (c.current ≡ 0 → ⊥) → code_end fs c.current ≤ length o
  unfolding inside_codes other_taken
  code_in_other z =
      let h : code_start fs c.functions ≤ places 1 o = leb-true (code_start fs c.functions) (places 1 o)
      (and_right (leb (main_taken fs) (places 1 m)) (leb (code_start fs c.functions) (places 1 o)) e) in
      let k : code_start fs c.functions ≡ code_end fs c.current = codes_behind fs c.current c.functions z (l.newest z) in
      let x = room_1 o in omega arith
