-- Where a program passed the earlier rules: paths come to instructions of the walk, and what holds of every instruction holds where they come.
use Rattle.std.specs.Prelude.{if◌then◌else◌}
use mathlib.Core.Path.{◌≡◌, refl, sym, ◌∙◌}
use mathlib.Core.Bool.{Bool, true, false, not, ◌&&◌, ◌||◌, true≢false}
use mathlib.Core.List.{List, [], ◌∷◌, ◌++◌}
use Prim.Native.Nat.{ℕ, zero, suc, ◌+◌, ◌≤◌, ◌<◌}
use native.Mathlib.Omega.{arith}
use borrow.Author.Tests.{lt-ltb, eqb-true, eqb-false, eq-eqb, not-true}
use lib.Dec.{ltb, eqb}
use lib.ListN.{length}
use Rattle.model.specs.Programs.{Function, Program, function_at, behind, next_in, stands_for, stands}
use Rattle.check_rules.specs.declared.Rule.TheVariants as r
use Rattle.check_rules.specs.Rules.{every, is_in, lands, jump_at, is_jump, target_at, Path, starts, goes, leaps, Keeps, Passed, code_of, is_main, count_of, calls_in, calls_at, Site, count_in, passes, call_at, is_at, call, call_callable, first_at, second_at, whole_at, numbers_at, suffices, Heights}
use Rattle.value.proofs.Coding.{and_left, and_right}
use Rattle.laws_check.specs.Good.{Stands}

-- ---- tests of lists

-- what one of two tests says
or_elim : {A : Type 0} (x y : Bool) → (x || y) ≡ true → (x ≡ true → A) → (y ≡ true → A) → A
or_elim true y e p q = p refl
or_elim false y e p q = q e

pub or_left : (x y : Bool) → x ≡ true → (x || y) ≡ true
or_left x y e = rw e refl

pub or_right : (x y : Bool) → y ≡ true → (x || y) ≡ true
or_right true y e = refl
or_right false y e = e

every_in : (test : ℕ → Bool) (is : List ℕ) → every test is ≡ true → (i : ℕ) → is_in i is ≡ true → test i ≡ true
unfolding every is_in
every_in test [] e i h = absurd (true≢false (sym h))
every_in test (j ∷ is) e i h =
    or_elim (eqb i j) (is_in i is) h
    (λ q. let same : i ≡ j = eqb-true i j q in rw same (and_left (test j) (every test is) e))
    (λ q. every_in test is (and_right (test j) (every test is) e) i q)

-- ---- the walk is closed: behind an instruction of the walk stands the next one, or the code's end

next_later : (code : List ℕ) (i : ℕ) → i < next_in code i
unfolding behind
next_later code i = omega arith

first_in : (n : ℕ) (code : List ℕ) (i : ℕ) → i < length code → length code ≤ i + n → is_in i (stands_for n code i) ≡ true
unfolding stands_for is_in
first_in zero code i l h = absurd (let z : ⊥ = omega arith in z)
first_in (suc n) code i l h = rw (lt-ltb i (length code) l) (or_left (eqb i i) _ (eq-eqb i i refl))

next_among : (code rest : List ℕ) (i j : ℕ) → (j ≡ i → is_in (next_in code j) rest ≡ true) → (is_in j rest ≡ true → is_in (next_in code j) rest ≡ true)
    → (b : Bool) → is_in j (if b then i ∷ rest else []) ≡ true → is_in (next_in code j) (if b then i ∷ rest else []) ≡ true
unfolding is_in
next_among code rest i j p q true e = or_right (eqb (next_in code j) i) (is_in (next_in code j) rest) (or_elim (eqb j i) (is_in j rest) e (λ z. p (eqb-true j i z)) q)
next_among code rest i j p q false e = e

next_in_lem : (n : ℕ) (code : List ℕ) (i : ℕ) → length code ≤ i + n → (j : ℕ) → is_in j (stands_for n code i) ≡ true → next_in code j < length code
    → is_in (next_in code j) (stands_for n code i) ≡ true
unfolding stands_for is_in
next_in_lem zero code i h j e l = e
next_in_lem (suc n) code i h j e l =
    let later = next_later code i in
    next_among code (stands_for n code (next_in code i)) i j
    (λ q. rw q (first_in n code (next_in code i) (rw q at l) (omega arith)))
    (λ q. next_in_lem n code (next_in code i) (omega arith) j q l)
    (ltb i (length code)) e

-- ---- where every jump lands on an instruction, every path comes to instructions

module _ (main : Bool) (count : ℕ) (code : List ℕ) (jumps : every (jump_at main code) (stands code) ≡ true) where
  landed_in : (j : ℕ) → lands main code j ≡ true → j < length code → is_in j (stands code) ≡ true
  unfolding lands
  landed_in j e l =
      or_elim (is_in j (stands code)) (main && eqb j (length code)) e (λ q. q)
      (λ q. absurd (let z : j ≡ length code = eqb-true _ _ (and_right main (eqb j (length code)) q) in let y : ⊥ = omega arith in y))

  jump_lands : (i : ℕ) → is_in i (stands code) ≡ true → is_jump code i ≡ true → lands main code (target_at code i) ≡ true
  unfolding jump_at
  jump_lands i e j =
      or_elim (not (is_jump code i)) (lands main code (target_at code i)) (every_in (jump_at main code) (stands code) jumps i e)
      (λ q. absurd (true≢false (sym j ∙ not-true (is_jump code i) q))) (λ q. q)

  pub a_path_comes_to_the_walk : {i h : ℕ} → Path main count code i h → i < length code → is_in i (stands code) ≡ true
  unfolding stands
  a_path_comes_to_the_walk starts l = first_in (length code) code 0 l (omega arith)
  a_path_comes_to_the_walk (goes {i = i} q k e) l = next_in_lem (length code) code 0 (omega arith) i (a_path_comes_to_the_walk q k) l
  a_path_comes_to_the_walk (leaps {i = i} q k j) l = landed_in (target_at code i) (jump_lands i (a_path_comes_to_the_walk q k) j) l

-- ---- every Call of a function passes its count

module _ (f k : ℕ) where
  passes_both : (cs ds : List Site) → passes f k (cs ++ ds) ≡ true → (passes f k cs ≡ true) × (passes f k ds ≡ true)
  unfolding passes
  passes_both [] ds e = (refl, e)
  passes_both (c ∷ cs) ds e =
      let t = not (eqb c.function f) || eqb c.count k in
      let q = passes_both cs ds (and_right t (passes f k (cs ++ ds)) e) in
      (rw (and_left t (passes f k (cs ++ ds)) e, q.0), q.1)

  passes_first : (c : Site) (cs : List Site) → passes f k (c ∷ cs) ≡ true → c.function ≡ f → c.count ≡ k
  unfolding passes
  passes_first c cs e q =
      or_elim (not (eqb c.function f)) (eqb c.count k) (and_left (not (eqb c.function f) || eqb c.count k) (passes f k cs) e)
      (λ z. absurd (eqb-false c.function f (not-true _ z) q)) (eqb-true c.count k)

  passes_rest : (b : Bool) (c : Site) (cs : List Site) → passes f k (if b then c ∷ cs else cs) ≡ true → passes f k cs ≡ true
  unfolding passes
  passes_rest true c cs e = and_right (not (eqb c.function f) || eqb c.count k) (passes f k cs) e
  passes_rest false c cs e = e

  passes_at : (code is : List ℕ) → passes f k (calls_at code is) ≡ true → (i : ℕ) → is_in i is ≡ true → is_at call code i ≡ true → first_at code i ≡ f → second_at code i ≡ k
  unfolding calls_at
  passes_at code [] e i h c q = absurd (true≢false (sym (unfold is_in in h)))
  passes_at code (j ∷ is) e i h c q =
      or_elim (eqb i j) (is_in i is) (unfold is_in in h)
      (λ z. let same : i ≡ j = eqb-true i j z in rw same (passes_first _ (calls_at code is) (rw (rw same at c) at e) (rw same at q)))
      (λ z. passes_at code is (passes_rest (is_at call code j) _ (calls_at code is) e) i z c q)

  passes_in : (fs : List Function) → passes f k (calls_in fs) ≡ true → (g : ℕ) → g < length fs → passes f k (calls_at (function_at fs g).code (stands (function_at fs g).code)) ≡ true
  unfolding calls_in function_at
  passes_in [] e g l = absurd (let z : ⊥ = omega arith in z)
  passes_in (x ∷ fs) e zero l = (passes_both (calls_at x.code (stands x.code)) (calls_in fs) e).0
  passes_in (x ∷ fs) e (suc g) l = passes_in fs (passes_both (calls_at x.code (stands x.code)) (calls_in fs) e).1 g (omega arith)

-- ---- no Call names main, so that it is taken with none

not_counted : (b : Bool) (c : Site) (cs rest : List Site) → (b && eqb c.function 0) ≡ false → count_in 0 ((if b then c ∷ cs else cs) ++ rest) ≡ count_in 0 (cs ++ rest)
unfolding count_in
not_counted true c cs rest e = rw e
not_counted false c cs rest e = refl

none_counted : (code is : List ℕ) (rest : List Site) → every (call_at code) is ≡ true → count_in 0 (calls_at code is ++ rest) ≡ count_in 0 rest
unfolding every call_at calls_at
none_counted code [] rest e = refl
none_counted code (i ∷ is) rest e =
    let fine = and_left (call_at code i) (every (call_at code) is) e in
    let other = and_right (not (is_at call_callable code i)) (not (is_at call code i && eqb (first_at code i) 0)) fine in
    not_counted (is_at call code i) _ (calls_at code is) rest (not-true _ other) ∙ none_counted code is rest (and_right (call_at code i) (every (call_at code) is) e)

main_uncalled : (fs : List Function) → ((f : ℕ) → f < length fs → every (call_at (function_at fs f).code) (stands (function_at fs f).code) ≡ true) → count_in 0 (calls_in fs) ≡ 0
unfolding calls_in function_at count_in
main_uncalled [] h = refl
main_uncalled (x ∷ fs) h = none_counted x.code (stands x.code) (calls_in fs) (h 0 (omega arith)) ∙ main_uncalled fs (λ f l. h (suc f) (omega arith))

-- ---- a passed program, at an instruction that a path comes to

module _ (p : Program) (ok : Passed p) where
  pub main_is_taken_with_none : count_of p 0 ≡ 0
  unfolding count_of Keeps
  main_is_taken_with_none = main_uncalled p.functions (ok r.Calls)

  module _ (f : ℕ) {i h : ℕ} (stands_here : Stands p f i h) (l : i < length (code_of p f)) where
    known : f < length p.functions
    known = stands_here.known

    in_the_walk : is_in i (stands (code_of p f)) ≡ true
    unfolding Keeps
    in_the_walk = a_path_comes_to_the_walk (is_main f) (count_of p f) (code_of p f) (ok r.Jumps f known) stands_here.path l

    pub whole_here : whole_at (code_of p f) i ≡ true
    unfolding Keeps
    whole_here = every_in (whole_at (code_of p f)) (stands (code_of p f)) (ok r.Instructions f known) i in_the_walk

    pub numbers_here : numbers_at p (code_of p f) i ≡ true
    unfolding Keeps
    numbers_here = every_in (numbers_at p (code_of p f)) (stands (code_of p f)) (ok r.Numbers f known) i in_the_walk

    pub call_here : call_at (code_of p f) i ≡ true
    unfolding Keeps
    call_here = every_in (call_at (code_of p f)) (stands (code_of p f)) (ok r.Calls f known) i in_the_walk

    pub suffices_here : suffices (code_of p f) i h ≡ true
    unfolding Keeps
    suffices_here = let z : Heights (is_main f) (count_of p f) (code_of p f) = ok r.Heights f known in z.enough stands_here.path l

    pub count_here : is_at call (code_of p f) i ≡ true → first_at (code_of p f) i < length p.functions → second_at (code_of p f) i ≡ count_of p (first_at (code_of p f) i)
    unfolding Keeps
    count_here c k =
        let g = first_at (code_of p f) i in
        passes_at g (count_of p g) (code_of p f) (stands (code_of p f)) (passes_in g (count_of p g) p.functions (ok r.Counts g k) f known) i in_the_walk c refl
