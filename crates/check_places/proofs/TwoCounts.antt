-- What is told of the rule of counts is so: there are two Calls of the function, and they pass different counts.
use Rattle.std.specs.Prelude.{if◌then◌else◌, None, Option, Some}
use mathlib.Core.Path.{◌≡◌, refl, sym, ap, ◌∙◌}
use mathlib.Core.Bool.{Bool, true, false, true≢false, not, ◌&&◌, ◌||◌}
use mathlib.Core.List.{List, [], ◌∷◌, ◌++◌}
use Prim.Native.Nat.{ℕ, suc, ◌+◌, ◌≤◌, ◌<◌}
use native.Mathlib.Omega.{arith}
use lib.Dec.{eqb, ltb}
use lib.ListN.{length}
use borrow.Author.Tests.{eq-eqb, ltb-true, ltb-false, eqb-true}
use Rattle.model.specs.Programs.{Function, Program, function_at, stands}
use Rattle.check_rules.specs.declared.Rule.TheVariants as r
use Rattle.check_rules.specs.Rules.{Site, call, is_at, first_at, second_at, calls_at, calls_in, count_in, count_of, passes, is_in, every, code_of, Keeps}
use Rattle.check_code.proofs.Marks.{nothing_begins_there}
use Rattle.check_places.specs.declared.CallSite.{CallSite}
use Rattle.check_places.specs.Places.{first_not}
use Rattle.check_places.specs.Calls.{calls_other, call_in, called_at, first_call, count_told, first_of, other_of, IsCall, TwoCounts}

-- ---- the first position where a test fails is one of them, or none is

pub data Fails (test : ℕ → Bool) (none : ℕ) (is : List ℕ) : ℕ → Type 0 where
  nowhere : every test is ≡ true → Fails test none is none
  somewhere : {i : ℕ} → is_in i is ≡ true → test i ≡ false → Fails test none is i

behind_one : {test : ℕ → Bool} {none : ℕ} (i : ℕ) {is : List ℕ} {j : ℕ} → test i ≡ true → Fails test none is j → Fails test none (i ∷ is) j
unfolding every is_in
behind_one i e (nowhere h) = nowhere (rw e h)
behind_one i e (somewhere {i = j} h f) = somewhere (or_second (eqb j i) h) f
  where
    or_second : (b : Bool) {d : Bool} → d ≡ true → (b || d) ≡ true
    or_second true g = refl
    or_second false g = g

fails : (test : ℕ → Bool) (none : ℕ) (is : List ℕ) → Fails test none is (first_not test none is)
unfolding first_not every is_in
fails test none [] = nowhere refl
fails test none (i ∷ is) = at_once (test i) refl (fails test none is)
  where
    at_once : (b : Bool) → test i ≡ b → Fails test none is (first_not test none is) → Fails test none (i ∷ is) (if b then first_not test none is else i)
    at_once true e more = behind_one i e more
    at_once false e more = somewhere {i = i} (rw (eq-eqb i i refl)) e

-- ---- a Call that is looked for

module _ (f : ℕ) (any : Bool) (k : ℕ) where
  -- no such Call in a code; or one at i
  abbrev Quiet : List ℕ → Type 0
  Quiet code = every (λ i. not (calls_other f any k code i)) (stands code) ≡ true

  pub record Sounds (code : List ℕ) (i : ℕ) : Type 0 where
    pub position : is_in i (stands code) ≡ true
    pub calls : calls_other f any k code i ≡ true

  -- what is told of the one that is found in function g
  abbrev told_in : (g : ℕ) → List ℕ → CallSite
  told_in g code = record { function = g; position = call_in f any k code; count = second_at code (call_in f any k code) }

  -- what was found in functions that are numbered from g on
  pub data Finds : (g : ℕ) → List Function → Option CallSite → Type 0 where
    none : {g : ℕ} → Finds g [] None
    here : {g : ℕ} {h : Function} {hs : List Function} → Sounds h.code (call_in f any k h.code)
        → Finds g (h ∷ hs) (Some (told_in g h.code))
    there : {g : ℕ} {h : Function} {hs : List Function} {x : Option CallSite} → Quiet h.code → Finds (suc g) hs x → Finds g (h ∷ hs) x

  not_false : (b : Bool) → not b ≡ false → b ≡ true
  not_false true e = refl
  not_false false e = absurd (true≢false e)

  in_code : (code : List ℕ) {i : ℕ} → Fails (λ j. not (calls_other f any k code j)) (length code) (stands code) i
      → ((i < length code) → Sounds code i) × ((length code ≤ i) → Quiet code)
  in_code code (nowhere h) = (λ l. absurd (let z : ⊥ = omega arith in z), λ l. h)
  in_code code (somewhere {i = i} h e) = (
    λ l. record { position = h; calls = not_false (calls_other f any k code i) e },
    λ l. absurd (true≢false (sym h ∙ nothing_begins_there code i l)),
  )

  finds : (g : ℕ) (fs : List Function) → Finds g fs (first_call f any k g fs)
  unfolding first_call called_at call_in
  finds g [] = none
  finds g (h ∷ hs) = by_place (ltb (call_in f any k h.code) (length h.code)) refl (finds (suc g) hs)
    where
      seen : ((call_in f any k h.code < length h.code) → Sounds h.code (call_in f any k h.code)) × ((length h.code ≤ call_in f any k h.code) → Quiet h.code)
      seen = in_code h.code (fails (λ j. not (calls_other f any k h.code j)) (length h.code) (stands h.code))

      by_place : (b : Bool) → ltb (call_in f any k h.code) (length h.code) ≡ b → Finds (suc g) hs (first_call f any k (suc g) hs)
          → Finds g (h ∷ hs) (if b then Some (told_in g h.code) else first_call f any k (suc g) hs)
      by_place true e more = here (seen.0 (ltb-true _ _ e))
      by_place false e more = there (seen.1 (ltb-false _ _ e)) more

-- where it was found: function j of those that are looked at
record Located (f : ℕ) (any : Bool) (k g : ℕ) (fs : List Function) (c : CallSite) : Type 0 where
  j : ℕ
  number : c.function ≡ g + j
  there_is : j < length fs
  sounds : Sounds f any k (function_at fs j).code c.position
  count : second_at (function_at fs j).code c.position ≡ c.count

located : {f : ℕ} {any : Bool} {k g : ℕ} {fs : List Function} {x : Option CallSite} → Finds f any k g fs x → {c : CallSite} → x ≡ Some c → Located f any k g fs c
unfolding function_at
located none e = absurd (let z : ◌≡◌ {A = ℕ} 0 1 = cc in let y : ⊥ = omega arith in y)
located {f} {any} {k} {g} (here {h = h} s) {c} e =
    let same : told_in f any k g h.code ≡ c = cc in
    let same_function = ap (λ (d : CallSite). d.function) same in
    let same_place : call_in f any k h.code ≡ c.position = ap (λ (d : CallSite). d.position) same in
    record {
      j = 0;
      number = omega arith;
      there_is = omega arith;
      sounds = rw same_place at s;
      count = ap (second_at h.code) (sym same_place) ∙ ap (λ (d : CallSite). d.count) same;
    }
located (there q t) e =
    let l = located t e in
    let nearer = l.there_is in
    let number = l.number in
    record { j = suc l.j; number = omega arith; there_is = omega arith; sounds = l.sounds; count = l.count }

-- ---- a Call that is not found is not there, so that each passes the same

abbrev site_at : List ℕ → ℕ → Site
site_at code i = record { function = first_at code i; count = second_at code i }

module _ (f : ℕ) (any : Bool) (k' k : ℕ) (fits : (n : ℕ) → (any || not (eqb n k')) ≡ false → eqb n k ≡ true) where
  one_passes : (a b o d rest : Bool) → (o ≡ false → d ≡ true) → (not (a && (b && o)) && rest) ≡ true → (u : Site) (us : List Site) → eqb u.function f ≡ b
      → eqb u.count k ≡ d → (rest ≡ true → passes f k us ≡ true) → passes f k (if a then u ∷ us else us) ≡ true
  unfolding passes
  one_passes false b o d rest w h u us e g more = more h
  one_passes true false o d rest w h u us e g more = rw e (more h)
  one_passes true true true d rest w h u us e g more = absurd (true≢false (sym h))
  one_passes true true false d rest w h u us e g more = rw (e, g, w refl) (more h)

  quiet_passes : (code is : List ℕ) → every (λ i. not (calls_other f any k' code i)) is ≡ true → passes f k (calls_at code is) ≡ true
  unfolding every calls_at calls_other passes
  quiet_passes code [] h = refl
  quiet_passes code (i ∷ is) h =
      one_passes (is_at call code i) (eqb (first_at code i) f) (any || not (eqb (second_at code i) k')) (eqb (second_at code i) k)
      (every (λ j. not (calls_other f any k' code j)) is) (fits (second_at code i)) h (site_at code i) (calls_at code is) refl refl (quiet_passes code is)

  both_pass : (b : Bool) {x y : Bool} → (b && x) ≡ true → (x ≡ true → y ≡ true) → (b && y) ≡ true
  both_pass true e h = h e
  both_pass false e h = absurd (true≢false (sym e))

  pass_both : (us vs : List Site) → passes f k us ≡ true → passes f k vs ≡ true → passes f k (us ++ vs) ≡ true
  unfolding passes
  pass_both [] vs g h = h
  pass_both (u ∷ us) vs g h = both_pass (not (eqb u.function f) || eqb u.count k) g (λ e. pass_both us vs e h)

  none_passes : {g : ℕ} {fs : List Function} {x : Option CallSite} → Finds f any k' g fs x → x ≡ None → passes f k (calls_in fs) ≡ true
  unfolding calls_in passes
  none_passes none e = refl
  none_passes (here s) e = absurd (let z : ◌≡◌ {A = ℕ} 0 1 = cc in let y : ⊥ = omega arith in y)
  none_passes (there {h = h} q t) e = pass_both (calls_at h.code (stands h.code)) _ (quiet_passes h.code (stands h.code) q) (none_passes t e)

-- ---- the first Call passes the count that the function is taken with

and_no : (b : Bool) {d : Bool} → d ≡ false → (b && d) ≡ false
and_no true g = g
and_no false g = refl

not_every : (test : ℕ → Bool) (i : ℕ) (is : List ℕ) → is_in i is ≡ true → test i ≡ false → every test is ≡ false
unfolding every is_in
not_every test i [] h e = absurd (true≢false (sym h))
not_every test i (j ∷ is) h e = first_or (eqb i j) refl h (λ l. not_every test i is l e)
  where
    first_or : (b : Bool) → eqb i j ≡ b → (b || is_in i is) ≡ true → (is_in i is ≡ true → every test is ≡ false) → (test j && every test is) ≡ false
    first_or true g l more = let same : test j ≡ false = ap test (sym (eqb-true i j g)) ∙ e in rw same
    first_or false g l more = and_no (test j) (more l)

module _ (f k' : ℕ) (code : List ℕ) where
  abbrev quiet : ℕ → Bool
  quiet i = not (calls_other f true k' code i)

  one_counts : (a b : Bool) (i rest : ℕ) (all : Bool) (onward : ℕ) (u : Site) (us : List Site) → eqb u.function f ≡ b → u.count ≡ second_at code i
      → count_in f us ≡ (if all then rest else second_at code onward)
      → count_in f (if a then u ∷ us else us) ≡ (if not (a && (b && true)) && all then rest else second_at code (if not (a && (b && true)) then onward else i))
  unfolding count_in
  one_counts false b i rest all onward u us e g h = h
  one_counts true true i rest all onward u us e g h = rw e g
  one_counts true false i rest all onward u us e g h = rw e h

  spread : (a : Bool) (u : Site) (us vs : List Site) → (if a then u ∷ us else us) ++ vs ≡ (if a then u ∷ (us ++ vs) else (us ++ vs))
  spread true u us vs = refl
  spread false u us vs = refl

  calls_count : (end : ℕ) (is : List ℕ) (vs : List Site) → count_in f (calls_at code is ++ vs) ≡ (if every quiet is then count_in f vs else second_at code (first_not quiet end is))
  unfolding every calls_at calls_other first_not
  calls_count end [] vs = refl
  calls_count end (i ∷ is) vs =
      ap (count_in f) (spread (is_at call code i) (site_at code i) (calls_at code is) vs)
      ∙ one_counts (is_at call code i) (eqb (first_at code i) f) i (count_in f vs) (every quiet is) (first_not quiet end is) (site_at code i) (calls_at code is ++ vs) refl refl
      (calls_count end is vs)

first_counts : {f k' g : ℕ} {fs : List Function} {x : Option CallSite} → Finds f true k' g fs x → count_told x ≡ count_in f (calls_in fs)
unfolding calls_in call_in count_in count_told
first_counts none = refl
first_counts {f} {k'} (here {h = h} {hs = hs} s) =
    let found = not_every (λ i. not (calls_other f true k' h.code i)) _ (stands h.code) s.position (ap not s.calls) in
    sym (rw found at (calls_count f k' h.code (length h.code) (stands h.code) (calls_in hs)))
first_counts {f} {k'} (there {h = h} {hs = hs} q t) =
    first_counts t ∙ sym (rw q at (calls_count f k' h.code (length h.code) (stands h.code) (calls_in hs)))

-- THE LAW: the first Call tells the count
pub first_tells_the_count : (p : Program) (f : ℕ) → count_told (first_of p f) ≡ count_of p f
unfolding first_of count_of
first_tells_the_count p f = first_counts (finds f true 0 0 p.functions)

-- ---- the two Calls

both_so : (a b : Bool) → (a && b) ≡ true → (a ≡ true) × (b ≡ true)
both_so true b e = (refl, e)
both_so false b e = absurd (true≢false (sym e))

-- what was looked for is a Call of f, and passes what was asked for
heard : {f : ℕ} {any : Bool} {k : ℕ} {code : List ℕ} {i : ℕ} → Sounds f any k code i
    → (is_at call code i ≡ true) × (first_at code i ≡ f) × ((any || not (eqb (second_at code i) k)) ≡ true)
unfolding calls_other
heard {f} {any} {k} {code} {i} s =
    let a_call = both_so (is_at call code i) _ s.calls in
    let of-f = both_so (eqb (first_at code i) f) _ a_call.1 in
    (a_call.0, eqb-true _ _ of-f.0, of-f.1)

is_call : (p : Program) {f : ℕ} {any : Bool} {k : ℕ} {c : CallSite} → Located f any k 0 p.functions c → IsCall p f c.function c.position c.count
is_call p {f} {any} {k} {c} l =
    let number = l.number in
    let known = l.there_is in
    let here : l.j ≡ c.function = omega arith in
    let s : Sounds f any k (code_of p c.function) c.position = rw here at l.sounds in
    record {
      function = omega arith;
      position = s.position;
      is = (heard s).0;
      names = (heard s).1;
      passes = rw here at l.count;
    }

differs : (p : Program) {f k : ℕ} {c : CallSite} → Located f false k 0 p.functions c → c.count ≡ k → ⊥
differs p {k = k} {c = c} l e =
    let same : eqb (second_at (function_at p.functions l.j).code c.position) k ≡ true = eq-eqb _ _ (l.count ∙ e) in
    true≢false (sym (rw same at (heard l.sounds).2))

any_fits : (k' k n : ℕ) → (true || not (eqb n k')) ≡ false → eqb n k ≡ true
any_fits k' k n e = absurd (true≢false e)

same_fits : (k n : ℕ) → (false || not (eqb n k)) ≡ false → eqb n k ≡ true
same_fits k n e = by_case (eqb n k) e
  where
    by_case : (b : Bool) → not b ≡ false → b ≡ true
    by_case true g = refl
    by_case false g = absurd (true≢false g)

module _ (p : Program) (f : ℕ) (broken : Keeps p r.Counts f → ⊥) where
  not_all : passes f (count_of p f) (calls_in p.functions) ≡ true → ⊥
  unfolding Keeps
  not_all e = broken e

  with_both : {c : CallSite} → first_of p f ≡ Some c → (y : Option CallSite) → other_of p f ≡ y → TwoCounts p f
  unfolding first_of other_of count_told
  with_both d None e = absurd (not_all (none_passes f false (count_of p f) (count_of p f) (same_fits (count_of p f)) (finds f false (count_of p f) 0 p.functions) e))
  with_both {c} d (Some c') e =
      let first = finds f true 0 0 p.functions in
      let other = located (finds f false (count_of p f) 0 p.functions) e in
      let taken : c.count ≡ count_of p f = ap count_told (sym d) ∙ first_tells_the_count p f in
      record {
        by = c.function;
        at = c.position;
        by' = c'.function;
        at' = c'.position;
        count = c'.count;
        first = d ∙ ap (λ (m : ℕ). Some (record c { count = m })) taken;
        first_is = rw taken at (is_call p (located first d));
        other = e;
        other_is = is_call p other;
        differ = differs p other;
      }

  with_first : (x : Option CallSite) → first_of p f ≡ x → TwoCounts p f
  unfolding first_of
  with_first None d = absurd (not_all (none_passes f true 0 (count_of p f) (any_fits 0 (count_of p f)) (finds f true 0 0 p.functions) d))
  with_first (Some c) d = with_both d (other_of p f) refl

  -- THE LAW: where the rule of counts is broken, the two Calls that are told are there, and they differ
  pub two_counts_are_told : TwoCounts p f
  two_counts_are_told = with_first (first_of p f) refl
