-- Rule 6: each function's greatest height put in the place of its entry of the tally.
use mathlib.Core.Path.{◌≡◌, refl, sym, ap, subst, ◌∙◌}
use mathlib.Core.Bool.{true}
use mathlib.Core.List.{List}
use mathlib.Core.Logic.{⊎_elim}
use Prim.Native.Nat.{ℕ, ◌+◌, ◌-◌, ◌≤◌, ◌<◌}
use native.Mathlib.Omega.{arith}
use native.Mathlib.Nat.{eq-or-lt_of_le}
use lib.Dec.{eqb}
use lib.ListN.{length, get_or, take, drop, set, length-set}
use lib.Seq.{get_or-set_same, get_or-set_other}
use Rattle.model.specs.Programs.{Program, stands}
use Rattle.image_judge.specs.declared.Sizes.{Sizes}
use Rattle.image_codes.specs.declared.Code.{Code}
use Rattle.image_codes.specs.Links.{CodePost}
use Rattle.image_load.proofs.Loads.{fine_one}
use Rattle.check_rules.specs.declared.Rule.TheVariants as r
use Rattle.check_rules.specs.Rules.{whole_at, jump_at, calls_in, count_of, every, code_of, is_main, Heights, Greatest, Keeps}
use Rattle.check_code.proofs.Counting.{other_counts}
use Rattle.check_heights.specs.Answer.{HeightsPre, HeightsMeans, HeightsPost}
use Rattle.check_image.specs.Links.{Lowest, Measurable, GreatestBelow, Measured, MeasuredPost}
use Rattle.check_image.proofs.Judged.{few_functions, Sofar, none_yet, its_code, its_size, one_breaks, one_more}
use Rattle.std.specs.Prelude.{None, Option, Some}

-- below f the greatest heights stand, from f on the tally's entries
pub record Measuring (p : Program) (s : List ℕ) (f at : ℕ) (tally now : List ℕ) : Type 0 where
  pub sofar : Sofar (Keeps p r.Heights) p s f at
  pub greatest : GreatestBelow p f now
  pub rest : (g : ℕ) → f ≤ g → get_or now g 0 ≡ get_or tally g 0
  pub same : length now ≡ length tally

-- whatever is known of the image
pub record Heighten (s : List ℕ) (z : Sizes) (tally before : List ℕ) (f at : ℕ) (now table : List ℕ) : Type 0 where
  pub measuring : (m : Measurable s z tally) → Measuring m.ready.says.program s f at tally now
  pub entries : length now ≡ length tally
  pub same : length table ≡ length before

pub none_measured : (s : List ℕ) (z : Sizes) (tally table : List ℕ) → Heighten s z tally table 0 z.first tally table
none_measured s z tally table = record {
  measuring = λ m. record {
    sofar = none_yet _ m.ready;
    greatest = λ g l. absurd (let y : ⊥ = omega arith in y);
    rest = λ g l. refl;
    same = refl;
  };
  entries = refl;
  same = refl;
}

module _ {s : List ℕ} {z : Sizes} {tally : List ℕ} (m : Measurable s z tally) where
  abbrev p : Program
  p = m.ready.says.program

  module _ {f at : ℕ} {now : List ℕ} (t : Measuring p s f at tally now) where
    pub entry_there : f < z.functions → z.functions ≤ 65536 → f < length now
    entry_there l few = let n = t.same in let k = m.room in omega arith

    result : (hs : List ℕ) → Lowest (Keeps p r.Heights) (length p.functions) f → GreatestBelow p f hs → MeasuredPost s hs f
    result hs l g = record {
      measures = λ q e. subst (λ (x : Program). Measured x hs f) (fine_one m.ready.says.judged e) (record { lowest = l; greatest = g });
    }

    module _ (l : f < z.functions) {c : Code} (post : CodePost (eqb f 0) s at c) {count : ℕ} (told : count ≡ get_or now f 0 - 2) where
      abbrev slice : List ℕ
      slice = take (c.from + c.size - c.from) (drop c.from s)

      code : code_of p f ≡ slice
      code = its_code _ m.ready t.sofar l post

      known : f < length p.functions
      known = let many = m.ready.says.sizes.functions in omega arith

      entry : get_or now f 0 ≡ get_or tally f 0
      entry = t.rest f (omega arith)

      -- an entry of 1 would break rule 4
      counted : count ≡ count_of p f
      unfolding count_of
      counted = told ∙ ap (λ (v : ℕ). v - 2) entry ∙ sym (other_counts f (calls_in p.functions) (m.tallies.each f) (m.differ f known))

      pub heights_asked : (table : List ℕ) → 65536 ≤ length table → HeightsPre (eqb f 0) count slice table
      unfolding Keeps
      heights_asked table room =
          let size = its_size _ m.ready t.sofar l post in
          let few = m.tallies.few f in
          let at_entry_lem = entry in
          record {
            whole = subst (λ (b : List ℕ). every (whole_at b) (stands b) ≡ true) code (m.whole f known);
            landing = subst (λ (b : List ℕ). every (jump_at (is_main f) b) (stands b) ≡ true) code (m.landing f known);
            few = let e = told in omega arith;
            codes = size;
            room = omega arith;
          }

      module _ {h : Option ℕ} (answer : HeightsPost (eqb f 0) count slice h) where
        pub one_uneven : h ≡ None → MeasuredPost s now f
        unfolding Keeps
        one_uneven e =
            let no : Heights (eqb f 0) count slice → ⊥ = subst (λ (x : Option ℕ). HeightsMeans x (eqb f 0) count slice) e answer.means in
            let breaks : Keeps p r.Heights f → ⊥ = λ k. no (rw (counted, ← code) k) in
            result now (one_breaks _ m.ready t.sofar l post breaks) t.greatest

        pub one_measured : (g : ℕ) → h ≡ Some g → z.functions ≤ 65536 → Measuring p s (f + 1) c.next tally (set now f g)
        unfolding Keeps
        one_measured g e few =
            let both : HeightsMeans (Some g) (eqb f 0) count slice = subst (λ (x : Option ℕ). HeightsMeans x (eqb f 0) count slice) e answer.means in
            let kept : Heights (is_main f) (count_of p f) (code_of p f) = rw (← counted, code) both.0 in
            let most : Greatest (is_main f) (count_of p f) (code_of p f) g = rw (← counted, code) both.1 in
            let room = entry_there l few in
            let put : get_or (set now f g) f 0 ≡ g = get_or-set_same now f g 0 room in
            record {
              sofar = one_more _ m.ready t.sofar l post kept;
              greatest = λ i n. ⊎_elim
                  (λ (x : i ≡ f). rw (x, put) most)
                  (λ k. rw (get_or-set_other now f i g 0 (λ (x : i ≡ f). let y : ⊥ = omega arith in y)) (t.greatest i k))
                  (eq-or-lt_of_le (let y : i ≤ f = omega arith in y));
              rest = λ i n. get_or-set_other now f i g 0 (λ (x : i ≡ f). let y : ⊥ = omega arith in y) ∙ t.rest i (omega arith);
              same = length-set now f g ∙ t.same;
            }

module _ {s : List ℕ} {z : Sizes} {tally before : List ℕ} {f at : ℕ} {now table : List ℕ} (t : Heighten s z tally before f at now table) where
  pub entry_inside : Measurable s z tally → f < z.functions → f < length now
  entry_inside m l = entry_there m (t.measuring m) l (few_functions m.ready)

  module _ (l : f < z.functions) {c : Code} (post : CodePost (eqb f 0) s at c) {count : ℕ} (told : count ≡ get_or now f 0 - 2) where
    pub heights_may_be_asked : Measurable s z tally → 65536 ≤ length before → HeightsPre (eqb f 0) count (take (c.from + c.size - c.from) (drop c.from s)) table
    heights_may_be_asked m room = let n = t.same in heights_asked m (t.measuring m) l post told table (omega arith)

    module _ {h : Option ℕ} (answer : HeightsPost (eqb f 0) count (take (c.from + c.size - c.from) (drop c.from s)) h) where
      pub one_is_uneven : Measurable s z tally → h ≡ None → MeasuredPost s now f
      one_is_uneven m e = one_uneven m (t.measuring m) l post told answer e

      pub one_is_even : {g : ℕ} → h ≡ Some g → {table' : List ℕ} → length table' ≡ length table
          → Heighten s z tally before (f + 1) c.next (set now f g) table'
      one_is_even {g} e n = record {
        measuring = λ m. one_measured m (t.measuring m) l post told answer g e (few_functions m.ready);
        entries = length-set now f g ∙ t.entries;
        same = n ∙ t.same;
      }
