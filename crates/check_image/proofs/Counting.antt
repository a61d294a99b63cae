-- Rule 4: the Calls of all functions entered into the tally, and what its entries then say.
use Rattle.std.specs.List.{position, position_or_len}
use Rattle.std.specs.Option.{unwrap_or}
use Rattle.std.proofs.Common.{Option}
use Rattle.std.proofs.lemmas.List.{get_or-take}
use Rattle.std.proofs.lemmas.List.Sums.{prefix_len-le-length, fails_before_first, passes_at_first}
use mathlib.Core.Path.{◌≡◌, refl, sym, ap, subst, ◌∙◌}
use mathlib.Core.Bool.{Bool, true≢false}
use mathlib.Core.List.{List, [], ◌∷◌, ◌++◌, append_assoc, append-nil}
use Prim.Native.Nat.{ℕ, zero, suc, ◌+◌, ◌-◌, ◌≤◌, ◌<◌}
use native.Mathlib.Omega.{arith}
use lib.Dec.{eqb, ltb}
use lib.ListN.{length, get_or, take, drop, replicate}
use lib.Seq.{length-take-le}
use borrow.Author.Tests.{ltb-false, eqb-true, eqb-false}
use Rattle.layout.proofs.Bools.{either_way}
use Rattle.model.specs.Programs.{Function, Program, function_at, stands}
use Rattle.image_judge.specs.declared.Sizes.{Sizes}
use Rattle.image_codes.specs.declared.Code.{Code}
use Rattle.image_codes.specs.Links.{CodePost, Ready}
use Rattle.check_rules.specs.declared.Rule.TheVariants as r
use Rattle.check_rules.specs.Rules.{Site, calls_at, calls_in, count_of, code_of, Keeps}
use Rattle.check_code.specs.Tallies.{tallied}
use Rattle.check_code.specs.Links.{Enters}
use Rattle.check_code.proofs.Counting.{tallied_behind, one_exactly, other_keeps}
use Rattle.check_image.specs.Links.{Tallied, CountsPost}
use Rattle.check_image.proofs.Judged.{Sofar, program_of, none_yet, its_code, one_more}

-- the Calls of one function more
calls_onward : (fs : List Function) (i : ℕ) → i < length fs
    → calls_in (take (suc i) fs) ≡ calls_in (take i fs) ++ calls_at (function_at fs i).code (stands (function_at fs i).code)
unfolding calls_in function_at
calls_onward [] i h = absurd (let z : ⊥ = omega arith in z)
calls_onward (g ∷ fs) zero h = append-nil _
calls_onward (g ∷ fs) (suc i) h =
    let first = calls_at g.code (stands g.code) in
    let new = calls_at (function_at fs i).code (stands (function_at fs i).code) in
    ap (λ (l : List Site). first ++ l) (calls_onward fs i (omega arith)) ∙ sym (append_assoc first (calls_in (take i fs)) new)

-- the Calls of the functions below f stand in the tally
pub record Tallying (p : Program) (s : List ℕ) (f at : ℕ) (counts : List ℕ) : Type 0 where
  pub sofar : Sofar (λ g. Unit) p s f at
  pub each : (g : ℕ) → get_or counts g 0 ≡ tallied g 0 (calls_in (take f p.functions))
  pub few : (g : ℕ) → get_or counts g 0 < 65538

pub record Counts (s : List ℕ) (z : Sizes) (before : List ℕ) (f at : ℕ) (counts : List ℕ) : Type 0 where
  pub tally : (h : Ready s z) → Tallying (program_of h) s f at counts
  pub same : length counts ≡ length before

zero_at : (n i : ℕ) → ◌≡◌ {A = ℕ} (get_or (replicate n 0) i 0) 0
zero_at zero i = refl
zero_at (suc n) zero = refl
zero_at (suc n) (suc i) = zero_at n i

pub no_calls_yet : (s : List ℕ) (z : Sizes) (counts : List ℕ) → counts ≡ replicate 65536 0 → Counts s z counts 0 z.first counts
unfolding calls_in tallied
no_calls_yet s z counts e = record {
  tally = λ h. record {
    sofar = none_yet _ h;
    each = λ g. rw e (zero_at 65536 g);
    few = λ g. rw (e, zero_at 65536 g) (let w : 0 < 65538 = omega arith in w);
  };
  same = refl;
}

module _ {s : List ℕ} {z : Sizes} {before : List ℕ} {f at : ℕ} {counts : List ℕ} (a : Counts s z before f at counts) where
  pub calls_entered : f < z.functions → {c : Code} → CodePost (eqb f 0) s at c → {counts' : List ℕ}
      → Enters (take (c.from + c.size - c.from) (drop c.from s)) (stands (take (c.from + c.size - c.from) (drop c.from s))) counts counts'
      → length counts' ≡ length counts → Counts s z before (f + 1) c.next counts'
  calls_entered l {c} post {counts'} e n = record { tally = λ h. onward h; same = n ∙ a.same }
    where
      onward : (h : Ready s z) → Tallying (program_of h) s (f + 1) c.next counts'
      onward h =
          let t = a.tally h in
          let p = program_of h in
          let known : f < length p.functions = let many = h.says.sizes.functions in omega arith in
          let on : suc f ≡ f + 1 = omega arith in
          let code = its_code _ h t.sofar l post in
          let entered : (g : ℕ) → get_or counts' g 0 ≡ tallied g (get_or counts g 0) (calls_at (code_of p f) (stands (code_of p f))) = rw code e.each in
          let calls = calls_onward p.functions f known in
          record {
            sofar = one_more _ h t.sofar l post tt;
            each = λ g.
                entered g ∙ ap (λ (v : ℕ). tallied g v (calls_at (code_of p f) (stands (code_of p f)))) (t.each g)
                ∙ sym (tallied_behind g 0 (calls_in (take f p.functions)) _)
                ∙ ap (tallied g 0) (sym calls)
                ∙ ap (λ (k : ℕ). tallied g 0 (calls_in (take k p.functions))) on;
            few = λ g. e.few g (t.few g);
          }

-- ---- the lowest function whose Calls differ

module _ (n : ℕ) (counts : List ℕ) (room : n ≤ length counts) where
  abbrev differs : ℕ → Bool
  differs x = eqb x 1

  abbrev first_one : ℕ
  first_one = position_or_len differs (take n counts)

  entry_at : (g : ℕ) → g < n → get_or (take n counts) g 0 ≡ get_or counts g 0
  entry_at g l = get_or-take n counts g 0 l

  lowest_here : CountsPost n counts first_one
  lowest_here =
      let many = length-take-le n counts room in let most : first_one ≤ length (take n counts) = prefix_len-le-length _ (take n counts) in
      record {
        lowest = record {
          lower = λ g l e. eqb-false _ _ (fails_before_first differs (take n counts) g 0 l) (entry_at g (omega arith) ∙ e);
          breaks = λ l h. h (sym (entry_at first_one l) ∙ eqb-true _ _ (passes_at_first differs (take n counts) 0 (omega arith)));
          most = omega arith;
        };
      }

  pub lowest_found : (o : Option ℕ) (f : ℕ) → o ≡ position differs (take n counts) → f ≡ unwrap_or o n → CountsPost n counts f
  lowest_found o f eo ef = subst (CountsPost n counts) (sym is) lowest_here
    where
      is : f ≡ first_one
      is = either_way (ltb first_one (length (take n counts))) (λ x. ef ∙ rw (eo, x))
          (λ x.
          let many = length-take-le n counts room in let most : first_one ≤ length (take n counts) = prefix_len-le-length _ (take n counts) in
          let y = ltb-false _ _ x in let z : n ≡ first_one = omega arith in ef ∙ rw (eo, x) z)

-- what the tally says of rule 4
module _ (p : Program) (counts : List ℕ) (t : Tallied p counts) where
  pub entry_keeps : (f : ℕ) → (get_or counts f 0 ≡ 1 → ⊥) → Keeps p r.Counts f
  unfolding Keeps count_of
  entry_keeps f h = other_keeps f (calls_in p.functions) (t.each f) h

  pub entry_breaks : (f : ℕ) → get_or counts f 0 ≡ 1 → Keeps p r.Counts f → ⊥
  unfolding Keeps count_of
  entry_breaks f e k = true≢false (sym k ∙ (one_exactly f (calls_in p.functions) (t.each f)).0 e)
