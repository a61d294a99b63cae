-- The runs of a function's code.
use mathlib.Core.Path.{◌≡◌, refl, sym, ap, subst, ◌∙◌}
use mathlib.Core.Bool.{not, ◌&&◌}
use mathlib.Core.List.{List, [], ◌++◌}
use Prim.Native.Nat.{ℕ, zero, suc, ◌+◌, ◌-◌, ◌<◌, ◌≤◌}
use native.Mathlib.Omega.{arith}
use native.Mathlib.Nat.{pos_of_ne-zero}
use lib.Dec.{ltb, leb, eqb}
use lib.ListN.{length, drop, replicate, length-append, length-replicate}
use borrow.Author.Tests.{lt-ltb, le-leb, lt-leb, eq-eqb, ne_eqb}
use Rattle.model.specs.Numbers.{Step, got, bad, and_then, number}
use Rattle.model.specs.Images as i
use Rattle.model.specs.Images.{run, no_place, read_run_bytes, read_run_place, read_runs}
use Rattle.number.specs.Links.{NumPost}
use Rattle.image_judge.specs.Links.{Good, Bad, one_run, RunAt, NextRunIs, RunPost, runs_for, RunsPost}
use Rattle.image_judge.specs.declared.Run.{Run}
use Rattle.image_judge.proofs.Reading.{onto, onto_nil, onto_more, onto_bad, onto_got, bad_first, bad_second, good_both, bad_test, bad_tested, good_test, good_made, no_number_lem, a_number}
use Rattle.image_judge.proofs.Passes.{counted_at}
use Rattle.std.specs.Prelude.{Err, None, Ok, Option, Result, Some}
use Rattle.image_judge.specs.declared.Broken.{Broken}
use Rattle.image_judge.specs.declared.Broken.TheVariants.{At}

-- ---- one run

module _ (s : List ℕ) (at left q : ℕ) (pre : at ≤ length s) (x : Option (ℕ × ℕ)) (p : NumPost s at x) where
  here : Bad (read_run_bytes left) s at at → RunPost s at left q (Err (At at))
  unfolding one_run
  here h = record { is = bad_first (λ n b. and_then (read_run_place q b) (λ y u. got (run n y) u)) h }

  pub run_none : x ≡ None → RunPost s at left q (Err (At at))
  unfolding read_run_bytes
  run_none e = here (bad_tested (λ n. ltb 0 n && leb n left) (no_number_lem s at x p pre e))

  module _ (v mid m : ℕ) (e : x ≡ Some (v, mid)) (w : (m ≡ v) × (m < 4294967296)) where
    g : Good number s at mid m
    g = counted_at s at x p v mid m e w

    pub run_zero : m ≡ 0 → RunPost s at left q (Err (At at))
    unfolding read_run_bytes
    run_zero z = here (bad_test (λ n. ltb 0 n && leb n left) g (rw z))

    pub run_long : (m ≡ 0 → ⊥) → left < m → RunPost s at left q (Err (At at))
    unfolding read_run_bytes
    run_long z l = here (bad_test (λ n. ltb 0 n && leb n left) g (rw (lt-ltb 0 m (pos_of_ne-zero z), lt-leb m left l)))

    module _ (z : m ≡ 0 → ⊥) (l : m ≤ left) where
      first : Good (read_run_bytes left) s at mid m
      unfolding read_run_bytes
      first = good_test (λ n. ltb 0 n && leb n left) g (rw (lt-ltb 0 m (pos_of_ne-zero z), le-leb m left l))

      module _ (y : Option (ℕ × ℕ)) (o : NumPost s mid y) where
        there : Bad (read_run_place q) s mid mid → RunPost s at left q (Err (At mid))
        unfolding one_run
        there h = record { is = bad_second (λ n b. and_then (read_run_place q b) (λ y u. got (run n y) u)) first (bad_first (λ y u. got (run m y) u) h) }

        pub run_no_place : y ≡ None → RunPost s at left q (Err (At mid))
        unfolding read_run_place
        run_no_place f = there (bad_tested (λ y. not (eqb q y)) (no_number_lem s mid y o g.within f))

        module _ (u next : ℕ) (f : y ≡ Some (u, next)) (u' : ℕ) (k : u' ≡ u) where
          pub run_again : q ≡ u' → RunPost s at left q (Err (At mid))
          unfolding read_run_place
          run_again d = there (bad_test (λ y. not (eqb q y)) (a_number s mid y o u next f) (rw (eq-eqb q u (d ∙ k))))

          pub run_read : (q ≡ u' → ⊥) → RunPost s at left q (Ok (record { bytes = m; place = u; next = next }))
          unfolding read_run_place one_run
          run_read d = record {
            is = record {
              good = good_both (λ n b. and_then (read_run_place q b) (λ y u. got (run n y) u)) first
                  (good_made (λ y. run m y) (good_test (λ y. not (eqb q y)) (a_number s mid y o u next f) (rw (ne_eqb q u (λ j. d (j ∙ sym k))))));
              some = pos_of_ne-zero z;
              most = l;
            };
          }

pub run_is : (s : List ℕ) (at left q : ℕ) (x : Result Run Broken) → RunPost s at left q x → (p : Run) → x ≡ Ok p → RunAt s at left q p
run_is s at left q x h p e = subst (NextRunIs s at left q) e h.is

pub run_not : (s : List ℕ) (at left q : ℕ) (x : Result Run Broken) → RunPost s at left q x → (o : ℕ) → x ≡ Err (At o) → Bad (one_run left q) s at o
run_not s at left q x h o e = subst (NextRunIs s at left q) e h.is

-- ---- all runs

-- a run, and the others behind it
then_runs : ℕ → ℕ → i.Run → List ℕ → Step (List ℕ)
then_runs f left x t = and_then (read_runs f (left - x.bytes) x.place t) (λ l u. got (replicate x.bytes x.place ++ l) u)

both_items : {C : Type 0} (x : Step ℕ) (f : List ℕ → Step ℕ) (k : ℕ → ℕ → List ℕ → Step C)
    → and_then x (λ n b. and_then (f b) (λ p t. k n p t)) ≡ and_then (and_then x (λ n b. and_then (f b) (λ p t. got (run n p) t))) (λ y t. k y.bytes y.place t)
unfolding and_then
both_items (got n b) f k = second (f b)
  where
    second : (x : Step ℕ) → and_then x (λ p t. k n p t) ≡ and_then (and_then x (λ p t. got (run n p) t)) (λ y t. k y.bytes y.place t)
    second (got p t) = refl
    second (bad o) = refl
both_items (bad o) f k = refl

opens : (fuel left : ℕ) → left ≤ fuel → 0 < left → (f : ℕ) × (fuel ≡ suc f) × ((q : ℕ) (b : List ℕ) → read_runs fuel left q b ≡ and_then (one_run left q b) (then_runs f left))
unfolding read_runs one_run then_runs
opens zero left h p = absurd (let w : ⊥ = omega arith in w)
opens (suc f) left h p = (
  f,
  refl,
  λ q b. rw (ne_eqb left 0 (λ e. omega arith))
      (both_items (read_run_bytes left b) (read_run_place q) (λ n p s. and_then (read_runs f (left - n) p s) (λ l t. got (replicate n p ++ l) t))),
)

shuts : (fuel left q : ℕ) (b : List ℕ) → left ≡ 0 → read_runs fuel left q b ≡ got [] b
unfolding read_runs
shuts zero left q b e = rw (eq-eqb left 0 e)
shuts (suc f) left q b e = rw (eq-eqb left 0 e)

then_bad : (x : Step i.Run) (k : i.Run → List ℕ → Step (List ℕ)) (n : ℕ) → x ≡ bad n → and_then x k ≡ bad n
unfolding and_then
then_bad x k n e = rw e

then_got : (x : Step i.Run) (k : i.Run → List ℕ → Step (List ℕ)) (y : i.Run) (t : List ℕ) → x ≡ got y t → and_then x k ≡ k y t
unfolding and_then
then_got x k y t e = rw e

-- at the head of a loop over runs: the places that were read, and what is left
pub record Running (s : List ℕ) (at size cur left q : ℕ) (done : List ℕ) : Type 0 where
  pub fuel : ℕ
  pub enough : left ≤ fuel
  pub means : runs_for size (drop at s) ≡ onto done (read_runs fuel left q (drop cur s))
  pub ahead : at ≤ cur
  pub within : cur ≤ length s
  pub total : length done + left ≡ size

pub runs_start : (s : List ℕ) (at size : ℕ) → at ≤ length s → Running s at size at size 4294967296 []
unfolding runs_for
runs_start s at size h = record { fuel = size; enough = omega arith; means = onto_nil (read_runs size size no_place (drop at s)); ahead = omega arith; within = h; total = omega arith }

module _ (s : List ℕ) (at size cur left q : ℕ) (done : List ℕ) (h : Running s at size cur left q done) where
  pub runs_good : left ≤ 0 → Good (runs_for size) s at cur done
  runs_good l = record {
    means = h.means ∙ onto_got done _ (drop cur s) (shuts h.fuel left q (drop cur s) (let z : left ≡ 0 = omega arith in z));
    ahead = h.ahead;
    within = h.within;
  }

  module _ (l : 0 < left) (x : Result Run Broken) (p : RunPost s cur left q x) where
    o : (f : ℕ) × (h.fuel ≡ suc f) × ((q : ℕ) (b : List ℕ) → read_runs h.fuel left q b ≡ and_then (one_run left q b) (then_runs f left))
    o = opens h.fuel left h.enough l

    pub runs_bad : (k : ℕ) → x ≡ Err (At k) → Bad (runs_for size) s at k
    runs_bad k e =
        let b = run_not s cur left q x p k e in
        record {
          means = h.means ∙ onto_bad done _ (length s - k) (o.2 q (drop cur s) ∙ then_bad _ (then_runs o.0 left) (length s - k) b.means);
          ahead = let y = h.ahead in let z = b.ahead in omega arith;
          within = b.within;
        }

    module _ (y : Run) (e : x ≡ Ok y) where
      pub runs_fits : y.bytes ≤ left
      runs_fits = (run_is s cur left q x p y e).most

      pub runs_less : left - y.bytes < left
      runs_less = let z = (run_is s cur left q x p y e).some in let m = runs_fits in omega arith

      pub runs_step : (k : ℕ) → k ≡ y.place → Running s at size y.next (left - y.bytes) k (done ++ replicate y.bytes y.place)
      unfolding then_runs
      runs_step k ek =
          let g = run_is s cur left q x p y e in
          let f = g.good in let some = g.some in let most = g.most in let en = h.enough in let fe = o.1 in
          let t = h.total in let a = length-append done (replicate y.bytes y.place) in let c = length-replicate y.bytes y.place in
          let ah = h.ahead in let fa = f.ahead in
          record {
            fuel = o.0;
            enough = omega arith;
            means = h.means ∙ ap (onto done) (o.2 q (drop cur s) ∙ then_got _ (then_runs o.0 left) (run y.bytes y.place) (drop y.next s) f.means)
                ∙ onto_more done (replicate y.bytes y.place) (read_runs o.0 (left - y.bytes) y.place (drop y.next s))
                ∙ ap (λ (z : ℕ). onto (done ++ replicate y.bytes y.place) (read_runs o.0 (left - y.bytes) z (drop y.next s))) (sym ek);
            ahead = omega arith;
            within = f.within;
            total = omega arith;
          }

-- ---- judged

pub record Judging (s : List ℕ) (at size cur left q : ℕ) : Type 0 where
  pub done : List ℕ
  pub runs : Running s at size cur left q done

pub judging_start : (s : List ℕ) (at size : ℕ) → at ≤ length s → Judging s at size at size 4294967296
judging_start s at size h = record { done = []; runs = runs_start s at size h }

module _ (s : List ℕ) (at size cur left q : ℕ) (h : Judging s at size cur left q) where
  pub judging_end : left ≤ 0 → RunsPost s at size (Ok cur)
  judging_end l = record { is = record { held = h.done; good = runs_good s at size cur left q h.done h.runs l } }

  module _ (l : 0 < left) (x : Result Run Broken) (p : RunPost s cur left q x) where
    pub judging_bad : (b : Broken) → x ≡ Err b → RunsPost s at size (Err b)
    judging_bad (At k) e = record { is = runs_bad s at size cur left q h.done h.runs l x p k e }

    pub judging_fits : (y : Run) → x ≡ Ok y → (y.bytes ≤ left) × (left - y.bytes < left)
    judging_fits y e = (runs_fits s at size cur left q h.done h.runs l x p y e, runs_less s at size cur left q h.done h.runs l x p y e)

    pub judging_step : (y : Run) → x ≡ Ok y → (k : ℕ) → k ≡ y.place → Judging s at size y.next (left - y.bytes) k
    judging_step y e k ek = record { done = h.done ++ replicate y.bytes y.place; runs = runs_step s at size cur left q h.done h.runs l x p y e k ek }
