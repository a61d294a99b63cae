-- One rule: over one function, and over all functions of an image until one breaks it.
use mathlib.Core.Path.{◌≡◌, refl, sym, subst, ◌∙◌}
use mathlib.Core.Bool.{Bool, true, false, ◌&&◌, true≢false}
use mathlib.Core.List.{List, [], ◌∷◌}
use mathlib.Core.Logic.{⊎_elim}
use Prim.Native.Nat.{ℕ, zero, suc, ◌+◌, ◌-◌, ◌≤◌, ◌<◌}
use native.Mathlib.Omega.{arith}
use native.Mathlib.Nat.{eq-or-lt_of_le}
use lib.Dec.{eqb, leb}
use lib.ListN.{length, take, drop}
use borrow.Author.Tests.{leb-true}
use Rattle.layout.proofs.Bools.{both_true}
use Rattle.model.specs.Programs.{Function, Program, function_at, stands, codes_within, within_limits}
use Rattle.image_judge.specs.declared.Sizes.{Sizes}
use Rattle.image_judge.proofs.Items.{part_slice}
use Rattle.image_codes.specs.declared.Code.{Code}
use Rattle.image_codes.specs.Links.{CodePost, Ready, From}
use Rattle.image_codes.proofs.Along.{Next, first_function, next_function}
use Rattle.check_rules.specs.Rules.{whole_at, call_at, jump_at, every, code_of, Keeps, KeptByAll}
use Rattle.check_code.specs.Links.{Sized, NumbersAll}
use Rattle.check_rules.specs.declared.Rule.{Rule}
use Rattle.check_rules.specs.declared.Rule.TheVariants as r
use Rattle.check_image.specs.Links.{Tells, KeepsPost, Lowest}

-- ---- one function

tells : (b c : Bool) → b ≡ c → Tells b (c ≡ true)
tells true c e = sym e
tells false c e = λ t. true≢false (sym (e ∙ t))

module _ (main : Bool) (code : List ℕ) (z : Sizes) (b : Bool) where
  pub whole_tells : b ≡ every (whole_at code) (stands code) → KeepsPost r.Instructions main code z b
  unfolding Keeps
  whole_tells e = record { tells = λ p k f m c. rw c (tells b _ e) }

  pub numbers_tell : NumbersAll z.constants z.structs z.functions code b → KeepsPost r.Numbers main code z b
  unfolding Keeps
  numbers_tell n = record {
    tells = λ p k f m c.
        let sized : Sized z.constants z.structs z.functions p = record { of_constants = sym k.constants; of_structs = sym k.structs; of_functions = sym k.functions } in
        rw c (tells b _ (n.means p sized));
  }

  pub calls_tell : b ≡ every (call_at code) (stands code) → KeepsPost r.Calls main code z b
  unfolding Keeps
  calls_tell e = record { tells = λ p k f m c. rw c (tells b _ e) }

  pub jumps_tell : b ≡ every (jump_at main code) (stands code) → KeepsPost r.Jumps main code z b
  unfolding Keeps
  jumps_tell e = record { tells = λ p k f m c. rw (c, m) (tells b _ e) }

-- ---- all functions

-- a code is within the limit
code_short : (fs : List Function) → codes_within fs ≡ true → (f : ℕ) → length (function_at fs f).code ≤ 65535
unfolding codes_within function_at
code_short [] h f = omega arith
code_short (g ∷ fs) h zero = leb-true _ _ (both_true _ _ h).0
code_short (g ∷ fs) h (suc f) = code_short fs (both_true (leb (length g.code) 65535) _ h).1 f

pub program_codes : (p : Program) → within_limits p ≡ true → (f : ℕ) → length (code_of p f) ≤ 65535
unfolding within_limits
program_codes p h f =
    let counts = leb (length p.constants) 65535 && leb (length p.structs) 65536 && leb (length p.functions) 65536 in
    code_short p.functions (both_true counts (codes_within p.functions) h).1 f

pub few_functions : {s : List ℕ} {z : Sizes} → Ready s z → z.functions ≤ 65536
unfolding within_limits
few_functions h =
    let p = h.says.program in
    let two = leb (length p.constants) 65535 && leb (length p.structs) 65536 in
    let three = (both_true (two && leb (length p.functions) 65536) (codes_within p.functions) h.within).0 in
    let few : length p.functions ≤ 65536 = leb-true _ _ (both_true two (leb (length p.functions) 65536) three).1 in
    let many = h.says.sizes.functions in
    omega arith

-- the functions below f were looked at, and the next one stands at the place `at`
pub record Sofar (Q : ℕ → Type 0) (p : Program) (s : List ℕ) (f at : ℕ) : Type 0 where
  pub from : From p s f at
  pub kept : (g : ℕ) → g < f → Q g
  pub most : f ≤ length p.functions

abbrev pub program_of : {s : List ℕ} {z : Sizes} → Ready s z → Program
program_of h = h.says.program

module _ (Q : ℕ → Type 0) {s : List ℕ} {z : Sizes} (h : Ready s z) where
  pub none_yet : Sofar Q (program_of h) s 0 z.first
  none_yet = record { from = first_function s z h.says; kept = λ g l. absurd (let x : ⊥ = omega arith in x); most = omega arith }

  module _ {f at : ℕ} (a : Sofar Q (program_of h) s f at) where
    module _ (l : f < z.functions) {c : Code} (post : CodePost (eqb f 0) s at c) where
      known : f < length (program_of h).functions
      known = let many = h.says.sizes.functions in omega arith

      next : Next (program_of h) s f c
      next = next_function (program_of h) s f at a.from known c post

      -- the slice that is looked at is the function's code
      pub its_code : code_of (program_of h) f ≡ take (c.from + c.size - c.from) (drop c.from s)
      its_code = sym (part_slice s c.from c.size ∙ next.code)

      pub its_size : length (take (c.from + c.size - c.from) (drop c.from s)) ≤ 65535
      its_size = rw (← its_code) (program_codes (program_of h) h.within f)

      pub one_breaks : (Q f → ⊥) → Lowest Q (length (program_of h).functions) f
      one_breaks n = record { lower = a.kept; breaks = λ m. n; most = a.most }

      pub one_more : Q f → Sofar Q (program_of h) s (f + 1) c.next
      one_more q =
          let on : suc f ≡ f + 1 = omega arith in
          subst (λ (k : ℕ). Sofar Q (program_of h) s k c.next) on
          (record {
            from = next.from;
            kept = λ g m. ⊎_elim (λ e. rw e q) (λ k. a.kept g k) (eq-or-lt_of_le (let y : g ≤ f = omega arith in y));
            most = let k = known in omega arith;
          })

-- ---- a rule that each function keeps or breaks by itself

-- whatever is known of the image, the functions below f keep the rule
pub record Looking (q : Rule) (s : List ℕ) (z : Sizes) (before marks : List ℕ) (f at : ℕ) : Type 0 where
  pub sofar : (h : Ready s z) → Sofar (Keeps (program_of h) q) (program_of h) s f at
  pub same : length marks ≡ length before

pub first_look : (q : Rule) (s : List ℕ) (z : Sizes) (marks : List ℕ) → Looking q s z marks marks 0 z.first
first_look q s z marks = record { sofar = λ h. none_yet _ h; same = refl }

module _ {q : Rule} {s : List ℕ} {z : Sizes} {before marks : List ℕ} {f at : ℕ} (a : Looking q s z before marks f at) where
  -- all were looked at
  pub all_keep : (h : Ready s z) → z.functions ≤ f → KeptByAll (program_of h) q
  all_keep h l = λ g k. let many = h.says.sizes.functions in (a.sofar h).kept g (omega arith)

  module _ (l : f < z.functions) {c : Code} (post : CodePost (eqb f 0) s at c) where
    pub code_fits : Ready s z → 65536 ≤ length before → length (take (c.from + c.size - c.from) (drop c.from s)) < length marks
    code_fits h room = let size = its_size _ h (a.sofar h) l post in let n = a.same in omega arith

    module _ {b : Bool} (k : KeepsPost q (eqb f 0) (take (c.from + c.size - c.from) (drop c.from s)) z b) where
      verdict : (h : Ready s z) → Tells b (Keeps (program_of h) q f)
      verdict h = k.tells (program_of h) h.says.sizes f refl (its_code _ h (a.sofar h) l post)

      pub broken_by_one : (h : Ready s z) → b ≡ false → Lowest (Keeps (program_of h) q) (length (program_of h).functions) f
      broken_by_one h e = one_breaks _ h (a.sofar h) l post (subst (λ (x : Bool). Tells x (Keeps (program_of h) q f)) e (verdict h))

      pub kept_by_one : b ≡ true → {marks' : List ℕ} → length marks' ≡ length marks → Looking q s z before marks' (f + 1) c.next
      kept_by_one e n = record {
        sofar = λ h. one_more _ h (a.sofar h) l post (subst (λ (x : Bool). Tells x (Keeps (program_of h) q f)) e (verdict h));
        same = n ∙ a.same;
      }
