-- From function to function: where the one ends the next begins.
use mathlib.Core.Path.{◌≡◌, sym, ap, subst, ◌∙◌}
use mathlib.Core.Bool.{Bool, true, false}
use mathlib.Core.List.{List, [], ◌∷◌}
use Prim.Native.Nat.{ℕ, zero, suc, ◌-◌, ◌<◌}
use native.Mathlib.Omega.{arith}
use lib.Dec.{eqb}
use borrow.Author.Tests.{ne_eqb}
use lib.ListN.{length, drop}
use Rattle.model.specs.Numbers.{Step, got, and_then}
use Rattle.model.specs.Programs.{Function, Program, function_at}
use Rattle.model.specs.Images.{series, read_function}
use Rattle.image_judge.specs.declared.Sizes.{Sizes}
use Rattle.image_judge.specs.Links.{part_of, Good, Says, functions_for}
use Rattle.laws_images.proofs.Codecs.{then_only, made_only}
use Rattle.image_codes.specs.declared.Code.{Code}
use Rattle.image_codes.specs.Links.{CodePost, functions_from, From}

pub first_function : (s : List ℕ) (z : Sizes) (h : Says s z) → From h.program s 0 z.first
unfolding functions_for functions_from
first_function s z h =
    let all : z.functions ≡ length h.program.functions - 0 = h.sizes.functions ∙ (let none : length h.program.functions ≡ length h.program.functions - 0 = omega arith in none) in
    record { read = subst (λ (n : ℕ). Good (λ b. series read_function (λ x f. false) n true b) s z.first (length s) h.program.functions) all h.begins }

-- the function at the place, and those behind it
pub record Next (p : Program) (s : List ℕ) (i : ℕ) (c : Code) : Type 0 where
  pub code : part_of s c.from c.size ≡ (function_at p.functions i).code
  pub from : From p s (suc i) c.next

head_of_lem : {f g : Function} {fs gs : List Function} → f ∷ fs ≡ g ∷ gs → f ≡ g
head_of_lem e = cc

tail_of : {f g : Function} {fs gs : List Function} → f ∷ fs ≡ g ∷ gs → fs ≡ gs
tail_of e = cc

-- the first of those from i on is function i
number_of : (fs : List Function) (i : ℕ) (f : Function) (gs : List Function) → drop i fs ≡ f ∷ gs → function_at fs i ≡ f
unfolding function_at
number_of [] zero f gs e = absurd (let z : 0 ≡ suc (length gs) = ap length e in omega arith)
number_of [] (suc i) f gs e = absurd (let z : 0 ≡ suc (length gs) = ap length e in omega arith)
number_of (g ∷ fs) zero f gs e = head_of_lem e
number_of (g ∷ fs) (suc i) f gs e = number_of fs i f gs e

behind_it : (fs : List Function) (i : ℕ) (f : Function) (gs : List Function) → drop i fs ≡ f ∷ gs → drop (suc i) fs ≡ gs
behind_it [] zero f gs e = absurd (let z : 0 ≡ suc (length gs) = ap length e in omega arith)
behind_it [] (suc i) f gs e = absurd (let z : 0 ≡ suc (length gs) = ap length e in omega arith)
behind_it (g ∷ fs) zero f gs e = tail_of e
behind_it (g ∷ fs) (suc i) f gs e = behind_it fs i f gs e

module _ (p : Program) (s : List ℕ) (i at : ℕ) (h : From p s i at) (l : i < length p.functions) (c : Code) (post : CodePost (eqb i 0) s at c) where
  -- one is read, and then the others, none of which is the first
  abbrev left : ℕ
  left = length p.functions - suc i

  others : List ℕ → Step (List Function)
  others r = series read_function (λ x f. false) left false r

  split : and_then (read_function (eqb i 0) (drop at s)) (λ f r. and_then (others r) (λ fs q. got (f ∷ fs) q)) ≡ got (drop i p.functions) (drop (length s) s)
  unfolding functions_from series others
  split =
      let one : suc left ≡ length p.functions - i = omega arith in
      ap (λ (n : ℕ). series read_function (λ x f. false) n (eqb i 0) (drop at s)) one ∙ h.read.means

  pub next_function : Next p s i c
  unfolding functions_from others
  next_function =
      let g = then_only (read_function (eqb i 0) (drop at s)) _ (drop i p.functions) (drop (length s) s) split in
      let m = made_only (λ fs. g.0 ∷ fs) (others g.1) (drop i p.functions) (drop (length s) s) g.3 in
      let here = post.reads g.0 g.1 g.2 in
      let not_first : eqb (suc i) 0 ≡ false = ne_eqb (suc i) 0 (λ e. let z : ⊥ = omega arith in z) in
      let number = number_of p.functions i g.0 m.0 (sym m.1) in
      let rest = behind_it p.functions i g.0 m.0 (sym m.1) in
      record {
        code = here.code ∙ ap (λ (f : Function). f.code) (sym number);
        from = record {
          read = record {
            means = ap (λ (b : Bool). series read_function (λ x f. false) left b (drop c.next s)) not_first
                ∙ ap others here.next
                ∙ m.2
                ∙ ap (λ (fs : List Function). got fs (drop (length s) s)) (sym rest);
            ahead = post.within;
            within = omega arith;
          };
        };
      }
