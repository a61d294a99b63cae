-- The answer: what a full table and the end's entry say of all paths, and that no second answer fits.
use mathlib.Core.Path.{◌≡◌, refl, ap, subst}
use mathlib.Core.Bool.{Bool, true, false}
use mathlib.Core.List.{List}
use mathlib.Core.Logic.{⊎_elim}
use Prim.Native.Nat.{ℕ, zero, suc, ◌+◌, ◌-◌, ◌<◌, max}
use native.Mathlib.Nat.{eq-or-lt_of_le}
use native.Mathlib.Omega.{arith}
use lib.ListN.{length, get_or, take, length-take}
use Rattle.check_rules.specs.Rules.{Path, starts, goes, leaps, Heights, Greatest}
use Rattle.check_heights.specs.declared.Flaw.{Flaw}
use Rattle.check_heights.specs.declared.Flaw.TheVariants as w
use Rattle.check_heights.specs.Answer.{HeightsPre, HeightsPost, BreaksAt, lacks, differs, ends as Reaches-end, FlawPost}
use Rattle.check_heights.specs.Links.{Known, Unknown, Half, ScanPost, finished, PassMeans, PassPost}
use Rattle.check_heights.proofs.Walks.{not_both, path_within}
use Rattle.check_heights.proofs.Tables.{known_one, known_or_not}
use Rattle.check_heights.proofs.Halves.{greater_attained}
use Rattle.std.specs.Prelude.{Err, None, Ok, Option, Result, Some}
use Rattle.std.specs.Result.{result_ok, result_err}

-- ---- `finish`

pub not_reached : (main : Bool) (top : ℕ) {last : ℕ} → last ≡ 0 → Ok top ≡ finished main top last
unfolding finished
not_reached main top e = rw e

pub reached_in_main : {main : Bool} (top last : ℕ) → (last ≡ 0 → ⊥) → main ≡ true → {m : ℕ} → m ≡ max top (last - 1) → Ok m ≡ finished main top last
unfolding finished
reached_in_main top zero z e q = absurd (z refl)
reached_in_main top (suc h) z e q = rw (e, q) (ap (λ (x : ℕ). Ok (max top x)) (omega arith))

pub reached_elsewhere : {main : Bool} (top last : ℕ) → (last ≡ 0 → ⊥) → main ≡ false → Err (w.Ends (last - 1)) ≡ finished main top last
unfolding finished
reached_elsewhere top zero z e = absurd (z refl)
reached_elsewhere top (suc h) z e = rw e (ap (λ (x : ℕ). Err (w.Ends x)) (omega arith))

-- ---- `pass`

module _ (main : Bool) (count : ℕ) (code t₀ : List ℕ) (pre : HeightsPre main count code t₀) {top : ℕ} {t : List ℕ} (s : Half main count code (length code) top t) where
  -- every path is in the table
  all_known : {i h : ℕ} → Path main count code i h → Known t i h
  all_known starts = s.begun
  all_known (goes p lt q) = (s.closed lt (all_known p)).on q
  all_known (leaps p lt q) = (s.closed lt (all_known p)).jumps q

  -- at the end, or below it
  at_end_or_below : {A : Type 0} {i h : ℕ} → Path main count code i h → (i ≡ length code → A) → (i < length code → A) → A
  at_end_or_below p a b = ⊎_elim a b (eq-or-lt_of_le (path_within main code pre.whole pre.landing p))

  has_heights : (main ≡ false → Unknown t (length code)) → Heights main count code
  has_heights u = record {
    one = λ {i} {h} {k} p q. known_one (all_known p) (all_known q);
    enough = λ {i} {h} p lt. (s.closed lt (all_known p)).enough;
    inside = λ {i} {h} p m. at_end_or_below p (λ e. absurd (known_or_not (all_known p) (rw e (u m)))) (λ lt. lt);
  }

  ends_unreached : Unknown t (length code) → Heights main count code × Greatest main count code top
  ends_unreached u = (
    has_heights (λ m. u),
    record {
      most = λ {i} {h} p. at_end_or_below p (λ e. absurd (known_or_not (all_known p) (rw e u))) (λ lt. s.below lt (all_known p));
      place = s.place;
      path = s.attained;
    },
  )

  module _ {x : ℕ} (z : Known t (length code) x) where
    ends_in_main : main ≡ true → Heights main count code × Greatest main count code (max top x)
    ends_in_main m =
        let most = greater_attained s.attained (s.paths z) in (
          has_heights (λ w. absurd (not_both m w)),
          record {
            most = λ {i} {h} p. at_end_or_below p
                (λ e. let y = known_one (subst (λ (n : ℕ). Known t n h) e (all_known p)) z in omega arith)
                (λ lt. let y = s.below lt (all_known p) in omega arith);
            place = most.place;
            path = most.path;
          },
        )

    ends_elsewhere : main ≡ false → BreaksAt main count code (w.Ends x)
    ends_elsewhere m = Reaches-end m (s.paths z)

  ends : (b : Bool) → main ≡ b → (last : ℕ) → get_or t (length code) 0 ≡ last → PassMeans (finished b top last) main count code
  unfolding finished
  ends b m zero e = ends_unreached (record { is = e })
  ends true m (suc x) e = ends_in_main (record { is = omega arith }) m
  ends false m (suc x) e = ends_elsewhere {x = x} (record { is = omega arith }) m

module _ (main : Bool) (count : ℕ) (code t₀ : List ℕ) (pre : HeightsPre main count code t₀) {t : List ℕ} where
  pub scan_ends : {top : ℕ} → ScanPost main count code (Ok top) t → {r : Result ℕ Flaw} → r ≡ finished main top (get_or t (length code) 0) → PassPost main count code r
  scan_ends p e = record { means = rw e (ends main count code t₀ pre p.means main refl _ refl) }

  pub scan_breaks : {x : Flaw} → ScanPost main count code (Err x) t → PassPost main count code (Err x)
  scan_breaks p = record { means = p.means }

-- ---- `heights`

-- the part of the table that is lent on has a word for each position, and none more
pub part_length : (code t : List ℕ) → length code < length t → length code + 1 ≡ length (take (length code + 1) t)
part_length code t l = omega (arith, length-take (length code + 1) t)

pub part_ready : {main : Bool} {count : ℕ} {code t : List ℕ} → HeightsPre main count code t → HeightsPre main count code (take (length code + 1) t)
part_ready {code = code} {t} g = record {
  whole = g.whole;
  landing = g.landing;
  few = g.few;
  codes = g.codes;
  room = omega (arith, part_length code t g.room);
}

-- THE LAW: what is told to break the rule does
pub a_flaw_breaks : {main : Bool} {count : ℕ} {code : List ℕ} {x : Flaw} → BreaksAt main count code x → Heights main count code → ⊥
a_flaw_breaks (lacks p l e) hs = not_both (hs.enough p l) e
a_flaw_breaks (differs p q d) hs = d (hs.one p q)
a_flaw_breaks (Reaches-end m p) hs = let y = hs.inside p m in omega arith

module _ {main : Bool} {count : ℕ} {code : List ℕ} where
  pub measured_or_not : (r : Result ℕ Flaw) → PassPost main count code r → HeightsPost main count code (result_ok r)
  measured_or_not (Ok m) p = record { means = p.means }
  measured_or_not (Err x) p = record { means = a_flaw_breaks p.means }

  pub flaw_or_none : (r : Result ℕ Flaw) → PassPost main count code r → FlawPost main count code (result_err r)
  flaw_or_none (Ok m) p = record { means = p.means.0 }
  flaw_or_none (Err x) p = record { means = p.means }

-- ---- no second answer fits

one_greatest : {main : Bool} {count : ℕ} {code : List ℕ} {m n : ℕ} → Greatest main count code m → Greatest main count code n → m ≡ n
one_greatest p q = let x = p.most q.path in let y = q.most p.path in omega arith

-- THE LAW: two answers that both fit are one
pub heights_one_answer : {main : Bool} {count : ℕ} {code : List ℕ} (r s : Option ℕ) → HeightsPost main count code r → HeightsPost main count code s → r ≡ s
heights_one_answer (Some m) (Some n) p q = ap Some (one_greatest p.means.1 q.means.1)
heights_one_answer (Some m) None p q = absurd (q.means p.means.0)
heights_one_answer None (Some n) p q = absurd (p.means q.means.0)
heights_one_answer None None p q = refl
