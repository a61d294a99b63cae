-- The loop of the scan: each turn of it, and its end.
use mathlib.Core.Path.{◌≡◌, refl, sym, ap, ◌∙◌}
use mathlib.Core.Bool.{Bool}
use mathlib.Core.List.{List}
use Prim.Native.Nat.{ℕ, ◌+◌, ◌≤◌, ◌<◌}
use native.Mathlib.Omega.{arith}
use lib.ListN.{length}
use Rattle.check_rules.specs.Rules.{leaps}
use Rattle.check_heights.specs.declared.Flaw.{Flaw}
use Rattle.check_heights.specs.Answer.{HeightsPre}
use Rattle.check_heights.specs.Links.{Known, VisitPre, TurnPre, TurnPost, Half, prepared, ScanPre, ScanPost}
use Rattle.check_heights.proofs.Walks.{path_within, path_whole}
use Rattle.check_heights.proofs.Instructions.{path_low}
use Rattle.check_heights.proofs.Tables.{prepared_length}
use Rattle.check_heights.proofs.Halves.{half_start, half_turned, half_broke}
use Rattle.std.specs.Prelude.{Err, Ok}

module _ (main : Bool) (count : ℕ) (code : List ℕ) where
  pub scan_ready : {t₀ t : List ℕ} → HeightsPre main count code t₀ → t ≡ prepared count (length t₀) → ScanPre main count code t
  scan_ready {t₀} {t} g e =
      let same : length t ≡ length t₀ = ap length e ∙ prepared_length count (length t₀) in
      record {
        given = record { whole = g.whole; landing = g.landing; few = g.few; codes = g.codes; room = omega (arith, g.room) };
        fresh = e ∙ ap (prepared count) (sym same);
      }

  -- at the head of the loop
  pub record Looping (t₀ : List ℕ) (i top : ℕ) (t : List ℕ) : Type 0 where
    pub half : Half main count code i top t
    pub same : length t ≡ length t₀
    pub within : i ≤ length code

  module _ (t₀ : List ℕ) (pre : ScanPre main count code t₀) where
    pub loop_starts : Looping t₀ 0 count t₀
    loop_starts =
        let room = pre.given.room in
        record {
          half = rw pre.fresh (half_start main count code (length t₀) (omega arith));
          same = refl;
          within = omega arith;
        }

    module _ {i top : ℕ} {t : List ℕ} (l : Looping t₀ i top t) where
      reached_ready : i < length code → {h : ℕ} → Known t i h → VisitPre code i h t
      reached_ready lt z =
          let g = pre.given in
          let p = l.half.paths z in
          let low = path_low p in
          record {
            here = record { inside = lt; whole = path_whole main code g.whole g.landing p lt; codes = g.codes };
            lands = λ q. path_within main code g.whole g.landing (leaps p lt q);
            room = omega (arith, g.room, l.same);
            low = omega (arith, g.few, g.codes);
          }

      pub turn_ready : i < length code → TurnPre code i t
      turn_ready lt = record { inside = omega (arith, pre.given.room, l.same); ready = reached_ready lt }

      pub loop_goes : i < length code → {m : ℕ} {t' : List ℕ} → TurnPost main code i top t (Ok m) t' → length t' ≡ length t → Looping t₀ (i + 1) m t'
      loop_goes lt p n = record { half = half_turned main count code l.half lt p.means; same = n ∙ l.same; within = omega arith }

      pub loop_breaks : i < length code → {x : Flaw} {t' : List ℕ} → TurnPost main code i top t (Err x) t' → {t'' : List ℕ} → ScanPost main count code (Err x) t''
      loop_breaks lt p = record { means = half_broke main count code l.half lt p.means }

      pub loop_ends : length code ≤ i → ScanPost main count code (Ok top) t
      loop_ends g =
          let e : i ≡ length code = omega (arith, l.within) in
          record { means = rw e at l.half }
