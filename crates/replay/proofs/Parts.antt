-- The lengths of a record, and what comes of it.
use mathlib.Core.Path.{◌≡◌, refl, ap, ◌∙◌}
use mathlib.Core.Bool.{Bool}
use mathlib.Core.List.{List}
use Prim.Native.Nat.{ℕ, ◌+◌}
use Rattle.std.specs.Prelude.{Result, Ok, Err}
use Rattle.records.specs.declared.Stop.{Stop}
use Rattle.records.specs.Reading.{size_at, HeadRead, PartsRead, RecordRead, no_parts, judged}
use Rattle.replay_judge.specs.declared.Verdict.{Verdict}
use Rattle.replay.specs.declared.Ends.{Ends}
use Rattle.replay.specs.Parts.{ends_of, bytes_of, wanted, agreed, Judged}

pub ends_read : (h : List ℕ) {i l r p : ℕ} → i ≡ size_at h 0 → l ≡ size_at h 4 → r ≡ size_at h 8 → p ≡ size_at h 12 →
    record { image = i; loading = i + l; running = i + l + r; listing = i + l + r + p } ≡ ends_of h
unfolding ends_of
ends_read h a b c d = rw (a, b, c, d)

-- a record that was read is judged
module _ {e : Ends} {head body body' : List ℕ} (is : e ≡ ends_of head) where
  pub cut : {stop : Stop} {r : Result Bool Stop} → HeadRead head (Ok tt) → PartsRead e.listing body body' (Err stop) → r ≡ Err stop → RecordRead bytes_of Judged head body body' r
  unfolding bytes_of
  cut h p q = no_parts h (rw is at p) q

  pub came : {v : Verdict} {agrees : Bool} → HeadRead head (Ok tt) → PartsRead e.listing body body' (Ok tt) → v ≡ wanted body' e → agrees ≡ agreed v
      → RecordRead bytes_of Judged head body body' (Ok agrees)
  unfolding bytes_of Judged
  came h p w q = judged h (rw is at p) (q ∙ ap agreed (w ∙ ap (wanted body') is)) refl
