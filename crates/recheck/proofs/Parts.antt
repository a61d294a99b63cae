-- The lengths of a record, the facts of its image, and what comes of it.
use mathlib.Core.Path.{◌≡◌, refl, ap, ◌∙◌}
use mathlib.Core.Bool.{Bool}
use mathlib.Core.List.{List}
use Prim.Native.Nat.{ℕ, ◌+◌, ◌≤◌}
use lib.ListN.{length, take}
use Rattle.model.specs.Equality.{same_bytes}
use Rattle.check_report.specs.Links.{Facts}
use Rattle.check_report.proofs.Saying.{said_taken, said_length}
use Rattle.std.specs.Prelude.{Result, Ok, Err}
use Rattle.records.specs.declared.Stop.{Stop}
use Rattle.records.specs.Reading.{size_at, HeadRead, PartsRead, RecordRead, no_parts, judged}
use Rattle.recheck.specs.declared.Ends.{Ends}
use Rattle.recheck.specs.Parts.{ends_of, bytes_of, Agrees, AgreesAt, Judged}

pub ends_read : (h : List ℕ) {i t : ℕ} → i ≡ size_at h 0 → t ≡ size_at h 4 → record { image = i; text = i + t } ≡ ends_of h
unfolding ends_of
ends_read h a b = rw (a, b)

module _ {image out out' : List ℕ} {n : ℕ} (f : Facts image out n out') where
  module _ (h : 16480 ≤ length out) where
    pub facts_length : n ≡ length (take n out')
    facts_length = said_length f.put h

    pub facts_agree : (want : List ℕ) (r : Bool) → r ≡ same_bytes (take n out') want → Agrees image want r
    facts_agree want r e =
        record { answer = f.answer; heights = f.heights; answers = f.answers; same = e ∙ ap (λ (l : List ℕ). same_bytes l want) (said_taken f.put h) }

-- a record that was read is judged
module _ {e : Ends} {head body body' : List ℕ} (is : e ≡ ends_of head) where
  pub cut : {stop : Stop} {r : Result Bool Stop} → HeadRead head (Ok tt) → PartsRead e.text body body' (Err stop) → r ≡ Err stop → RecordRead bytes_of Judged head body body' r
  unfolding bytes_of
  cut h p q = no_parts h (rw is at p) q

  pub came : {agrees : Bool} → HeadRead head (Ok tt) → PartsRead e.text body body' (Ok tt) → AgreesAt e body' agrees → RecordRead bytes_of Judged head body body' (Ok agrees)
  unfolding bytes_of Judged
  came h p q = judged h (rw is at p) (rw is at q) refl
