-- A record's two parts, an image and the facts that are expected of its check, and what is said of it.
use Rattle.std.specs.Prelude.{Bool, List, ◌≡◌, ℕ, ◌+◌, ◌-◌, take, drop, replicate, Result}
use Rattle.model.specs.declared.Counts.{Counts}
use Rattle.model.specs.Equality.{same_bytes}
use Rattle.check_rules.specs.declared.Rejected.{Rejected}
use Rattle.check_report.specs.Texts.{facts_text}
use Rattle.check_report.specs.Links.{Answers}
use Rattle.records.specs.Reading.{size_at}
use Rattle.recheck.specs.declared.Ends.{Ends}

-- where a record's parts end, by the two lengths in front of them
unfoldable pub ends_of : List ℕ → Ends
ends_of h = record { image = size_at h 0; text = size_at h 0 + size_at h 4 }

-- how many bytes its parts take
unfoldable pub bytes_of : List ℕ → ℕ
bytes_of h = (ends_of h).text

-- r tells whether a text is the facts of what is answered of an image
pub record Agrees (image want : List ℕ) (r : Bool) : Type 0 where
  pub answer : Result Counts Rejected
  pub heights : List ℕ
  pub answers : Answers image (replicate 256 0) answer heights
  pub same : r ≡ same_bytes (facts_text answer heights) want

-- a record agrees if its text does
abbrev pub AgreesAt : Ends → (body : List ℕ) → Bool → Type 0
AgreesAt e body r = Agrees (take e.image body) (take (e.text - e.image) (drop e.image body)) r

-- a record that came whole is judged
unfoldable pub Judged : (head body : List ℕ) → Bool → Type 0
Judged head body r = AgreesAt (ends_of head) body r
