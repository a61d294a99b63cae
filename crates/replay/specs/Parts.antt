-- A record's parts, and what is said of it.
use Rattle.std.specs.Prelude.{Bool, ◌&&◌, List, ◌≡◌, ℕ, ◌+◌, ◌-◌, take, drop}
use Rattle.replay_judge.specs.declared.Verdict.{Verdict}
use Rattle.replay_judge.specs.Compared.{verdict_of}
use Rattle.records.specs.Reading.{size_at}
use Rattle.replay.specs.declared.Ends.{Ends}

-- where a record's parts end, by the four lengths in front of them
unfoldable pub ends_of : List ℕ → Ends
ends_of h = record {
  image = size_at h 0;
  loading = size_at h 0 + size_at h 4;
  running = size_at h 0 + size_at h 4 + size_at h 8;
  listing = size_at h 0 + size_at h 4 + size_at h 8 + size_at h 12;
}

-- how many bytes its parts take
unfoldable pub bytes_of : List ℕ → ℕ
bytes_of h = (ends_of h).listing

-- the parts stand one behind the other
unfoldable pub wanted : List ℕ → Ends → Verdict
wanted body e = verdict_of (take e.image body) (take (e.loading - e.image) (drop e.image body)) (take (e.running - e.loading) (drop e.loading body))
    (take (e.listing - e.running) (drop e.running body))

-- a record agrees if all of it does
unfoldable pub agreed : Verdict → Bool
agreed v = v.loading && v.saving && v.running && v.listing

-- parts that came whole are judged
unfoldable pub Judged : (head body : List ℕ) → Bool → Type 0
Judged head body agrees = agrees ≡ agreed (wanted body (ends_of head))
