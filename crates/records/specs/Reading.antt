-- What is read of a record: the lengths in front of it, and its parts.
use Rattle.std.specs.Prelude.{Bool, true, false, List, ◌≡◌, ℕ, ◌+◌, ◌*◌, ◌≤◌, ◌<◌, leb, ltb, length, drop, get_or, if◌then◌else◌, Result, Ok, Err}
use Rattle.records.specs.declared.Stop.{Stop}
use Rattle.records.specs.declared.Stop.TheVariants.{Over, Cut}

-- a length: four bytes from i on, low byte first
unfoldable pub size_at : List ℕ → ℕ → ℕ
size_at h i = get_or h i 0 + 256 * get_or h (i + 1) 0 + 65536 * get_or h (i + 2) 0 + 16777216 * get_or h (i + 3) 0

-- lengths that take n bytes, of which `had` came: none, so there is no record; or too few; or all
unfoldable pub came_of : (had n : ℕ) → Result (Unit {0}) Stop
came_of had n = if leb had 0 then Err Over else if ltb had n then Err Cut else Ok tt

-- lengths were read, `had` bytes of them
pub record HeadRead (head : List ℕ) (r : Result (Unit {0}) Stop) : Type 0 where
  pub had : ℕ
  pub inside : had ≤ length head
  pub answer : r ≡ came_of had (length head)

-- parts that came whole are there to be judged
unfoldable pub parts_of : Bool → Result (Unit {0}) Stop
parts_of true = Ok tt
parts_of false = Err Cut

-- parts were read into a body, `had` bytes of them: what stands behind them is as it was, and so is all of a body that has no room for them
pub record PartsRead (n : ℕ) (body body' : List ℕ) (r : Result (Unit {0}) Stop) : Type 0 where
  pub had : ℕ
  pub inside : had ≤ length body
  pub behind : drop n body' ≡ drop n body
  pub kept : length body < n → body' ≡ body
  pub answer : r ≡ parts_of (leb n had)

-- a record was read: its lengths did not come, and the body is as it was; or its parts did not; or it came whole and was judged. By its lengths
-- its parts take so many bytes, and the verdict on lengths and parts is what Judged says
pub data RecordRead (bytes : List ℕ → ℕ) (Judged : (head body : List ℕ) → Bool → Type 0) (head body body' : List ℕ) (r : Result Bool Stop) : Type 0 where
  no_head : {stop : Stop} → HeadRead head (Err stop) → body' ≡ body → r ≡ Err stop → RecordRead bytes Judged head body body' r
  no_parts : {stop : Stop} → HeadRead head (Ok tt) → PartsRead (bytes head) body body' (Err stop) → r ≡ Err stop → RecordRead bytes Judged head body body' r
  judged : {agrees : Bool} → HeadRead head (Ok tt) → PartsRead (bytes head) body body' (Ok tt) → Judged head body' agrees → r ≡ Ok agrees → RecordRead bytes Judged head body body' r
