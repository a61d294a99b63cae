-- In a store of 1,048,576 bytes the whole text is held.
use mathlib.Core.Path.{◌≡◌, ◌∙◌}
use mathlib.Core.List.{List}
use Prim.Native.Nat.{ℕ, ◌<◌}
use lib.ListN.{length, get_or, take}
use Rattle.streams.specs.Answers.{Answered, Shown}
use Rattle.report.proofs.Lists.{bytes_of}
use Rattle.noted_report.proofs.Fits.{never_lost, bytes_take}
use Rattle.noter.specs.Says.{Says, SaysAll}
use Rattle.std.specs.Prelude.{None, Option, Some}

whole : (input : Option ℕ) (image out out' : List ℕ) → ((i : ℕ) → get_or image i 0 < 256) → length out ≡ 1048576 → Answered Says input image out out' → Answered SaysAll input image out out'
unfolding Answered Says SaysAll
whole (Some n) image out out' small e h = h ∙ never_lost (take n image) out (bytes_take n image (bytes_of image small)) e
whole None image out out' small e h = h

pub nothing_lost : (image out out' : List ℕ) → Shown Says image out out' → ((i : ℕ) → get_or image i 0 < 256) → length out ≡ 1048576 → Shown SaysAll image out out'
nothing_lost image out out' h small e = record {
  input = h.input;
  read = h.read;
  answered = whole h.input image out out' small e h.answered;
}
