-- What a report reads, its lines, and what is printed of a text.
use Rattle.std.specs.Prelude.{List, [], ℕ, ◌*◌, ◌≤◌, ◌<◌, ◌^◌, leb, length, if◌then◌else◌, Err, Ok, Result}
use Rattle.model.specs.declared.Halt.TheVariants.{Value, Continue, Fault, Paused}
use Rattle.model.specs.Values.{places}
use Rattle.model.specs.Emission.{written}
use Rattle.model.specs.Runs.{ends, pauses}
use Rattle.model.specs.Machines.{RunAnswer, ran, refused}
use Rattle.model.specs.Reports.{ran_lines, refused_line}
use Rattle.model.specs.declared.Halt.{Halt}
use Rattle.model.specs.declared.Refusal.{Refusal}

-- what an answer speaks of lies inside stores of these lengths: the cells of a value, the entries of a backtrace
abbrev pub Inside : Result Halt Refusal → ℕ → ℕ → Type 0
Inside (Ok (Value m v n)) cells backtrace = 2 * m.cells ≤ cells
Inside (Ok (Continue m n)) cells backtrace = Unit
Inside (Ok (Fault m k n j)) cells backtrace = 3 * j ≤ backtrace
Inside (Ok (Paused m)) cells backtrace = Unit
Inside (Err n) cells backtrace = Unit

-- an answer that can be printed: its backtrace's store is small enough to count the bytes
pub record Shows (r : Result Halt Refusal) (cells backtrace : List ℕ) : Type 0 where
  pub inside : Inside r (length cells) (length backtrace)
  pub small : length backtrace < 2 ^ 32

-- the lines of what a call of a run came to: those of a run that is over, or of a refusal. A run that is paused has none yet
unfoldable pub answer_lines : RunAnswer → List ℕ
answer_lines (ran c (ends x)) = ran_lines x
answer_lines (ran c (pauses r)) = []
answer_lines (refused n) = refused_line n

-- ---- printing: how many bytes, and the store that they were put into

pub record Printed : Type 0 where
  pub count : ℕ
  pub out : List ℕ

-- a text that fits is put at the front of the store; of one that does not, nothing
unfoldable pub printed : List ℕ → List ℕ → Printed
printed bytes out = if leb (length bytes) (places 1 out) then record { count = length bytes; out = written out 0 bytes } else record { count = 0; out = out }
