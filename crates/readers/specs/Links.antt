-- What the answers of the inner functions stand for.
use Rattle.std.specs.Prelude.{List, ℕ, ◌+◌, leb, if◌then◌else◌, Err, Ok, Result}
use Rattle.std.proofs.Math.Option.{Option, none, some}
use Rattle.model.specs.declared.Vm.{Vm}
use Rattle.model.specs.declared.Value.{Value}
use Rattle.model.specs.Values.{text_at}
use Rattle.model.specs.Loading.{OutRes, put_out}
use Rattle.model.specs.Readers.{reads, header_at}
use Rattle.model.specs.declared.Refusal.{Refusal}
use Rattle.model.specs.declared.Refusal.TheVariants as why

abbrev pub told_header : Option ℕ → Result ℕ Refusal
told_header none = Err why.WrongKind
told_header (some p) = Ok p

-- where the header of a list or struct is
unfoldable pub block_at : Vm → Value → List ℕ → Result ℕ Refusal
block_at m x cells = if reads m x cells then told_header (header_at x) else Err why.NotInOrder

-- the n bytes of text from o on, where they lie inside the text that is taken
unfoldable pub text_put : Vm → List ℕ → List ℕ → ℕ → ℕ → OutRes
text_put m text out o n = if leb (o + n) m.program.text then put_out (text_at text o n) out else record { answer = Err why.NotInOrder; out = out }
