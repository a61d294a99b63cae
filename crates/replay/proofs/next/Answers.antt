-- `replay::next`: by how far the record came.
use borrow.Author.Rules.{rules}
use native.Mathlib.Omega.{arith}
use mathlib.Core.Path.{refl}
use Rattle.records.proofs.Read.{room}
use Rattle.records.specs.Reading.{no_head}
use Rattle.replay.proofs.Parts.{cut, came}
use Rattle.replay.proofs.next.Goals as goal

pub returns-in_err-read_head : goal.returns-in_err-read_head
returns-in_err-read_head g c = no_head c.in_err-read_head.ensures refl (search rules)

pub returns-in_err-read_parts : goal.returns-in_err-read_parts
returns-in_err-read_parts g c = cut c.ends_of-e.ensures.value c.in_ok-read_head.ensures c.in_err-read_parts.ensures (search rules)

pub judged-requires : goal.judged-requires
judged-requires g c = let h = room c.in_ok-read_parts.ensures in let k = c.ends_of-e.ensures.image_le_loading in (k.0, k.1, k.2, omega (arith, h, c.read_parts.auto.body))

pub returns : goal.returns
returns g c = came c.ends_of-e.ensures.value c.in_ok-read_head.ensures c.in_ok-read_parts.ensures c.judged.ensures c.report.ensures
