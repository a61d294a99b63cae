-- `image_load::loading::payload` meets its contract.
use Rattle.image_load.proofs.Filling.{payload_word, payload_text}
use Rattle.std.proofs.Common.{rules}
use Rattle.image_load.proofs.loading.payload.Goals as goal

pub returns-then-p-lt2 : goal.returns-then-p-lt2
returns-then-p-lt2 c = payload_word _ _ c.if-p-lt2.true

pub returns : goal.returns
returns c = search (rules, payload_text)
