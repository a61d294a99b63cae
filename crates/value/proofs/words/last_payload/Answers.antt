-- `value::words::last_payload` meets its contract.
use Rattle.value.proofs.Lasts.{payload_none, payload_some}
use Rattle.value.proofs.words.last_payload.Goals as goal

pub returns-in-None : goal.returns-in-None
returns-in-None c = payload_none c.in-None.is

pub returns-in-Some : goal.returns-in-Some
returns-in-Some c = payload_some c.in-Some.is c.payload_of.ensures
