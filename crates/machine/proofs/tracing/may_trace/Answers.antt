-- `may_trace`: refused 19, 17, or neither.
use Rattle.machine.proofs.Tracings.{is_short, has_room_lem, is_bad}
use Rattle.machine.proofs.tracing.may_trace.Goals as goal

pub returns-then-not-good : goal.returns-then-not-good
returns-then-not-good c = λ out e. is_bad _ _ out c.if-not-good.true

pub returns-then-room-n : goal.returns-then-room-n
returns-then-room-n c = λ out e. is_short _ _ out c.if-not-good.false (c.room.ensures out e) c.if-room-n.true

pub returns : goal.returns
returns c = λ out e. has_room_lem _ _ out c.if-not-good.false (c.room.ensures out e) c.if-room-n.false
