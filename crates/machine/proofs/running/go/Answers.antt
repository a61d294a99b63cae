-- `machine::running::go` meets its contract.
use Rattle.layout.specs.Lent.{stores_in}
use Rattle.std.proofs.Common.{arith, refl, sym, ◌∙◌}
use Rattle.model.specs.Machines.{continues, world_of}
use Rattle.run_ends.specs.Links.{program_lent}
use Rattle.model.specs.Values.{fault_number}
use Rattle.machine.specs.Links.{run_lent}
use Rattle.machine.proofs.Granted.{lengths_of}
use Rattle.machine.proofs.Begins.{Begins, run_under}
use Rattle.machine.proofs.Stops.{Stops, frame_there, stack_there, trace_ready, run_stopped}
use Rattle.machine.proofs.Settles.{Came}
use Rattle.machine.proofs.Settles as se
use Rattle.machine.proofs.running.go.Goals as goal

pub all_given-given-requires : goal.all_given-given-requires
all_given-given-requires c =
    c.requires.fits.1.1

pub current-f-requires : goal.current-f-requires
current-f-requires c =
    unfold run_lent in (lengths_of c.args.m (stores_in c.args.stores.now) (run_lent c.args.stack.now c.args.cells.now c.args.frames.now c.args.copy.now c.args.backtrace.now) c.requires.order).current

pub turns-c-requires : goal.turns-c-requires
turns-c-requires c =
    let begins : Begins c.args.m (stores_in c.args.stores.now) (run_lent c.args.stack.now c.args.cells.now c.args.frames.now c.args.copy.now c.args.backtrace.now) c.args.units c.fixed-k.result c.resumed-begun.result = (unfold program_lent run_lent in record {
      granted = c.requires;
      bytes = record { main = λ j h. c.code_is_bytes.ensures.main j; other = λ j h. c.code_is_bytes.ensures.other j };
      fixed = record {
        constants = c.fixed-k.ensures.constants;
        structs = c.fixed-k.ensures.structs;
        functions = c.fixed-k.ensures.functions;
        slots = c.fixed-k.ensures.slots c.args.stack.now refl;
        frames = c.fixed-k.ensures.frames c.args.frames.now refl;
        given = c.fixed-k.ensures.given ∙ c.all_given-given.ensures;
        strict = c.fixed-k.ensures.strict;
      };
      begun = rw c.current-f.ensures at c.resumed-begun.ensures;
    }) in
    (world_of c.args.m (stores_in c.args.stores.now) (run_lent c.args.stack.now c.args.cells.now c.args.frames.now c.args.copy.now c.args.backtrace.now), (rw c.current-f.ensures (unfold program_lent run_lent in run_under c.args.m (stores_in c.args.stores.now) (run_lent c.args.stack.now c.args.cells.now c.args.frames.now c.args.copy.now c.args.backtrace.now) c.args.units c.fixed-k.result c.resumed-begun.result begins)))

pub finish-requires : goal.finish-requires
finish-requires c =
    let begins : Begins c.args.m (stores_in c.args.stores.now) (run_lent c.args.stack.now c.args.cells.now c.args.frames.now c.args.copy.now c.args.backtrace.now) c.args.units c.fixed-k.result c.resumed-begun.result = (unfold program_lent run_lent in record {
      granted = c.requires;
      bytes = record { main = λ j h. c.code_is_bytes.ensures.main j; other = λ j h. c.code_is_bytes.ensures.other j };
      fixed = record {
        constants = c.fixed-k.ensures.constants;
        structs = c.fixed-k.ensures.structs;
        functions = c.fixed-k.ensures.functions;
        slots = c.fixed-k.ensures.slots c.args.stack.now refl;
        frames = c.fixed-k.ensures.frames c.args.frames.now refl;
        given = c.fixed-k.ensures.given ∙ c.all_given-given.ensures;
        strict = c.fixed-k.ensures.strict;
      };
      begun = rw c.current-f.ensures at c.resumed-begun.ensures;
    }) in
    let came : Came c.args.m (stores_in c.args.stores.now) (run_lent c.args.stack.now c.args.cells.now c.args.frames.now c.args.copy.now c.args.backtrace.now) c.args.units c.fixed-k.result c.resumed-begun.result c.turns-c.result c.turns-c.new.stack c.turns-c.new.cells c.turns-c.new.frames = unfold run_lent in record {
      begins = begins;
      turns = rw c.current-f.ensures at (c.turns-c.ensures (world_of c.args.m (stores_in c.args.stores.now) (run_lent c.args.stack.now c.args.cells.now c.args.frames.now c.args.copy.now c.args.backtrace.now)) (rw c.current-f.ensures (unfold program_lent run_lent in run_under c.args.m (stores_in c.args.stores.now) (run_lent c.args.stack.now c.args.cells.now c.args.frames.now c.args.copy.now c.args.backtrace.now) c.args.units c.fixed-k.result c.resumed-begun.result begins)));
      stack_room = omega arith;
      cell_room = omega arith;
      frames_room = omega arith;
    } in
    (se.callers_small c.args.m (stores_in c.args.stores.now) (run_lent c.args.stack.now c.args.cells.now c.args.frames.now c.args.copy.now c.args.backtrace.now) c.args.units c.fixed-k.result c.resumed-begun.result c.turns-c.result c.turns-c.new.stack c.turns-c.new.cells c.turns-c.new.frames came, se.callers_there c.args.m (stores_in c.args.stores.now) (run_lent c.args.stack.now c.args.cells.now c.args.frames.now c.args.copy.now c.args.backtrace.now) c.args.units c.fixed-k.result c.resumed-begun.result c.turns-c.result c.turns-c.new.stack c.turns-c.new.cells c.turns-c.new.frames came, se.answerable c.args.m (stores_in c.args.stores.now) (run_lent c.args.stack.now c.args.cells.now c.args.frames.now c.args.copy.now c.args.backtrace.now) c.args.units c.fixed-k.result c.resumed-begun.result c.turns-c.result c.turns-c.new.stack c.turns-c.new.cells c.turns-c.new.frames came)

pub returns : goal.returns
returns c =
    let begins : Begins c.args.m (stores_in c.args.stores.now) (run_lent c.args.stack.now c.args.cells.now c.args.frames.now c.args.copy.now c.args.backtrace.now) c.args.units c.fixed-k.result c.resumed-begun.result = (unfold program_lent run_lent in record {
      granted = c.requires;
      bytes = record { main = λ j h. c.code_is_bytes.ensures.main j; other = λ j h. c.code_is_bytes.ensures.other j };
      fixed = record {
        constants = c.fixed-k.ensures.constants;
        structs = c.fixed-k.ensures.structs;
        functions = c.fixed-k.ensures.functions;
        slots = c.fixed-k.ensures.slots c.args.stack.now refl;
        frames = c.fixed-k.ensures.frames c.args.frames.now refl;
        given = c.fixed-k.ensures.given ∙ c.all_given-given.ensures;
        strict = c.fixed-k.ensures.strict;
      };
      begun = rw c.current-f.ensures at c.resumed-begun.ensures;
    }) in
    let came : Came c.args.m (stores_in c.args.stores.now) (run_lent c.args.stack.now c.args.cells.now c.args.frames.now c.args.copy.now c.args.backtrace.now) c.args.units c.fixed-k.result c.resumed-begun.result c.turns-c.result c.turns-c.new.stack c.turns-c.new.cells c.turns-c.new.frames = unfold run_lent in record {
      begins = begins;
      turns = rw c.current-f.ensures at (c.turns-c.ensures (world_of c.args.m (stores_in c.args.stores.now) (run_lent c.args.stack.now c.args.cells.now c.args.frames.now c.args.copy.now c.args.backtrace.now)) (rw c.current-f.ensures (unfold program_lent run_lent in run_under c.args.m (stores_in c.args.stores.now) (run_lent c.args.stack.now c.args.cells.now c.args.frames.now c.args.copy.now c.args.backtrace.now) c.args.units c.fixed-k.result c.resumed-begun.result begins)));
      stack_room = omega arith;
      cell_room = omega arith;
      frames_room = omega arith;
    } in
    let e = c.finish.ensures in
    rw (e.0, c.stands_paused.ensures, c.all_given-given.ensures, e.1, c.frame_of-at.ensures) (unfold run_lent in se.run_settled c.args.m (stores_in c.args.stores.now) (run_lent c.args.stack.now c.args.cells.now c.args.frames.now c.args.copy.now c.args.backtrace.now) c.args.units c.fixed-k.result c.resumed-begun.result c.turns-c.result c.turns-c.new.stack c.turns-c.new.cells c.turns-c.new.frames came (λ y q. c.in_default.not-Stopped y q))

pub stop-requires : goal.stop-requires
unfolding program_lent run_lent
stop-requires c =
    let begins : Begins c.args.m (stores_in c.args.stores.now) (run_lent c.args.stack.now c.args.cells.now c.args.frames.now c.args.copy.now c.args.backtrace.now) c.args.units c.fixed-k.result c.resumed-begun.result = (record {
      granted = c.requires;
      bytes = record { main = λ j h. c.code_is_bytes.ensures.main j; other = λ j h. c.code_is_bytes.ensures.other j };
      fixed = record {
        constants = c.fixed-k.ensures.constants;
        structs = c.fixed-k.ensures.structs;
        functions = c.fixed-k.ensures.functions;
        slots = c.fixed-k.ensures.slots c.args.stack.now refl;
        frames = c.fixed-k.ensures.frames c.args.frames.now refl;
        given = c.fixed-k.ensures.given ∙ c.all_given-given.ensures;
        strict = c.fixed-k.ensures.strict;
      };
      begun = rw c.current-f.ensures at c.resumed-begun.ensures;
    }) in
    let came : Came c.args.m (stores_in c.args.stores.now) (run_lent c.args.stack.now c.args.cells.now c.args.frames.now c.args.copy.now c.args.backtrace.now) c.args.units c.fixed-k.result c.resumed-begun.result c.turns-c.result c.turns-c.new.stack c.turns-c.new.cells c.turns-c.new.frames = record {
      begins = begins;
      turns = rw c.current-f.ensures at (c.turns-c.ensures (world_of c.args.m (stores_in c.args.stores.now) (run_lent c.args.stack.now c.args.cells.now c.args.frames.now c.args.copy.now c.args.backtrace.now)) (rw c.current-f.ensures (run_under c.args.m (stores_in c.args.stores.now) (run_lent c.args.stack.now c.args.cells.now c.args.frames.now c.args.copy.now c.args.backtrace.now) c.args.units c.fixed-k.result c.resumed-begun.result begins)));
      stack_room = omega arith;
      cell_room = omega arith;
      frames_room = omega arith;
    } in
    let x : Stops (continues c.args.units) c.args.m (stores_in c.args.stores.now) (run_lent c.args.stack.now c.args.cells.now c.args.frames.now c.args.copy.now c.args.backtrace.now) c.turns-c.result.going c.frame_of-at.result (fault_number c.in-Stopped.fault) c.turns-c.new.stack c.turns-c.new.cells c.turns-c.new.frames = rw c.frame_of-at.ensures (se.stops c.args.m (stores_in c.args.stores.now) (run_lent c.args.stack.now c.args.cells.now c.args.frames.now c.args.copy.now c.args.backtrace.now) c.args.units c.fixed-k.result c.resumed-begun.result c.turns-c.result c.turns-c.new.stack c.turns-c.new.cells c.turns-c.new.frames came c.in-Stopped.is) in
    (se.callers_small c.args.m (stores_in c.args.stores.now) (run_lent c.args.stack.now c.args.cells.now c.args.frames.now c.args.copy.now c.args.backtrace.now) c.args.units c.fixed-k.result c.resumed-begun.result c.turns-c.result c.turns-c.new.stack c.turns-c.new.cells c.turns-c.new.frames came, trace_ready (continues c.args.units) c.args.m (stores_in c.args.stores.now) (run_lent c.args.stack.now c.args.cells.now c.args.frames.now c.args.copy.now c.args.backtrace.now) c.turns-c.result.going c.frame_of-at.result (fault_number c.in-Stopped.fault) c.turns-c.new.stack c.turns-c.new.cells c.turns-c.new.frames x, x.saved.copy, stack_there (continues c.args.units) c.args.m (stores_in c.args.stores.now) (run_lent c.args.stack.now c.args.cells.now c.args.frames.now c.args.copy.now c.args.backtrace.now) c.turns-c.result.going c.frame_of-at.result (fault_number c.in-Stopped.fault) c.turns-c.new.stack c.turns-c.new.cells c.turns-c.new.frames x, frame_there (continues c.args.units) c.args.m (stores_in c.args.stores.now) (run_lent c.args.stack.now c.args.cells.now c.args.frames.now c.args.copy.now c.args.backtrace.now) c.turns-c.result.going c.frame_of-at.result (fault_number c.in-Stopped.fault) c.turns-c.new.stack c.turns-c.new.cells c.turns-c.new.frames x)

pub returns-in-Stopped : goal.returns-in-Stopped
unfolding program_lent run_lent
returns-in-Stopped c =
    let begins : Begins c.args.m (stores_in c.args.stores.now) (run_lent c.args.stack.now c.args.cells.now c.args.frames.now c.args.copy.now c.args.backtrace.now) c.args.units c.fixed-k.result c.resumed-begun.result = (record {
      granted = c.requires;
      bytes = record { main = λ j h. c.code_is_bytes.ensures.main j; other = λ j h. c.code_is_bytes.ensures.other j };
      fixed = record {
        constants = c.fixed-k.ensures.constants;
        structs = c.fixed-k.ensures.structs;
        functions = c.fixed-k.ensures.functions;
        slots = c.fixed-k.ensures.slots c.args.stack.now refl;
        frames = c.fixed-k.ensures.frames c.args.frames.now refl;
        given = c.fixed-k.ensures.given ∙ c.all_given-given.ensures;
        strict = c.fixed-k.ensures.strict;
      };
      begun = rw c.current-f.ensures at c.resumed-begun.ensures;
    }) in
    let came : Came c.args.m (stores_in c.args.stores.now) (run_lent c.args.stack.now c.args.cells.now c.args.frames.now c.args.copy.now c.args.backtrace.now) c.args.units c.fixed-k.result c.resumed-begun.result c.turns-c.result c.turns-c.new.stack c.turns-c.new.cells c.turns-c.new.frames = record {
      begins = begins;
      turns = rw c.current-f.ensures at (c.turns-c.ensures (world_of c.args.m (stores_in c.args.stores.now) (run_lent c.args.stack.now c.args.cells.now c.args.frames.now c.args.copy.now c.args.backtrace.now)) (rw c.current-f.ensures (run_under c.args.m (stores_in c.args.stores.now) (run_lent c.args.stack.now c.args.cells.now c.args.frames.now c.args.copy.now c.args.backtrace.now) c.args.units c.fixed-k.result c.resumed-begun.result begins)));
      stack_room = omega arith;
      cell_room = omega arith;
      frames_room = omega arith;
    } in
    let x : Stops (continues c.args.units) c.args.m (stores_in c.args.stores.now) (run_lent c.args.stack.now c.args.cells.now c.args.frames.now c.args.copy.now c.args.backtrace.now) c.turns-c.result.going c.frame_of-at.result (fault_number c.in-Stopped.fault) c.turns-c.new.stack c.turns-c.new.cells c.turns-c.new.frames = rw c.frame_of-at.ensures (se.stops c.args.m (stores_in c.args.stores.now) (run_lent c.args.stack.now c.args.cells.now c.args.frames.now c.args.copy.now c.args.backtrace.now) c.args.units c.fixed-k.result c.resumed-begun.result c.turns-c.result c.turns-c.new.stack c.turns-c.new.cells c.turns-c.new.frames came c.in-Stopped.is) in
    let e = c.stop.ensures in
    rw (e.0, c.fault_number-number.ensures, e.1, e.2, e.3) (run_stopped (continues c.args.units) c.args.m (stores_in c.args.stores.now) (run_lent c.args.stack.now c.args.cells.now c.args.frames.now c.args.copy.now c.args.backtrace.now) c.turns-c.result.going c.frame_of-at.result (fault_number c.in-Stopped.fault) c.turns-c.new.stack c.turns-c.new.cells c.turns-c.new.frames x)
