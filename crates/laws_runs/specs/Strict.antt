-- [strict] "The written rules .. hold for both over one definition that takes the setting."
use Rattle.std.specs.Prelude.{Bool}
use Rattle.model.specs.Steps.{World}

-- the same world, on a machine that is strict or not
abbrev pub set_to : (strict : Bool) → World → World
set_to b w = record {
  constants = w.constants;
  text = w.text;
  structs = w.structs;
  functions = w.functions;
  stack_room = w.stack_room;
  frame_room = w.frame_room;
  cell_room = w.cell_room;
  strict = b;
}
