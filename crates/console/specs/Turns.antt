-- What a line does to the machine and to all stores.
use Rattle.std.specs.Prelude.{◌≡◌, List, ℕ, Option, Some, None}
use Rattle.model.specs.declared.Vm.{Vm}
use Rattle.model.specs.Stores.{Stores}
use Rattle.console_script.specs.declared.Line.{Line}
use Rattle.console.specs.declared.commands.Lent.{Lent}
use Rattle.console_frames.specs.declared.Call.{Call}
use Rattle.console.specs.declared.commands.Group.{Group}
use Rattle.console.specs.declared.commands.Group.TheVariants as g
use Rattle.console_script.specs.Words.{word_of, cut_of, blank, line_of, next_line}
use Rattle.console.specs.Asks.{ask_of, group_of}
use Rattle.console.specs.Said.{after_emitted, after_damage}
use Rattle.console_emission.specs.Emits.{Emitted, emit_asked}
use Rattle.console_damage.specs.Damage.{count_asked, result_asked, frame_asked, words_asked, bytes_asked, places_asked}
use Rattle.console_frames.specs.Calls.{Held}
use Rattle.console.specs.Lendings.{OverFrames}

-- the machine, and what the stores hold
pub record Host : Type 0 where
  pub m : Vm
  pub held : Held

-- ---- a line that needs no frames

-- w says what was emitted
unfoldable pub emitted : (m : Vm) (s : Held) (w : Emitted) → Host
emitted m s w = record {
  m = after_emitted m w.answer;
  held = record { program = w.stores; stack = s.stack; cells = s.cells; copy = s.copy; trace = s.trace; frames = s.frames };
}

-- one number of one store, where the line says one
unfoldable pub poked_program : (line : List ℕ) (p : Stores) (stack cells : List ℕ) → Stores
poked_program line p stack cells = record {
  constants = (words_asked line p.constants p.structs p.functions stack cells).constants;
  structs = (words_asked line p.constants p.structs p.functions stack cells).structs;
  functions = (words_asked line p.constants p.structs p.functions stack cells).functions;
  text = (bytes_asked line p.text p.main p.other).text;
  main = (bytes_asked line p.text p.main p.other).main;
  main_places = (places_asked line p.main_places p.other_places).main_places;
  other = (bytes_asked line p.text p.main p.other).other;
  other_places = (places_asked line p.main_places p.other_places).other_places;
}

unfoldable pub poked_in : (line : List ℕ) (s : Held) → Held
poked_in line s = record {
  program = poked_program line s.program s.stack s.cells;
  stack = (words_asked line s.program.constants s.program.structs s.program.functions s.stack s.cells).stack;
  cells = (words_asked line s.program.constants s.program.structs s.program.functions s.stack s.cells).cells;
  copy = s.copy;
  trace = s.trace;
  frames = s.frames;
}

-- other words of frames
unfoldable pub with_frames : (frames : List ℕ) (s : Held) → Held
with_frames frames s = record { program = s.program; stack = s.stack; cells = s.cells; copy = s.copy; trace = s.trace; frames = frames }

-- by the group of its command; one that only tells changes nothing
unfoldable pub obeyed_by : (group : Group) (line : List ℕ) (m : Vm) (s : Held) → Host
obeyed_by (g.Emit kind) line m s = emitted m s (emit_asked kind m.run.on m.program line s.program)
obeyed_by g.Count line m s = record { m = after_damage m (count_asked m line); held = s }
obeyed_by g.Result line m s = record { m = after_damage m (result_asked m line); held = s }
obeyed_by g.Poke line m s = record { m = m; held = poked_in line s }
obeyed_by g.Frame line m s = record { m = m; held = with_frames (frame_asked line s.frames) s }
obeyed_by g.Look line m s = record { m = m; held = s }
obeyed_by g.Read line m s = record { m = m; held = s }
obeyed_by g.Sum line m s = record { m = m; held = s }
obeyed_by g.Said line m s = record { m = m; held = s }
obeyed_by g.Unknown line m s = record { m = m; held = s }

-- the group is that of its first word
unfoldable pub obeyed : (line : List ℕ) (m : Vm) (s : Held) → Host
obeyed line m s = obeyed_by (group_of (word_of line 0)) line m s

-- ---- any line

-- by what it asks; the space holds an image's bytes
unfoldable pub TurnedBy : (asked : Option (Call × Lent)) (space line : List ℕ) (m : Vm) (s : Held) (r : Vm) (s' : Held) → Type 0
TurnedBy (Some (call, lent)) space line m s r s' = OverFrames m call (cut_of space 0 lent.image) lent s r s'
TurnedBy None space line m s r s' = record { m = r; held = s' } ≡ obeyed line m s

-- r is the machine behind the line, and s' what the stores then hold
unfoldable pub Turned : (line : List ℕ) (m : Vm) (s : Held) (r : Vm) (s' : Held) → Type 0
Turned line m s r s' = TurnedBy (ask_of line blank).asked (ask_of line blank).space line m s r s'

-- the lines from l on, one behind the other; s' is what the stores hold behind the last
pub data Played (script : List ℕ) : Option Line → Vm → Held → Held → Type 0 where
  over : {m : Vm} {s : Held} → Played script None m s s
  line : {l : Line} {m : Vm} {s : Held} {r : Vm} {s₁ s' : Held} → Turned (line_of script l) m s r s₁
      → Played script (next_line script l) r s₁ s' → Played script (Some l) m s s'
