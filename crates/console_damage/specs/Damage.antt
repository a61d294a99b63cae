-- What is damaged: one count, or one number of the run that is under way, or the last result, and nothing else; one number of one store.
use Rattle.std.specs.Prelude.{Bool, false, ◌&&◌, List, ℕ, ◌+◌, ◌*◌, ◌/◌, ◌%◌, ltb, length, get_or, set, if◌then◌else◌, Option, Some, None, option_and_then, option_map, unwrap_or, is_some}
use Rattle.model.specs.declared.Vm.{Vm}
use Rattle.model.specs.declared.Counts.{Counts}
use Rattle.model.specs.declared.Run.{Run}
use Rattle.model.specs.declared.Frame.{Frame}
use Rattle.model.specs.Basics.{ascii}
use Rattle.model.specs.Equality.{same_bytes}
use Rattle.model.specs.Values.{value_of}
use Rattle.console_script.specs.declared.Args.{Args}
use Rattle.console_script.specs.Words.{word_of, args_of}
use Rattle.model.specs.declared.Value.{Value}

-- a machine with other counts of its program
unfoldable pub with_program : Vm → Counts → Vm
with_program m c = record { program = c; stack = m.stack; frames = m.frames; cells = m.cells; last = m.last; run = m.run; strict = m.strict }

-- a machine with another run under way
unfoldable pub with_run : Vm → Run → Vm
with_run m r = record { program = m.program; stack = m.stack; frames = m.frames; cells = m.cells; last = m.last; run = r; strict = m.strict }

-- the program's count of that name is n
unfoldable pub program_with : Vm → Counts → List ℕ → ℕ → Option Vm
program_with m c name n =
    if same_bytes name (ascii "constants") then Some (with_program m (record { constants = n; structs = c.structs; functions = c.functions; text = c.text; current = c.current })) else (
    if same_bytes name (ascii "structs") then Some (with_program m (record { constants = c.constants; structs = n; functions = c.functions; text = c.text; current = c.current })) else (
    if same_bytes name (ascii "functions") then Some (with_program m (record { constants = c.constants; structs = c.structs; functions = n; text = c.text; current = c.current })) else (
    if same_bytes name (ascii "text") then Some (with_program m (record { constants = c.constants; structs = c.structs; functions = c.functions; text = n; current = c.current })) else (
    if same_bytes name (ascii "current") then Some (with_program m (record { constants = c.constants; structs = c.structs; functions = c.functions; text = c.text; current = n })) else
    None))))

-- the number of that name of the run that is under way is n; one is under way where `on` is not 0
unfoldable pub run_with : Vm → Run → List ℕ → ℕ → Option Vm
run_with m r name n =
    if same_bytes name (ascii "on") then Some (with_run m (record { on = ltb 0 n; given = r.given; spent = r.spent; returns = r.returns; mark = r.mark; saved = r.saved })) else (
    if same_bytes name (ascii "given") then Some (with_run m (record { on = r.on; given = n; spent = r.spent; returns = r.returns; mark = r.mark; saved = r.saved })) else (
    if same_bytes name (ascii "spent") then Some (with_run m (record { on = r.on; given = r.given; spent = n; returns = r.returns; mark = r.mark; saved = r.saved })) else (
    if same_bytes name (ascii "returns") then Some (with_run m (record { on = r.on; given = r.given; spent = r.spent; returns = n; mark = r.mark; saved = r.saved })) else (
    if same_bytes name (ascii "mark") then Some (with_run m (record { on = r.on; given = r.given; spent = r.spent; returns = r.returns; mark = n; saved = r.saved })) else (
    if same_bytes name (ascii "saved") then Some (with_run m (record { on = r.on; given = r.given; spent = r.spent; returns = r.returns; mark = r.mark; saved = n })) else
    program_with m m.program name n)))))

-- the count of that name is n
unfoldable pub count_with : Vm → List ℕ → ℕ → Option Vm
count_with m name n =
    if same_bytes name (ascii "stack") then Some (record { program = m.program; stack = n; frames = m.frames; cells = m.cells; last = m.last; run = m.run; strict = m.strict }) else (
    if same_bytes name (ascii "frames") then Some (record { program = m.program; stack = m.stack; frames = n; cells = m.cells; last = m.last; run = m.run; strict = m.strict }) else (
    if same_bytes name (ascii "cells") then Some (record { program = m.program; stack = m.stack; frames = m.frames; cells = n; last = m.last; run = m.run; strict = m.strict }) else
    run_with m m.run name n))

-- the last result is that
unfoldable pub last_with : Vm → Option Value → Vm
last_with m l = record { program = m.program; stack = m.stack; frames = m.frames; cells = m.cells; last = l; run = m.run; strict = m.strict }

-- `count NAME N`
unfoldable pub count_args : List ℕ → Option Args
count_args line = args_of line 2 3 (record { a = 281474976710655; b = 0; c = 0; d = 0; e = 0 })

unfoldable pub count_asked : Vm → List ℕ → Option Vm
count_asked m line = option_and_then (λ a. count_with m (word_of line 1) a.a) (count_args line)

-- `result KIND PAYLOAD`, of a kind below 6
unfoldable pub result_args : List ℕ → Option Args
result_args line = args_of line 1 3 (record { a = 5; b = 18446744073709551615; c = 0; d = 0; e = 0 })

unfoldable pub result_asked : Vm → List ℕ → Option Vm
result_asked m line = option_map (λ a. last_with m (Some (value_of a.a a.b))) (result_args line)

-- number i of a store is n, where there is such a number
unfoldable pub put_at : List ℕ → ℕ → ℕ → List ℕ
put_at s i n = if ltb i (length s) then set s i n else s

-- a store of words that was poked, where it was understood, and the others as they were; and likewise below
pub record PokedWords : Type 0 where
  pub good : Bool
  pub constants : List ℕ
  pub structs : List ℕ
  pub functions : List ℕ
  pub stack : List ℕ
  pub cells : List ℕ

-- number i of the store of words of that name is n
unfoldable pub poked_words : List ℕ → ℕ → ℕ → List ℕ → List ℕ → List ℕ → List ℕ → List ℕ → PokedWords
poked_words name i n constants structs functions stack cells =
    if same_bytes name (ascii "constants") then record {
      good = ltb i (length constants);
      constants = put_at constants i n;
      structs = structs;
      functions = functions;
      stack = stack;
      cells = cells;
    } else (
    if same_bytes name (ascii "structs") then record { good = ltb i (length structs); constants = constants; structs = put_at structs i n; functions = functions; stack = stack; cells = cells } else (
    if same_bytes name (ascii "functions") then record {
      good = ltb i (length functions);
      constants = constants;
      structs = structs;
      functions = put_at functions i n;
      stack = stack;
      cells = cells;
    } else (
    if same_bytes name (ascii "stack") then record { good = ltb i (length stack); constants = constants; structs = structs; functions = functions; stack = put_at stack i n; cells = cells } else (
    if same_bytes name (ascii "cells") then record { good = ltb i (length cells); constants = constants; structs = structs; functions = functions; stack = stack; cells = put_at cells i n } else (
    record { good = false; constants = constants; structs = structs; functions = functions; stack = stack; cells = cells })))))

pub record PokedBytes : Type 0 where
  pub good : Bool
  pub text : List ℕ
  pub main : List ℕ
  pub other : List ℕ

-- number i of the store of bytes of that name is n
unfoldable pub poked_bytes : List ℕ → ℕ → ℕ → List ℕ → List ℕ → List ℕ → PokedBytes
poked_bytes name i n text main other =
    if same_bytes name (ascii "text") then record { good = ltb i (length text) && ltb n 256; text = put_at text i (n % 256); main = main; other = other } else (
    if same_bytes name (ascii "main") then record { good = ltb i (length main) && ltb n 256; text = text; main = put_at main i (n % 256); other = other } else (
    if same_bytes name (ascii "other") then record { good = ltb i (length other) && ltb n 256; text = text; main = main; other = put_at other i (n % 256) } else (
    record { good = false; text = text; main = main; other = other })))

pub record PokedPlaces : Type 0 where
  pub good : Bool
  pub main_places : List ℕ
  pub other_places : List ℕ

-- number i of the store of places of that name is n
unfoldable pub poked_places : List ℕ → ℕ → ℕ → List ℕ → List ℕ → PokedPlaces
poked_places name i n main_places other_places =
    if same_bytes name (ascii "main_places") then record { good = ltb i (length main_places) && ltb n 4294967296; main_places = put_at main_places i (n % 4294967296); other_places = other_places } else (
    if same_bytes name (ascii "other_places") then record { good = ltb i (length other_places) && ltb n 4294967296; main_places = main_places; other_places = put_at other_places i (n % 4294967296) } else (
    record { good = false; main_places = main_places; other_places = other_places }))

-- `poke STORE I N`
unfoldable pub poke_args : List ℕ → Option Args
poke_args line = args_of line 2 4 (record { a = 4294967295; b = 18446744073709551615; c = 0; d = 0; e = 0 })

unfoldable pub words_asked : List ℕ → List ℕ → List ℕ → List ℕ → List ℕ → List ℕ → PokedWords
words_asked line constants structs functions stack cells =
    unwrap_or (option_map (λ a. poked_words (word_of line 1) a.a a.b constants structs functions stack cells) (poke_args line))
    (record { good = false; constants = constants; structs = structs; functions = functions; stack = stack; cells = cells })

unfoldable pub bytes_asked : List ℕ → List ℕ → List ℕ → List ℕ → PokedBytes
bytes_asked line text main other =
    unwrap_or (option_map (λ a. poked_bytes (word_of line 1) a.a a.b text main other) (poke_args line)) (record { good = false; text = text; main = main; other = other })

unfoldable pub places_asked : List ℕ → List ℕ → List ℕ → PokedPlaces
places_asked line main_places other_places =
    unwrap_or (option_map (λ a. poked_places (word_of line 1) a.a a.b main_places other_places) (poke_args line))
    (record { good = false; main_places = main_places; other_places = other_places })

-- the frame that rests at i, in four numbers; one of zeros where there is none
unfoldable pub frame_in : List ℕ → ℕ → Frame
frame_in s i =
    if ltb i (length s / 4)
    then record { function = get_or s (4 * i) 0; position = get_or s (4 * i + 1) 0; base = get_or s (4 * i + 2) 0; entered = get_or s (4 * i + 3) 0 }
    else record { function = 0; position = 0; base = 0; entered = 0 }

-- frame i put there, where there is room for one
unfoldable pub frame_at : List ℕ → ℕ → Frame → List ℕ
frame_at s i f =
    if ltb i (length s / 4)
    then put_at (put_at (put_at (put_at s (4 * i) f.function) (4 * i + 1) f.position) (4 * i + 2) f.base) (4 * i + 3) f.entered
    else s

-- `frame I` shows a frame, `frame I FUNCTION POSITION BASE ENTERED` puts one
unfoldable pub frame_args : List ℕ → ℕ → Option Args
frame_args line end = args_of line 1 end (record { a = 281474976710655; b = 281474976710655; c = 281474976710655; d = 281474976710655; e = 281474976710655 })

unfoldable pub frame_asked : List ℕ → List ℕ → List ℕ
frame_asked line s =
    if is_some (frame_args line 2) then s else
    unwrap_or (option_map (λ a. frame_at s a.a (record { function = a.b; position = a.c; base = a.d; entered = a.e })) (frame_args line 6)) s
