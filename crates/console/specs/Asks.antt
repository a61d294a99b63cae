-- What a line asks.
use Rattle.std.specs.Prelude.{Bool, true, ◌||◌, List, ◌++◌, ℕ, min, eqb, length, get_or, take, drop, if◌then◌else◌, Err, Ok, Result, Option, Some, None, option_map, option_and_then}
use Rattle.model.specs.declared.Vm.{Vm}
use Rattle.model.specs.Basics.{ascii}
use Rattle.model.specs.Equality.{same_bytes}
use Rattle.model.specs.Loading.{OutRes}
use Rattle.model.specs.Readers.{block_header_of, element_of, text_bytes_of}
use Rattle.console_frames.specs.declared.Call.{Call}
use Rattle.console_frames.specs.declared.Call.TheVariants as c
use Rattle.console.specs.declared.commands.Lent.{Lent}
use Rattle.console.specs.declared.commands.Group.{Group}
use Rattle.console.specs.declared.commands.Group.TheVariants as g
use Rattle.console_emission.specs.declared.Kind.TheVariants as k
use Rattle.console_script.specs.Words.{words_from, word_of, number_of, args_of, room_of, hex_of}
use Rattle.model.specs.declared.Header.{Header}
use Rattle.model.specs.declared.Refusal.{Refusal}
use Rattle.model.specs.declared.Value.{Value}

-- ---- calls over frames

-- copy and backtrace store whole
unfoldable pub lent_whole : ℕ → Lent
lent_whole n = record { image = n; copy = 4294967295; trace = 4294967295 }

unfoldable pub ask_new : List ℕ → Option (Call × Lent)
ask_new line = if eqb (length (words_from line 1)) 0 then Some (c.New, lent_whole 0) else None

-- one number, 1 where the machine is to be strict, else 0
unfoldable pub ask_strict : List ℕ → Option (Call × Lent)
ask_strict line = option_map (λ a. (c.Strict (eqb a.a 1), lent_whole 0)) (args_of line 1 2 (record { a = 1; b = 0; c = 0; d = 0; e = 0 }))

unfoldable pub ask_start : List ℕ → Option (Call × Lent)
ask_start line = option_map (λ n. (c.Begin, record { image = 0; copy = n; trace = 4294967295 })) (room_of line 1)

-- word k says the room of the backtrace store
unfoldable pub ask_traced : Call → List ℕ → ℕ → Option (Call × Lent)
ask_traced call line k = option_map (λ n. (call, record { image = 0; copy = 4294967295; trace = n })) (room_of line k)

unfoldable pub ask_continue : List ℕ → Option (Call × Lent)
ask_continue line = option_and_then (λ n. ask_traced (c.Continue n) line 2) (number_of 10 (word_of line 1))

-- the call over frames that is asked, and the space, which holds the bytes of an image
pub record Heard : Type 0 where
  pub asked : Option (Call × Lent)
  pub space : List ℕ

unfoldable pub ask_load : List ℕ → List ℕ → Heard
ask_load line space = record {
  asked = option_map (λ n. (c.Load, lent_whole n)) (hex_of (words_from line 1) space).size;
  space = (hex_of (words_from line 1) space).out;
}

unfoldable pub ask_of : List ℕ → List ℕ → Heard
ask_of line space =
    if same_bytes (word_of line 0) (ascii "new") then record { asked = ask_new line; space = space } else (
    if same_bytes (word_of line 0) (ascii "trace") then record { asked = ask_traced c.Trace line 1; space = space } else (
    if same_bytes (word_of line 0) (ascii "start") then record { asked = ask_start line; space = space } else (
    if same_bytes (word_of line 0) (ascii "continue") then record { asked = ask_continue line; space = space } else (
    if same_bytes (word_of line 0) (ascii "abandon") then record { asked = ask_traced c.Abandon line 1; space = space } else (
    if same_bytes (word_of line 0) (ascii "image") then ask_load line space else (
    if same_bytes (word_of line 0) (ascii "strict") then record { asked = ask_strict line; space = space } else
    record { asked = None; space = space }))))))

-- ---- the commands that need no frames, in groups

unfoldable pub is_code : List ℕ → Bool
is_code what = ((same_bytes what (ascii "op") || same_bytes what (ascii "op1")) || same_bytes what (ascii "op2")) || same_bytes what (ascii "op3")

unfoldable pub is_constant : List ℕ → Bool
is_constant what = ((same_bytes what (ascii "scalar") || same_bytes what (ascii "boolean")) || same_bytes what (ascii "string")) || same_bytes what (ascii "reference")

unfoldable pub is_name : List ℕ → Bool
is_name what = (same_bytes what (ascii "struct") || same_bytes what (ascii "begin")) || same_bytes what (ascii "end")

unfoldable pub is_look : List ℕ → Bool
is_look what = ((same_bytes what (ascii "offset") || same_bytes what (ascii "find")) || same_bytes what (ascii "save")) || same_bytes what (ascii "list")

unfoldable pub is_read : List ℕ → Bool
is_read what = (((same_bytes what (ascii "last") || same_bytes what (ascii "stack")) || same_bytes what (ascii "header")) || same_bytes what (ascii "element")) || same_bytes what (ascii "text")

-- a blank line, or a comment
unfoldable pub is_said : List ℕ → Bool
is_said what = if eqb (length what) 0 then true else eqb (get_or what 0 0) 35

unfoldable pub group_of : List ℕ → Group
group_of what =
    if is_said what then g.Said else (
    if is_code what then g.Emit k.Code else (
    if is_constant what then g.Emit k.Constant else (
    if is_name what then g.Emit k.Name else (
    if is_look what then g.Look else (
    if is_read what then g.Read else (
    if same_bytes what (ascii "patch") then g.Emit k.Patch else (
    if same_bytes what (ascii "count") then g.Count else (
    if same_bytes what (ascii "result") then g.Result else (
    if same_bytes what (ascii "poke") then g.Poke else (
    if same_bytes what (ascii "frame") then g.Frame else (
    if same_bytes what (ascii "sum") then g.Sum else
    g.Unknown)))))))))))

-- ---- readers of a value that was shown; its refusal where it was not

unfoldable pub header_after : Vm → Result Value Refusal → List ℕ → Result Header Refusal
header_after m (Ok x) cells = block_header_of m x cells
header_after m (Err n) cells = Err n

unfoldable pub element_after : Vm → Result Value Refusal → ℕ → List ℕ → Result Value Refusal
element_after m (Ok x) j cells = element_of m x j cells
element_after m (Err n) j cells = Err n

-- into so much of a store as there is room for
unfoldable pub text_after : Vm → Result Value Refusal → ℕ → List ℕ → List ℕ → OutRes
text_after m (Ok x) room text out = record {
  answer = (text_bytes_of m x text (take (min room (length out)) out)).answer;
  out = (text_bytes_of m x text (take (min room (length out)) out)).out ++ drop (min room (length out)) out;
}
text_after m (Err n) room text out = record { answer = Err n; out = out }
