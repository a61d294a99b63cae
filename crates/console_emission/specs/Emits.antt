-- What a line that emits answers, and the stores then: those of the entry that it names, at the numbers that it says, with a run under way or not.
use Rattle.std.specs.Prelude.{Bool, ◌||◌, List, [], ℕ, ◌%◌, ltb, eqb, length, if◌then◌else◌, Option, Some, None, option_map, Result}
use Rattle.model.specs.declared.Counts.{Counts}
use Rattle.model.specs.declared.Refusal.{Refusal}
use Rattle.model.specs.declared.Constant.TheVariants as k
use Rattle.model.specs.Basics.{ascii}
use Rattle.model.specs.Equality.{same_bytes}
use Rattle.model.specs.Stores.{Stores}
use Rattle.model.specs.Emission.{Res, add_op_of, add_op1_of, add_op2_of, add_op3_of, patch_of, add_constant_of, add_struct_of, begin_function_of, end_function_of}
use Rattle.console_script.specs.declared.Args.{Args}
use Rattle.console_emission.specs.declared.Kind.{Kind}
use Rattle.console_emission.specs.declared.Kind.TheVariants as d
use Rattle.console_script.specs.Words.{blank, words_from, word_of, cut_of, number_of, args_of, hex_of}

-- what the entry answers that a line names, none where the line is not known, and the stores
pub record Emitted : Type 0 where
  pub answer : Option (Result (Counts × ℕ) Refusal)
  pub stores : Stores

abbrev pub known : Res → Emitted
known w = record { answer = Some w.answer; stores = w.stores }

abbrev pub not_known : Stores → Emitted
not_known s = record { answer = None; stores = s }

-- an entry at what the line says, where it says it
abbrev pub entry_at : {A : Type 0} → Option A → (A → Res) → Stores → Emitted
entry_at None f s = not_known s
entry_at (Some a) f s = known (f a)

-- an opcode, its operands and the place of its bytes
unfoldable pub op_args : List ℕ → ℕ → Option Args
op_args line end = args_of line 1 end (record { a = 255; b = 4294967295; c = 4294967295; d = 4294967295; e = 4294967295 })

unfoldable pub with_op : (running : Bool) → Counts → Option Args → Stores → Emitted
with_op running c None s = not_known s
with_op running c (Some n) s = known (add_op_of running c (n.a % 256) (n.b % 4294967296) s)

unfoldable pub with_op1 : (running : Bool) → Counts → Option Args → Stores → Emitted
with_op1 running c None s = not_known s
with_op1 running c (Some n) s = if ltb 65535 n.b then not_known s else known (add_op1_of running c (n.a % 256) (n.b % 65536) (n.c % 4294967296) s)

unfoldable pub with_op2 : (running : Bool) → Counts → Option Args → Stores → Emitted
with_op2 running c None s = not_known s
with_op2 running c (Some n) s =
    if ltb 65535 n.b || ltb 65535 n.c then not_known s else known (add_op2_of running c (n.a % 256) (n.b % 65536) (n.c % 65536) (n.d % 4294967296) s)

unfoldable pub with_op3 : (running : Bool) → Counts → Option Args → Stores → Emitted
with_op3 running c None s = not_known s
with_op3 running c (Some n) s =
    if (ltb 65535 n.b || ltb 65535 n.c) || ltb 65535 n.d then not_known s else
    known (add_op3_of running c (n.a % 256) (n.b % 65536) (n.c % 65536) (n.d % 65536) (n.e % 4294967296) s)

unfoldable pub code_asked : (running : Bool) → Counts → List ℕ → Stores → Emitted
code_asked running c line s =
    if same_bytes (word_of line 0) (ascii "op") then with_op running c (op_args line 3) s else (
    if same_bytes (word_of line 0) (ascii "op1") then with_op1 running c (op_args line 4) s else (
    if same_bytes (word_of line 0) (ascii "op2") then with_op2 running c (op_args line 5) s else
    with_op3 running c (op_args line 6) s))

-- `patch AT VALUE`
unfoldable pub patch_args : List ℕ → Option Args
patch_args line = args_of line 1 3 (record { a = 65535; b = 65535; c = 0; d = 0; e = 0 })

unfoldable pub patch_asked : (running : Bool) → Counts → List ℕ → Stores → Emitted
patch_asked running c line s = entry_at (patch_args line) (λ n. patch_of running c (n.a % 65536) (n.b % 65536) s) s

-- `scalar HEX16`, `boolean 0` or `1`, `string HEX`, `reference HEX`
unfoldable pub boolean_args : List ℕ → Option Args
boolean_args line = args_of line 1 2 (record { a = 1; b = 0; c = 0; d = 0; e = 0 })

-- the bytes that the words behind the command say
unfoldable pub said_bytes : List ℕ → Option (List ℕ)
said_bytes line = option_map (cut_of (hex_of (words_from line 1) blank).out 0) (hex_of (words_from line 1) blank).size

unfoldable pub constant_asked : (running : Bool) → Counts → List ℕ → Stores → Emitted
constant_asked running c line s =
    if same_bytes (word_of line 0) (ascii "scalar") then entry_at (number_of 16 (words_from line 1)) (λ n. add_constant_of running c (k.Scalar n) [] s) s else (
    if same_bytes (word_of line 0) (ascii "boolean") then entry_at (boolean_args line) (λ n. add_constant_of running c (k.Boolean (eqb n.a 1)) [] s) s else
    entry_at (said_bytes line)
    (λ b. if same_bytes (word_of line 0) (ascii "string") then add_constant_of running c k.String b s else add_constant_of running c k.FunctionReference b s) s)

-- `struct HEX`, `begin HEX`, `end`
unfoldable pub name_given : (running : Bool) → Counts → List ℕ → List ℕ → Stores → Emitted
name_given running c what name s =
    if same_bytes what (ascii "struct") then known (add_struct_of running c name s) else (
    if same_bytes what (ascii "begin") then known (begin_function_of running c name s) else (
    if eqb (length name) 0 then known (record { answer = end_function_of running c; stores = s }) else
    not_known s))

unfoldable pub name_read : (running : Bool) → Counts → List ℕ → Option (List ℕ) → Stores → Emitted
name_read running c what None s = not_known s
name_read running c what (Some name) s = name_given running c what name s

unfoldable pub name_asked : (running : Bool) → Counts → List ℕ → Stores → Emitted
name_asked running c line s = name_read running c (word_of line 0) (said_bytes line) s

-- by the kind of the command
unfoldable pub emit_asked : Kind → (running : Bool) → Counts → List ℕ → Stores → Emitted
emit_asked d.Code running c line s = code_asked running c line s
emit_asked d.Patch running c line s = patch_asked running c line s
emit_asked d.Constant running c line s = constant_asked running c line s
emit_asked d.Name running c line s = name_asked running c line s
