-- [checker] What is said of bytes that are no image: which item breaks a rule, and what is asked of it. And of the function that breaks a rule: its name as
-- a note shows it, and the first instruction that breaks it: its offset, its byte, and behind rule 1 its operand. Rules 4 and 6 are not broken by an instruction alone: of rule 4 two Calls are told, of rule 6 what the heights came upon.
use Rattle.std.specs.Prelude.{List, [], ◌++◌, ℕ, eqb, ltb, length, get_or, if◌then◌else◌, Err, None, Ok, Option, Result, Some}
use Rattle.model.specs.Basics.{ascii}
use Rattle.model.specs.Opcodes.{popped}
use Rattle.model.specs.Programs.{Program, opcode_in}
use Rattle.model.specs.Listings.{decimal}
use Rattle.model.specs.Stores.{Stores, program_in}
use Rattle.model.specs.Loading.{load_of}
use Rattle.model.specs.Reports.{empty_stores}
use Rattle.check_rules.specs.declared.Rule.{Rule}
use Rattle.check_rules.specs.Rules.{get_local, is_at, first_at, second_at, code_of, rule_number}
use Rattle.check_heights.specs.declared.Flaw.{Flaw}
use Rattle.check_heights.specs.declared.Flaw.TheVariants as x
use Rattle.check_places.specs.declared.CallSite.{CallSite}
use Rattle.check_places.specs.Places.{place_of}
use Rattle.check_places.specs.Calls.{first_of, other_of}
use Rattle.image_items.specs.declared.Row.{Row}
use Rattle.image_items.specs.declared.Row.TheVariants as w
use Rattle.image_items.specs.declared.Part.{Part}
use Rattle.image_items.specs.declared.Part.TheVariants as i
use Rattle.image_items.specs.Parts.{part_at}
use Rattle.notes.specs.Notes.{known_of, name_at}
use Rattle.model.specs.declared.Counts.{Counts}
use Rattle.model.specs.declared.Refusal.{Refusal}
use Rattle.check_rules.specs.declared.Rejected.{Rejected}
use Rattle.model.specs.declared.Refusal.TheVariants as why
use Rattle.check_rules.specs.declared.Rejected.TheVariants as no

-- ---- of an image

unfoldable pub row_words : Row → List ℕ
row_words w.Constants = ascii ": the number of constants"
row_words w.Structs = ascii ": the number of struct names"
row_words w.Functions = ascii ": the number of functions, one at least"

-- an item, and what is asked of it
unfoldable pub part_words : Part → List ℕ
part_words (i.Count r) = row_words r
part_words (i.Kind k) = ascii ": the kind, 0 to 3, of constant " ++ decimal k
part_words (i.Value k) = ascii ": the value, whole, a boolean 0 or 1, of constant " ++ decimal k
part_words (i.Struct k) = ascii ": the name, a text that none before it is, of struct " ++ decimal k
part_words (i.Name k) = ascii ": the name, a text, <main> for function 0, of function " ++ decimal k
part_words (i.Length k) = ascii ": the code's length, of function " ++ decimal k
part_words (i.Code k) = ascii ": the code, as long as told, of function " ++ decimal k
part_words (i.Places k) = ascii ": the places, in runs for each byte of code, of function " ++ decimal k
part_words i.Behind = ascii ": bytes behind the last function"
part_words i.Nowhere = []

-- of bytes that are refused as no image
unfoldable pub item_words : (image : List ℕ) → Refusal → List ℕ
item_words image (why.BrokenImage o) = part_words (part_at image o)
item_words image e = []

-- ---- of a function

-- an instruction that breaks rule 1 may be cut, so that it has no operand
unfoldable pub operand_words : Rule → List ℕ → (i : ℕ) → List ℕ
operand_words q code i = if eqb (rule_number q) 1 then [] else (ascii ", operand " ++ decimal (first_at code i))

unfoldable pub found_words : Rule → List ℕ → (i : ℕ) → List ℕ
found_words q code i =
    if ltb i (length code)
    then (ascii " at " ++ decimal i ++ ascii ", byte " ++ decimal (get_or code i 0) ++ operand_words q code i)
    else []

-- a Call: how many arguments it passes, the function that it stands in, and where it stands there
unfoldable pub called_words : Option CallSite → List ℕ
called_words (Some c) = ascii ", with " ++ decimal c.count ++ ascii " by function " ++ decimal c.function ++ ascii " at " ++ decimal c.position
called_words None = []

-- rule 4 is broken by two Calls: the first of all, and the first that passes another count
unfoldable pub counts_words : Program → Rule → (f : ℕ) → List ℕ
counts_words p q f = if eqb (rule_number q) 4 then (called_words (first_of p f) ++ called_words (other_of p f)) else []

-- what the instruction at i asks of a height: to be above the slot that GetLocal reads, or as much as the instruction pops
unfoldable pub want_words : List ℕ → (i : ℕ) → List ℕ
want_words code i =
    if is_at get_local code i
    then (ascii ", slot " ++ decimal (first_at code i))
    else (ascii ", pops " ++ decimal (popped (opcode_in code i) (first_at code i) (second_at code i)))

unfoldable pub lacks_words : List ℕ → (i height : ℕ) → List ℕ
lacks_words code i h = if ltb i (length code) then (ascii " at " ++ decimal i ++ ascii ", height " ++ decimal h ++ want_words code i) else []

-- `x` is what the heights of this code came upon
unfoldable pub flaw_words : Option Flaw → (code : List ℕ) → List ℕ
flaw_words None code = []
flaw_words (Some (x.Lacks i h)) code = lacks_words code i h
flaw_words (Some (x.Differs i h k)) code = ascii " at " ++ decimal i ++ ascii ", heights " ++ decimal h ++ ascii " and " ++ decimal k
flaw_words (Some (x.Ends h)) code = ascii " at " ++ decimal (length code) ++ ascii ", the end, height " ++ decimal h

unfoldable pub function_words : Program → Rule → (f : ℕ) → (x : Option Flaw) → List ℕ
function_words p q f x =
    if ltb f (length p.functions)
    then (ascii " (" ++ name_at (known_of p).functions f [] ++ ascii ")" ++ found_words q (code_of p f) (place_of p q f) ++ flaw_words x (code_of p f) ++ counts_words p q f)
    else []

-- of what the image is loaded as: it was judged, so that it can be
unfoldable pub loaded_words : Result Counts Refusal → Stores → Rule → (f : ℕ) → (x : Option Flaw) → List ℕ
loaded_words (Ok k) s q f x = function_words (program_in k s) q f x
loaded_words (Err e) s q f x = []

unfoldable pub details : (image : List ℕ) → Result Counts Rejected → (x : Option Flaw) → List ℕ
details image (Ok k) x = []
details image (Err (no.Refused e)) x = item_words image e
details image (Err (no.Breaks q f)) x = loaded_words (load_of image empty_stores).answer (load_of image empty_stores).stores q f x
