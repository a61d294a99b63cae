-- [notes] The listing with notes: behind the operands of an instruction what they name, and its place.
use Rattle.std.specs.Prelude.{◌&&◌, List, [], ◌∷◌, ◌++◌, map, ℕ, suc, ◌+◌, leb, ltb, length, get_or, take, if◌then◌else◌, Err, Ok, Result}
use Rattle.model.specs.declared.Counts.{Counts}
use Rattle.model.specs.declared.Names.{Names}
use Rattle.model.specs.declared.Names.TheVariants as n
use Rattle.model.specs.Basics.{ascii}
use Rattle.model.specs.Answers.{refusal_number}
use Rattle.model.specs.Programs.{Constant, scalar, boolean, string, reference, Function, Program, word_at, opcode_in, next_in}
use Rattle.model.specs.Listings.{decimal, digits_or_more, line_of, header_line, Listed, text, in_front, lines_for, and_listed}
use Rattle.model.specs.Stores.{Stores, program_in}
use Rattle.model.specs.Orders.{program_ok}
use Rattle.model.specs.Loading.{OutRes, put_listing, load_of}
use Rattle.model.specs.Reports.{hex_for, boolean_text, refused_line, empty_stores, listed_text}
use Rattle.model.specs.declared.Refusal.{Refusal}
use Rattle.model.specs.declared.Refusal.TheVariants as why

-- ---- texts and names

-- a byte from 32 to 126 as it is, any other as `.`
unfoldable pub shown_byte : ℕ → ℕ
shown_byte b = if leb 32 b && ltb b 127 then b else 46

-- the first 24 bytes, and `..` where there are more
unfoldable pub shown_text : List ℕ → List ℕ
shown_text t = map shown_byte (take 24 t) ++ (if leb (length t) 24 then [] else ascii "..")

-- ---- what an operand names

-- the constants, the structs' names and the functions' names of a program
pub record Known : Type 0 where
  pub constants : List Constant
  pub structs : List (List ℕ)
  pub functions : List (List ℕ)

unfoldable pub known_of : Program → Known
known_of p = record { constants = p.constants; structs = p.structs; functions = map (λ f. f.name) p.functions }

-- a scalar's 64 bits as the image has them
unfoldable pub constant_text : Constant → List ℕ
constant_text (scalar w) = ascii "scalar " ++ hex_for 16 w
constant_text (boolean b) = boolean_text b
constant_text (string t) = ascii "string " ++ shown_text t
constant_text (reference t) = ascii "function " ++ shown_text t

-- constant k; or that there is none
unfoldable pub constant_at : List Constant → ℕ → List ℕ
constant_at cs k = get_or (map constant_text cs) k (ascii "no constant")

-- name k; or what is said where there is none
unfoldable pub name_at : List (List ℕ) → ℕ → List ℕ → List ℕ
name_at names k none = get_or (map shown_text names) k none

-- ---- notes

unfoldable pub note : List ℕ → List ℕ
note t = ascii "  ; " ++ t

-- the note of an operand k of an instruction that ends at position next: a jump goes k further than that
unfoldable pub operand_note : Known → ℕ → Names → ℕ → List ℕ
operand_note known next n.Constant k = note (constant_at known.constants k)
operand_note known next n.Function k = note (name_at known.functions k (ascii "no function"))
operand_note known next n.Struct k = note (name_at known.structs k (ascii "no struct"))
operand_note known next n.Offset k = note (ascii "to " ++ digits_or_more 4 (next + k))
operand_note known next n.Slot k = []
operand_note known next n.Field k = []
operand_note known next n.Count k = []
operand_note known next n.Nothing k = []

-- the notes of the operands from position i on, of which each names what the list says
unfoldable pub operand_notes : Known → ℕ → List Names → List ℕ → ℕ → List ℕ
operand_notes known next [] code i = []
operand_notes known next (what ∷ others) code i = operand_note known next what (word_at code i) ++ operand_notes known next others code (i + 2)

-- the place of the byte at i
unfoldable pub place_note : List ℕ → ℕ → List ℕ
place_note places i = note (ascii "place " ++ decimal (get_or places i 0))

-- ---- the line

-- all but the last
unfoldable pub but_last : List ℕ → List ℕ
but_last [] = []
but_last (x ∷ []) = []
but_last (x ∷ (y ∷ l)) = x ∷ but_last (y ∷ l)

-- the listing's line without its newline, the operands' notes, the place of the opcode, the newline
unfoldable pub noted_line : Known → List ℕ → List ℕ → ℕ → List ℕ
noted_line known code places i =
    but_last (line_of code i) ++ operand_notes known (next_in code i) (opcode_in code i).names code (suc i) ++ place_note places i ++ ascii "\n"

-- ---- the listing

-- the lines of a code; 1 and 3 are refused as in the listing
abbrev pub noted_code : Known → List ℕ → List ℕ → Listed
noted_code known code places = lines_for (noted_line known code places) (length code) code 0

-- function i and those after it, under the headers of the listing
unfoldable pub noted_from : Known → ℕ → List Function → Listed
noted_from known i [] = text []
noted_from known i (f ∷ fs) = in_front (header_line i f.name) (and_listed (noted_code known f.code f.places) (noted_from known (suc i) fs))

unfoldable pub noted_listing : Program → Listed
noted_listing p = noted_from (known_of p) 0 p.functions

-- into a lent store: 19, since the notes read the whole program; the listing's 1 or 3, then 17; a refusal writes nothing
unfoldable pub notes_of : Counts → Stores → List ℕ → OutRes
notes_of c s out = if program_ok c s then put_listing (noted_listing (program_in c s)) out else record { answer = Err why.NotInOrder; out = out }

-- ---- [noter] as the lister: each function's lines in order, or `refused N` alone

unfoldable pub loaded_notes : Result Counts Refusal → Stores → List ℕ
loaded_notes (Ok c) s = listed_text (noted_listing (program_in c s))
loaded_notes (Err e) s = refused_line (refusal_number e)

unfoldable pub noter_text : List ℕ → List ℕ
noter_text image = if ltb 16384 (length image) then refused_line 22 else loaded_notes (load_of image empty_stores).answer (load_of image empty_stores).stores

-- all that an example computes with here
unfoldable pub computes : Type 1
unfolding shown_byte shown_text known_of constant_text constant_at name_at note operand_note operand_notes place_note but_last noted_line
    noted_from noted_listing notes_of loaded_notes noter_text
computes = Type 0
