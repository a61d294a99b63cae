-- [listing] The `.CODE` part of disassemble, as bytes.
use Rattle.std.specs.Prelude.{Bool, true, false, List, [], ◌∷◌, ◌++◌, ℕ, zero, suc, ◌+◌, ◌-◌, ◌/◌, ◌%◌, ltb, leb, length, replicate, if◌then◌else◌}
use Rattle.model.specs.declared.Decoded.{Decoded}
use Rattle.model.specs.declared.Decoded.TheVariants as d
use Rattle.model.specs.Basics.{ascii}
use Rattle.model.specs.Opcodes.{operands}
use Rattle.model.specs.Programs.{Function, Program, word_at, opcode_in, next_in}
use Rattle.model.specs.declared.Refusal.{Refusal}
use Rattle.model.specs.declared.Refusal.TheVariants as why

-- n in decimal, f + 1 digits at most
unfoldable pub decimal_for : ℕ → ℕ → List ℕ
decimal_for zero n = (48 + n) ∷ []
decimal_for (suc f) n = if ltb n 10 then (48 + n) ∷ [] else decimal_for f (n / 10) ++ ((48 + n % 10) ∷ [])

-- a number below 2 ^ 64 has at most 20 digits
unfoldable pub decimal : ℕ → List ℕ
decimal n = decimal_for 19 n

-- with zeros in front, w digits or more
unfoldable pub digits_or_more : ℕ → ℕ → List ℕ
digits_or_more w n = replicate (w - length (decimal n)) 48 ++ decimal n

-- padded with spaces to w
unfoldable pub padded_to : ℕ → List ℕ → List ℕ
padded_to w t = t ++ replicate (w - length t) 32

-- the n operands from position i on, with a space between
unfoldable pub operands_from : ℕ → List ℕ → ℕ → List ℕ
operands_from zero code i = []
operands_from (suc zero) code i = decimal (word_at code i)
operands_from (suc (suc n)) code i = decimal (word_at code i) ++ (32 ∷ operands_from (suc n) code (i + 2))

-- two spaces, the offset in four digits or more, a space, the name padded to 13, a space, the operands
unfoldable pub line_of : List ℕ → ℕ → List ℕ
line_of code i =
    ascii "  " ++ digits_or_more 4 i ++ (32 ∷ padded_to 13 (opcode_in code i).name) ++ (32 ∷ operands_from (operands (opcode_in code i)) code (suc i)) ++ ascii "\n"

unfoldable pub header_line : ℕ → List ℕ → List ℕ
header_line i name = ascii ".CODE " ++ decimal i ++ ascii " (" ++ name ++ ascii ")\n"

-- the text; or a refusal, and the text of what stands before it
pub data Listed : Type 0 where
  text : List ℕ → Listed
  unlisted : List ℕ → Refusal → Listed

unfoldable pub in_front : List ℕ → Listed → Listed
in_front l (text r) = text (l ++ r)
in_front l (unlisted r e) = unlisted (l ++ r) e

-- the line of an instruction that is all there, and the lines behind it; 3 where the code ends inside
unfoldable pub known_then : (behind : ℕ → Listed) → (line : ℕ → List ℕ) → List ℕ → ℕ → Listed
known_then k line code i = if leb (next_in code i) (length code) then in_front (line i) (k (next_in code i)) else unlisted [] why.CodeEnds

unfoldable pub opcode_then : (behind : ℕ → Listed) → (line : ℕ → List ℕ) → List ℕ → ℕ → Decoded → Listed
opcode_then k line code i (d.Carried p) = known_then k line code i
opcode_then k line code i d.NotCarried = known_then k line code i
opcode_then k line code i d.Unknown = unlisted [] why.UnknownOpcode

unfoldable pub line_then : (behind : ℕ → Listed) → (line : ℕ → List ℕ) → List ℕ → ℕ → Bool → Listed
line_then k line code i true = opcode_then k line code i (opcode_in code i).what
line_then k line code i false = text []

-- the lines from position i on, n instructions at most: 1 or 3 as met first
unfoldable pub lines_for : (line : ℕ → List ℕ) → ℕ → List ℕ → ℕ → Listed
lines_for line zero code i = text []
lines_for line (suc n) code i = line_then (lines_for line n code) line code i (ltb i (length code))

-- the lines of a function's code
abbrev pub code_lines : List ℕ → Listed
code_lines code = lines_for (line_of code) (length code) code 0

unfoldable pub and_listed : Listed → Listed → Listed
and_listed (text l) r = in_front l r
and_listed (unlisted l e) r = unlisted l e

-- function i and those after it
unfoldable pub listing_from : ℕ → List Function → Listed
listing_from i [] = text []
listing_from i (f ∷ fs) = in_front (header_line i f.name) (and_listed (code_lines f.code) (listing_from (suc i) fs))

unfoldable pub listing_of : Program → Listed
listing_of p = listing_from 0 p.functions

-- all that an example computes with here
unfoldable pub computes : Type 1
unfolding decimal_for decimal digits_or_more padded_to operands_from line_of header_line in_front known_then opcode_then line_then lines_for and_listed
    listing_from listing_of
computes = Type 0
