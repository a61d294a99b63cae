-- A line's words, and the numbers that words say.
use Rattle.std.specs.Prelude.{Bool, true, false, not, ◌||◌, List, [], ◌∷◌, ℕ, zero, suc, ◌+◌, ◌*◌, ◌-◌, ◌%◌, ◌^◌, ltb, leb, eqb, length, take, drop, set, replicate, if◌then◌else◌, Option, Some, None, option_and_then, is_some}
use Rattle.console_script.specs.declared.Line.{Line}
use Rattle.console_script.specs.declared.Args.{Args}
use Rattle.console_script.specs.declared.Most.{Most}
use Rattle.console_script.specs.declared.Bytes.{Bytes}

-- a function applied along a list, from its first number to its last
unfoldable pub along : {A : Type 0} → (A → ℕ → A) → A → List ℕ → A
along f a [] = a
along f a (x ∷ s) = along f (f a x) s

-- ---- places

-- how many numbers stand before the first that the test takes
unfoldable pub before : (ℕ → Bool) → List ℕ → ℕ
before t [] = zero
before t (x ∷ s) = if t x then zero else suc (before t s)

-- where b is next from a place on, or the end
unfoldable pub next_of : List ℕ → ℕ → ℕ → ℕ
next_of s b at = at + before (λ x. eqb x b) (drop at s)

-- where a byte that is not a blank is next, or the end
unfoldable pub next_word : List ℕ → ℕ → ℕ
next_word s at = at + before (λ x. not (eqb x 32)) (drop at s)

-- the bytes from one place to another; none where they are not all there
unfoldable pub cut_of : List ℕ → ℕ → ℕ → List ℕ
cut_of s from to = if ltb to from then [] else (if ltb (length s) to then [] else take (to - from) (drop from s))

-- the first line of a script
unfoldable pub first_line : List ℕ → Line
first_line s = record { start = 0; end = next_of s 10 0; number = 1; left = length s }

-- the line behind l; none where there is no byte behind its end, or none is left
unfoldable pub next_line : List ℕ → Line → Option Line
next_line s l =
    if eqb l.left 0 then None else (
    if leb (length s) l.end then None else (
    if leb (length s) (l.end + 1) then None else
    Some (record { start = l.end + 1; end = next_of s 10 (l.end + 1); number = l.number % 4294967296 + 1; left = l.left - 1 })))

-- the bytes of a line
unfoldable pub line_of : List ℕ → Line → List ℕ
line_of s l = cut_of s l.start l.end

-- where the word stands that is k words behind a place
unfoldable pub word_at : List ℕ → ℕ → ℕ → ℕ
word_at s zero at = at
word_at s (suc k) at = word_at s k (next_word s (next_of s 32 at))

-- the line from its word k on
unfoldable pub words_from : List ℕ → ℕ → List ℕ
words_from s k = cut_of s (word_at s k (next_word s 0)) (length s)

-- word k of a line; none where it has fewer
unfoldable pub word_of : List ℕ → ℕ → List ℕ
word_of s k = cut_of (words_from s k) 0 (next_of (words_from s k) 32 0)

-- ---- numbers

-- what a digit of up to base 16 stands for, in capital letters
unfoldable pub digit_of : ℕ → Option ℕ
digit_of b = if ltb b 48 then None else (if ltb b 58 then Some (b - 48) else (if ltb b 65 then None else (if ltb b 71 then Some (b - 55) else None)))

-- a digit more, in a base; what is no digit of it, or 2^64 and more, is no number
unfoldable pub with_digit : ℕ → Option ℕ → ℕ → Option ℕ
with_digit base n b = option_and_then (λ m. option_and_then (λ d. if leb base d then None else (if leb (2 ^ 64) (m * base + d) then None else Some (m * base + d))) (digit_of b)) n

-- a word of at least one digit
unfoldable pub number_of : ℕ → List ℕ → Option ℕ
number_of base w = if eqb (length w) 0 then None else along (with_digit base) (Some 0) w

-- words that are one number and no more
unfoldable pub alone_of : List ℕ → Option ℕ
alone_of s = if eqb (length (words_from s 1)) 0 then number_of 10 (word_of s 0) else None

-- the room that word k says, the last of the line; that of a whole store where there is no such word
unfoldable pub room_of : List ℕ → ℕ → Option ℕ
room_of s k = if eqb (length (words_from s k)) 0 then Some 4294967295 else alone_of (words_from s k)

-- ---- the numbers of a command

-- the number that word k of the words before end says, at most so much; 0 from there on
unfoldable pub arg_of : List ℕ → ℕ → ℕ → ℕ → Option ℕ
arg_of s k end most = if ltb k end then option_and_then (λ n. if leb n most then Some n else None) (number_of 10 (word_of s k)) else Some 0

-- those of the words from k on, before end, where the line then ends
unfoldable pub args_of : List ℕ → ℕ → ℕ → Most → Option Args
args_of s k end most =
    if ltb 100 k then None else
    option_and_then (λ a.
    option_and_then (λ b.
    option_and_then (λ c.
    option_and_then (λ d.
    option_and_then (λ e.
    if eqb (length (word_of s end)) 0 then Some (record { a = a; b = b; c = c; d = d; e = e }) else None)
    (arg_of s (k + 4) end most.e))
    (arg_of s (k + 3) end most.d))
    (arg_of s (k + 2) end most.c))
    (arg_of s (k + 1) end most.b))
    (arg_of s k end most.a)

-- ---- bytes in hex

-- what was read, and the store that its bytes went to
pub record Hexed : Type 0 where
  pub read : Bytes
  pub out : List ℕ

-- a bad letter, or a byte that has no room: reading goes on, and is not good any more
unfoldable pub broken : Bytes → Bytes
broken h = record { size = h.size; high = h.high; good = false }

-- a digit behind those that were read: the first of a byte, or the second, with which the byte goes to its place
unfoldable pub with_low : Bytes → List ℕ → ℕ → Option ℕ → Hexed
with_low h out d None = record { read = record { size = h.size; high = Some d; good = h.good }; out = out }
with_low h out d (Some high) =
    if leb (length out) h.size then record { read = broken h; out = out } else
    record { read = record { size = h.size + 1; high = None; good = h.good }; out = set out h.size ((high * 16 + d) % 256) }

unfoldable pub with_digit_of : Bytes → List ℕ → Option ℕ → Hexed
with_digit_of h out None = record { read = broken h; out = out }
with_digit_of h out (Some d) = with_low h out d h.high

-- a character behind those that were read: a blank, or a digit
unfoldable pub with_byte : Hexed → ℕ → Hexed
with_byte x b = if eqb b 32 then x else with_digit_of x.read x.out (digit_of b)

-- how many bytes were read, where all was good and no digit is left over
unfoldable pub whole : Bytes → Option ℕ
whole h = if not h.good || is_some h.high then None else Some h.size

-- how many bytes words say, and the store with them at its front
pub record Read : Type 0 where
  pub size : Option ℕ
  pub out : List ℕ

unfoldable pub read_of : Hexed → Read
read_of x = record { size = whole x.read; out = x.out }

-- the space that bytes are read into
unfoldable pub blank : List ℕ
blank = replicate 16384 0

-- the bytes that words say, two digits to a byte, at the front of a store
unfoldable pub hex_of : List ℕ → List ℕ → Read
hex_of words out = read_of (along with_byte (record { read = record { size = 0; high = None; good = true }; out = out }) words)
