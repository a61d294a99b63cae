-- [examples] The examples to hold, P1 to P9: one table, one claim.
use Rattle.std.specs.Prelude.{◌≡◌, refl, Bool, true, false, List, [], ◌∷◌, map, ℕ, suc, replicate, None, Option, Some}
use Rattle.std.specs.Int.Count.{count_trailing_zeros}
use Rattle.std.specs.Float.Ieee as Ieee
use Rattle.std.specs.Float.{binary64, inf}
use Rattle.std.specs.Float.Ieee.{of_bits}
use Rattle.model.specs.declared.Value.{Value}
use Rattle.model.specs.declared.Value.TheVariants as v
use Rattle.model.specs.declared.Frame.{Frame}
use Rattle.model.specs.declared.Tally.{Tally}
use Rattle.model.specs.Basics.{ascii}
use Rattle.model.specs.Numbers.{Step, bad, digits, number}
use Rattle.model.specs.Programs.{scalar, boolean, Function, Program, main_name}
use Rattle.model.specs.Images.{image_of, Judged, fine, judge}
use Rattle.model.specs.Listings.{Listed, text, listing_of}
use Rattle.model.specs.Steps.{World}
use Rattle.model.specs.Runs.{Machine, entry, Traced, untraced, backtrace_of, root, Reply, value, continue, fault, Ran, begin_of, dealt, given_up}
use Rattle.model.specs.Stores.{world_in}
use Rattle.model.specs.Loading.{laid, counts_for}
use Rattle.model.specs.Reports.{empty_stores, runner_text, lister_text}
use Rattle.model.specs.Basics as basics
use Rattle.model.specs.Opcodes as opcodes
use Rattle.model.specs.Numbers as numbers
use Rattle.model.specs.Values as values
use Rattle.model.specs.Scalars as scalars
use Rattle.model.specs.Heap as heap
use Rattle.model.specs.Equality as equality
use Rattle.model.specs.Programs as programs
use Rattle.model.specs.Images as images
use Rattle.model.specs.Listings as listings
use Rattle.model.specs.Steps as steps
use Rattle.model.specs.Runs as runs
use Rattle.model.specs.Stores as stores
use Rattle.model.specs.Orders as orders
use Rattle.model.specs.Loading as loading
use Rattle.model.specs.Machines as machines
use Rattle.model.specs.Reports as reports
use Rattle.model.specs.declared.Refusal.TheVariants as why

-- ---- what an example shows

pub data Shown : Type 0 where
  bytes : List ℕ → Shown
  judged : Judged → Shown
  listed : Listed → Shown
  read : Step ℕ → Shown
  -- the reply, and the machine's stack, frames (innermost first) and last result
  ran : Reply → List Value → List Frame → Option Value → Shown
  traced : Traced → Shown

-- what the rules give, and what they are said to give
pub record Example : Type 0 where
  pub gives : Shown
  pub says : Shown

-- ---- programs: two constants, and functions whose byte i has place i

abbrev pub n42 : ℕ
n42 = 0x4045_0000_0000_0000

abbrev pub n43 : ℕ
n43 = 0x4045_8000_0000_0000

abbrev pub n1 : ℕ
n1 = 0x3FF0_0000_0000_0000

abbrev pub n0 : ℕ
n0 = 0

unfoldable pub from : ℕ → List ℕ → List ℕ
from i [] = []
from i (x ∷ xs) = i ∷ from (suc i) xs

unfoldable pub coded : List ℕ → List ℕ → Function
coded name code = record { name = name; code = code; places = from 0 code }

unfoldable pub program : ℕ → ℕ → List Function → Program
program a b fs = record { constants = scalar a ∷ scalar b ∷ []; structs = []; functions = fs }

unfoldable pub alone : ℕ → ℕ → List ℕ → Program
alone a b code = program a b (coded main_name code ∷ [])

unfoldable pub p1 : Program
p1 = alone n42 n1 (0x00 ∷ 0x00 ∷ 0x00 ∷ 0x00 ∷ 0x01 ∷ 0x00 ∷ 0x08 ∷ 0x25 ∷ [])

-- P1 with all places 0
unfoldable pub p1_flat : Program
p1_flat = program n42 n1 (record { name = main_name; code = 0x00 ∷ 0x00 ∷ 0x00 ∷ 0x00 ∷ 0x01 ∷ 0x00 ∷ 0x08 ∷ 0x25 ∷ []; places = replicate 8 0 } ∷ [])

unfoldable pub p1_image : List ℕ
p1_image =
    0x02 ∷ 0x00 ∷ 0x00 ∷ 0x00 ∷ 0x00 ∷ 0x00 ∷ 0x00 ∷ 0x00 ∷ 0x45 ∷ 0x40 ∷ 0x00 ∷ 0x00 ∷ 0x00
    ∷ 0x00 ∷ 0x00 ∷ 0x00 ∷ 0x00 ∷ 0xF0 ∷ 0x3F ∷ 0x00 ∷ 0x01 ∷ 0x06 ∷ 0x3C ∷ 0x6D ∷ 0x61 ∷ 0x69
    ∷ 0x6E ∷ 0x3E ∷ 0x08 ∷ 0x00 ∷ 0x00 ∷ 0x00 ∷ 0x00 ∷ 0x01 ∷ 0x00 ∷ 0x08 ∷ 0x25 ∷ 0x08 ∷ 0x00 ∷ []

unfoldable pub p1_listing : List ℕ
p1_listing = ascii ".CODE 0 (<main>)\n  0000 LoadConstant  0\n  0003 LoadConstant  1\n  0006 Add           \n  0007 Return        \n"

-- the three opcodes whose operands were miscounted: CallCallable, Factorial, FFICallFunction
unfoldable pub counted_operands : Program
counted_operands =
    alone n42 n1
    (0x1F ∷ 0x00 ∷ 0x00 ∷ 0x26 ∷ 0x00 ∷ 0x07 ∷ 0x01 ∷ 0x00 ∷ 0x1D ∷ 0x00 ∷ 0x00 ∷ 0x01 ∷ 0x00 ∷ 0x02 ∷ 0x00 ∷ 0x25 ∷ [])

unfoldable pub counted_listing : List ℕ
counted_listing =
    ascii ".CODE 0 (<main>)\n  0000 CallCallable  0 38\n  0005 Factorial     1\n  0008 FFICallFunction 0 1 2\n  0015 Return        \n"

unfoldable pub p3 : Program
p3 = alone n1 n0 (0x00 ∷ 0x00 ∷ 0x00 ∷ 0x00 ∷ 0x01 ∷ 0x00 ∷ 0x0B ∷ 0x25 ∷ [])

unfoldable pub p4 : Program
p4 = alone n1 n0 (0x00 ∷ 0x00 ∷ 0x00 ∷ 0x25 ∷ 0x00 ∷ 0x00 ∷ 0x00 ∷ 0x00 ∷ 0x01 ∷ 0x00 ∷ 0x0B ∷ 0x25 ∷ [])

unfoldable pub p5 : Program
p5 = alone n42 n1
    (0x00 ∷ 0x00 ∷ 0x00 ∷ 0x00 ∷ 0x01 ∷ 0x00 ∷ 0x24 ∷ 0x02 ∷ 0x00
    ∷ 0x00 ∷ 0x00 ∷ 0x00 ∷ 0x00 ∷ 0x01 ∷ 0x00 ∷ 0x24 ∷ 0x02 ∷ 0x00 ∷ 0x12 ∷ 0x25 ∷ [])

unfoldable pub p6 : Program
p6 = program n42 n1 (coded main_name (0x1C ∷ 0x01 ∷ 0x00 ∷ 0x00 ∷ 0x00 ∷ []) ∷ coded (ascii "f") [] ∷ [])

unfoldable pub p7 : Program
p7 = alone n42 n1 (0x1B ∷ 0x05 ∷ 0x00 ∷ [])

unfoldable pub p8 : Program
p8 = program n42 n1
    (coded main_name (0x00 ∷ 0x00 ∷ 0x00 ∷ 0x00 ∷ 0x01 ∷ 0x00 ∷ 0x1C ∷ 0x01 ∷ 0x00 ∷ 0x00 ∷ 0x00 ∷ 0x25 ∷ [])
    ∷ coded (ascii "f") (0x08 ∷ 0x25 ∷ []) ∷ [])

-- A place cannot tell whether a Return was completed: with 2 units this stops behind a jump, at the place of a Return that was passed over. Constants are
-- false and 1; instruction i has place i, from 1 on.
unfoldable pub jumped : Program
jumped = record {
  constants = boolean false ∷ scalar n1 ∷ [];
  structs = [];
  functions = record {
    name = main_name;
    code = 0x00 ∷ 0x00 ∷ 0x00 ∷ 0x1A ∷ 0x04 ∷ 0x00 ∷ 0x00 ∷ 0x01 ∷ 0x00 ∷ 0x25 ∷ 0x00 ∷ 0x01 ∷ 0x00 ∷ 0x25 ∷ [];
    places = 1 ∷ 1 ∷ 1 ∷ 2 ∷ 2 ∷ 2 ∷ 3 ∷ 3 ∷ 3 ∷ 4 ∷ 5 ∷ 5 ∷ 5 ∷ 6 ∷ [];
  } ∷ [];
}

-- main calls f, f calls g, and g divides 42 by 0
unfoldable pub calling : Program
calling = program n42 n0
    (coded main_name (0x00 ∷ 0x00 ∷ 0x00 ∷ 0x1C ∷ 0x01 ∷ 0x00 ∷ 0x00 ∷ 0x00 ∷ [])
    ∷ coded (ascii "f") (0x00 ∷ 0x00 ∷ 0x00 ∷ 0x00 ∷ 0x00 ∷ 0x00 ∷ 0x1C ∷ 0x02 ∷ 0x00 ∷ 0x00 ∷ 0x00 ∷ [])
    ∷ coded (ascii "g") (0x00 ∷ 0x00 ∷ 0x00 ∷ 0x00 ∷ 0x01 ∷ 0x00 ∷ 0x0B ∷ []) ∷ [])

-- an operation on two constants
unfoldable pub calculating : (opcode first second : ℕ) → Program
calculating opcode a b = alone a b (0x00 ∷ 0x00 ∷ 0x00 ∷ 0x00 ∷ 0x01 ∷ 0x00 ∷ opcode ∷ 0x25 ∷ [])

-- 2 to the 1023rd, and it negated; the least scalar above 0; infinity
abbrev large : ℕ
large = 0x7FE0_0000_0000_0000

abbrev minus_large : ℕ
minus_large = 0xFFE0_0000_0000_0000

abbrev least : ℕ
least = 1

abbrev infinite : ℕ
infinite = 0x7FF0_0000_0000_0000

unfoldable pub product : Program
product = calculating 0x0A large large

-- ---- running them in the runner's stores, on a machine as it is loaded

unfoldable pub world_for : (strict : Bool) → Program → World
world_for strict p = world_in (counts_for p) (laid p empty_stores) 1024 256 2048 strict

unfoldable pub world : Program → World
world p = world_for false p

unfoldable pub loaded : Machine
loaded = record { stack = []; frame = root 0; callers = []; heap = []; last = None }

unfoldable pub shown : Ran → Shown
shown r = ran r.reply r.machine.stack (r.machine.frame ∷ r.machine.callers) r.machine.last

-- a run of m, begun, continued with each of these units in turn, and abandoned where it is paused
unfoldable pub in_parts : Program → Machine → List ℕ → Ran
in_parts p m us = given_up (world p) (dealt (world p) (begin_of (world p) m) us)

unfoldable pub run : Program → ℕ → Ran
run p u = in_parts p loaded (u ∷ [])

-- the same on a strict machine
unfoldable pub strictly : Program → ℕ → Ran
strictly p u = given_up (world_for true p) (dealt (world_for true p) (begin_of (world_for true p) loaded) (u ∷ []))

-- run, and run again on the machine that is left
unfoldable pub again : Program → ℕ → Ran
again p u = in_parts p (run p u).machine (u ∷ [])

-- a frame that was entered when the run had spent e units
abbrev called : ℕ → ℕ → ℕ → ℕ → Frame
called f i b e = record { function = f; position = i; base = b; entered = e }

abbrev frame : ℕ → ℕ → ℕ → Frame
frame f i b = called f i b 0

-- the units spent, and the root Returns completed
abbrev did : ℕ → ℕ → Tally
did spent returns = record { spent = spent; returns = returns }

unfoldable pub scalar_of : ℕ → Value
scalar_of w = v.Scalar (of_bits binary64 w)

abbrev pub ◌shows◌ : Shown → Shown → Example
a shows b = record { gives = a; says = b }

infix 4 ◌shows◌
-- ---- the table

unfoldable pub examples : List Example
examples =
    -- P1
    (shown (run p1 1000000) shows ran (value (scalar_of n43) (did 4 1)) [] (frame 0 8 0 ∷ []) (Some (scalar_of n43)))
    ∷ (bytes (image_of p1_flat) shows bytes p1_image)
    ∷ (judged (judge p1_image) shows judged (fine p1_flat))
    ∷ (listed (listing_of p1) shows listed (text p1_listing))
    ∷ (listed (listing_of counted_operands) shows listed (text counted_listing))
    ∷ (bytes (runner_text p1_image) shows bytes (ascii "value scalar 4045800000000000\nspent 4\nstack 0\n"))
    ∷ (bytes (lister_text p1_image) shows bytes p1_listing)
    -- P2: 3 units
    ∷ (shown (run p1 3) shows ran (fault 13 (did 3 0) (entry 0 6 0 ∷ [])) [] (frame 0 8 0 ∷ []) None)
    -- P3
    ∷ (shown (run p3 1000000) shows ran (fault 8 (did 3 0) (entry 0 6 0 ∷ [])) [] (frame 0 8 0 ∷ []) None)
    -- P4: the last result stays
    ∷ (shown (run p4 1000000) shows ran (fault 8 (did 5 1) (entry 0 10 0 ∷ [])) [] (frame 0 12 0 ∷ []) (Some (scalar_of n1)))
    -- P4 with its units dealt out: the root Return of the first part counts
    ∷ (shown (in_parts p4 loaded (2 ∷ 2 ∷ 1 ∷ [])) shows ran (fault 8 (did 5 1) (entry 0 10 0 ∷ [])) [] (frame 0 12 0 ∷ []) (Some (scalar_of n1)))
    -- P4 abandoned behind its root Return: that has counted, and its last result stays
    ∷ (shown (in_parts p4 loaded (3 ∷ [])) shows ran (fault 13 (did 3 1) (entry 0 6 0 ∷ [])) [] (frame 0 12 0 ∷ []) (Some (scalar_of n1)))
    -- P1 begun again at its end: "continue", though there is a last result
    ∷ (shown (in_parts p1 (run p1 1000000).machine []) shows ran (continue (did 0 0)) [] (frame 0 8 0 ∷ []) (Some (scalar_of n43)))
    -- P5
    ∷ (shown (run p5 1000000) shows ran (value (v.Boolean true) (did 10 1)) [] (frame 0 20 0 ∷ []) (Some (v.Boolean true)))
    -- given up: with 6 units before Equal, which was not fetched; with 7 and 8 in Equal, whose two pairs they do not pay for
    ∷ (shown (run p5 6) shows ran (fault 13 (did 6 0) (entry 0 17 0 ∷ [])) [] (frame 0 20 0 ∷ []) None)
    ∷ (shown (run p5 7) shows ran (fault 13 (did 7 0) (entry 0 18 0 ∷ [])) [] (frame 0 20 0 ∷ []) None)
    ∷ (shown (run p5 8) shows ran (fault 13 (did 8 0) (entry 0 18 0 ∷ [])) [] (frame 0 20 0 ∷ []) None)
    -- P5 with its 10 units dealt out, 0 among them: paused before Equal with 1 and 2 of its 3 units, and then it goes on
    ∷ (shown (in_parts p5 loaded (6 ∷ 0 ∷ 1 ∷ 1 ∷ 1 ∷ 1 ∷ [])) shows ran (value (v.Boolean true) (did 10 1)) [] (frame 0 20 0 ∷ []) (Some (v.Boolean true)))
    -- abandoned with nothing given: fault 13, byte 0, nothing spent
    ∷ (shown (in_parts p1 loaded []) shows ran (fault 13 (did 0 0) (entry 0 0 0 ∷ [])) [] (frame 0 8 0 ∷ []) None)
    -- P6: both runs; the second begins with the frames of the first, and their numbers are then 0
    ∷ (shown (run p6 1000000) shows ran (continue (did 1 0)) [] (called 1 0 0 1 ∷ frame 0 5 0 ∷ []) None)
    ∷ (shown (again p6 1000000) shows ran (continue (did 0 0)) [] (frame 1 0 0 ∷ frame 0 5 0 ∷ []) None)
    -- begun at the end of its code it is over at once
    ∷ (shown (in_parts p6 (run p6 1000000).machine []) shows ran (continue (did 0 0)) [] (frame 1 0 0 ∷ frame 0 5 0 ∷ []) None)
    -- P7: position 8, and the backtrace
    ∷ (shown (run p7 1000000) shows ran (continue (did 1 0)) [] (frame 0 8 0 ∷ []) None)
    ∷ (traced (backtrace_of p7.functions ((run p7 1000000).machine.frame ∷ [])) shows traced (untraced why.PlaceOutsideCode))
    -- P8
    ∷ (shown (run p8 1000000) shows ran (value (scalar_of n43) (did 6 1)) [] (frame 0 12 0 ∷ []) (Some (scalar_of n43)))
    -- the jump: 2 units complete no root Return, 4 complete one
    ∷ (shown (run jumped 2) shows ran (fault 13 (did 2 0) (entry 0 4 0 ∷ [])) [] (frame 0 14 0 ∷ []) None)
    ∷ (shown (run jumped 4) shows ran (value (scalar_of n1) (did 4 1)) [] (frame 0 14 0 ∷ []) (Some (scalar_of n1)))
    -- when each call began: main calls f with its second unit, f calls g with its fifth, and g divides by zero; so too where the units are dealt out
    ∷ (shown (run calling 1000000) shows ran (fault 8 (did 8 0) (entry 2 6 5 ∷ entry 1 10 2 ∷ entry 0 7 0 ∷ [])) [] (frame 0 8 0 ∷ []) None)
    ∷ (shown (in_parts calling loaded (1 ∷ 3 ∷ 0 ∷ 2 ∷ 9 ∷ [])) shows ran (fault 8 (did 8 0) (entry 2 6 5 ∷ entry 1 10 2 ∷ entry 0 7 0 ∷ [])) [] (frame 0 8 0 ∷ []) None)
    -- two large readings multiplied: infinity, and on a strict machine 26
    ∷ (shown (run product 1000000) shows ran (value (v.Scalar (inf false)) (did 4 1)) [] (frame 0 8 0 ∷ []) (Some (v.Scalar (inf false))))
    ∷ (shown (strictly product 1000000) shows ran (fault 26 (did 3 0) (entry 0 6 0 ∷ [])) [] (frame 0 8 0 ∷ []) None)
    -- so with the other three
    ∷ (shown (strictly (calculating 0x08 large large) 1000000) shows ran (fault 26 (did 3 0) (entry 0 6 0 ∷ [])) [] (frame 0 8 0 ∷ []) None)
    ∷ (shown (strictly (calculating 0x09 minus_large large) 1000000) shows ran (fault 26 (did 3 0) (entry 0 6 0 ∷ [])) [] (frame 0 8 0 ∷ []) None)
    ∷ (shown (strictly (calculating 0x0B n1 least) 1000000) shows ran (fault 26 (did 3 0) (entry 0 6 0 ∷ [])) [] (frame 0 8 0 ∷ []) None)
    -- an operand that was not finite before is no fault of the operation, on either side
    ∷ (shown (strictly (calculating 0x08 infinite n1) 1000000) shows ran (value (v.Scalar (inf false)) (did 4 1)) [] (frame 0 8 0 ∷ []) (Some (v.Scalar (inf false))))
    ∷ (shown (strictly (calculating 0x09 n1 infinite) 1000000) shows ran (value (v.Scalar (inf true)) (did 4 1)) [] (frame 0 8 0 ∷ []) (Some (v.Scalar (inf true))))
    -- the zero divisor comes first; a strict machine that stays finite does as any
    ∷ (shown (strictly p3 1000000) shows ran (fault 8 (did 3 0) (entry 0 6 0 ∷ [])) [] (frame 0 8 0 ∷ []) None)
    ∷ (shown (strictly p1 1000000) shows ran (value (scalar_of n43) (did 4 1)) [] (frame 0 8 0 ∷ []) (Some (scalar_of n43)))
    -- P9
    ∷ (bytes (digits 127) shows bytes (0x7F ∷ []))
    ∷ (bytes (digits 128) shows bytes (0x80 ∷ 0x01 ∷ []))
    ∷ (bytes (digits 4294967295) shows bytes (0xFF ∷ 0xFF ∷ 0xFF ∷ 0xFF ∷ 0x0F ∷ []))
    ∷ (read (number (0x80 ∷ 0x00 ∷ [])) shows read (bad 2))
    ∷ (read (number (0xFF ∷ 0xFF ∷ 0xFF ∷ 0xFF ∷ 0x1F ∷ [])) shows read (bad 5))
    ∷ []

-- P1 to P9, the jump, the calls and the strict machine, together: the rules give what they are said to give
pub examples_hold : map (λ e. e.gives) examples ≡ map (λ e. e.says) examples
unfolding from coded program alone p1 p1_flat p1_image p1_listing counted_operands counted_listing p3 p4 p5 p6 p7 p8 jumped calling calculating product world_for world loaded shown in_parts run strictly again scalar_of examples count_trailing_zeros
    basics.computes opcodes.computes numbers.computes values.computes scalars.computes heap.computes equality.computes programs.computes
    images.computes listings.computes steps.computes runs.computes stores.computes orders.computes loading.computes machines.computes
    reports.computes Ieee.of_bits Ieee.of_fields Ieee.odd Ieee.add Ieee.sum Ieee.round Ieee.units Ieee.size Ieee.span Ieee.climb Ieee.div Ieee.mul Ieee.sub Ieee.neg Ieee.eq
    Ieee.to_bits
examples_hold = refl

-- what other examples compute with of these
unfoldable pub computes : Type 1
unfolding from coded world_for world loaded scalar_of
computes = Type 0
