-- [examples] Mistakes that invite themselves, and others: for each a program whose answer shows it. One table, one claim; the answers are the oracle's.
use Rattle.std.specs.Prelude.{◌≡◌, refl, true, false, List, [], ◌∷◌, ◌++◌, map, ℕ, zero, suc, None, Option, Some}
use Rattle.std.specs.Int.Count.{count_trailing_zeros}
use Rattle.std.specs.Float.Ieee as Ieee
use Rattle.std.specs.Float.{binary64}
use Rattle.std.specs.Float.Ieee.{of_bits}
use Rattle.model.specs.declared.Value.{Value}
use Rattle.model.specs.declared.Value.TheVariants as v
use Rattle.model.specs.Basics.{ascii}
use Rattle.model.specs.Programs.{scalar, boolean, reference, Function, Program, main_name}
use Rattle.model.specs.Trees.{Tree, meaning, list as treeList, none, more, scalar as treeScalar}
use Rattle.model.specs.Heap.{Cell}
use Rattle.model.specs.Runs.{Reply, value, fault, entry, Ran, run_of}
use Rattle.model.specs.Examples.{n42, n1, coded, world, loaded, scalar_of}
use Rattle.model.specs.Basics as basics
use Rattle.model.specs.Opcodes as opcodes
use Rattle.model.specs.Numbers as numbers
use Rattle.model.specs.Values as values
use Rattle.model.specs.Scalars as scalars
use Rattle.model.specs.Heap as heap
use Rattle.model.specs.Equality as equality
use Rattle.model.specs.Programs as programs
use Rattle.model.specs.Images as images
use Rattle.model.specs.Trees as trees
use Rattle.model.specs.Steps as steps
use Rattle.model.specs.Runs as run
use Rattle.model.specs.Stores as stores
use Rattle.model.specs.Orders as orders
use Rattle.model.specs.Loading as loading
use Rattle.model.specs.Reports as reports
use Rattle.model.specs.Examples as examples

-- ---- programs: constants 42, 1, true, a reference to f, -0, a NaN; struct names A and B; main, and others

unfoldable pub with_others : List ℕ → List Function → Program
with_others main others = record {
  constants = scalar n42 ∷ scalar n1 ∷ boolean true ∷ reference (ascii "f") ∷ scalar 0x8000_0000_0000_0000 ∷ scalar 0x7FF8_0000_0000_0000 ∷ [];
  structs = ascii "A" ∷ ascii "B" ∷ [];
  functions = coded main_name main ∷ others;
}

-- instructions, with their operands
abbrev pub load : ℕ → List ℕ
load a = 0x00 ∷ a ∷ 0x00 ∷ []

abbrev pub get_local : ℕ → List ℕ
get_local a = 0x03 ∷ a ∷ 0x00 ∷ []

abbrev pub get_upvalue : ℕ → List ℕ
get_upvalue a = 0x04 ∷ a ∷ 0x00 ∷ []

abbrev pub jump_if_false : ℕ → List ℕ
jump_if_false a = 0x1A ∷ a ∷ 0x00 ∷ []

abbrev pub call : ℕ → ℕ → List ℕ
call f n = 0x1C ∷ f ∷ 0x00 ∷ n ∷ 0x00 ∷ []

abbrev pub call_callable : ℕ → List ℕ
call_callable n = 0x1F ∷ n ∷ 0x00 ∷ 0x00 ∷ 0x00 ∷ []

abbrev pub struct : ℕ → ℕ → List ℕ
struct k n = 0x22 ∷ k ∷ 0x00 ∷ n ∷ 0x00 ∷ []

abbrev pub field : ℕ → List ℕ
field i = 0x23 ∷ i ∷ 0x00 ∷ []

abbrev pub list_of : ℕ → List ℕ
list_of n = 0x24 ∷ n ∷ 0x00 ∷ []

abbrev pub op : ℕ → List ℕ
op b = b ∷ []

-- n lists, each the one element of the next
unfoldable pub nested : ℕ → List ℕ
nested zero = []
nested (suc n) = list_of 1 ++ nested n

-- ---- what a run of 1,000 units shows: its reply, and the stack; or what its value means

pub data Shown : Type 0 where
  ran : Reply → List Value → Shown
  means : Tree → Shown

unfoldable pub runs : List ℕ → List Function → Ran
runs main others = run_of (world (with_others main others)) loaded 1000

unfoldable pub shows : List ℕ → List Function → Shown
shows main others = ran (runs main others).reply (runs main others).machine.stack

unfoldable pub last_tree : List ℕ → List Cell → Option Value → Tree
last_tree t H None = treeList none
last_tree t H (Some x) = meaning t H x

unfoldable pub means_of : List ℕ → Shown
means_of main = means (last_tree (world (with_others main [])).text (runs main []).machine.heap (runs main []).machine.last)

abbrev pub f : List ℕ → Function
f code = coded (ascii "f") code

-- the value of the last root Return, with the units spent and the root Returns; nothing is left on the stack
abbrev pub tree_of : ℕ → Tree
tree_of w = treeScalar (of_bits binary64 w)

-- a fault, at the place of a byte of main
abbrev pub faulted : ℕ → ℕ → ℕ → Shown
faulted n spent place = ran (fault n (record { spent = spent; returns = 0 }) (entry 0 place 0 ∷ [])) []

abbrev pub gives : Value → ℕ → ℕ → Shown
gives x spent returns = ran (value x (record { spent = spent; returns = returns })) []

pub record Row : Type 0 where
  pub shown : Shown
  pub is : Shown

abbrev pub ◌is◌ : Shown → Shown → Row
a is b = record { shown = a; is = b }

infix 4 ◌is◌
-- ---- the table

unfoldable pub mistakes : List Row
mistakes =
    -- numbering fields in push order: field 0 is the value popped first
    (shows (load 0 ++ load 1 ++ struct 0 2 ++ field 0 ++ op 0x25) [] is gives (scalar_of n1) 5 1)
    -- a list reversed: the value popped first is the last element
    ∷ (means_of (load 0 ++ load 1 ++ list_of 2 ++ op 0x25) is means (treeList (more (tree_of n42) (more (tree_of n1) none))))
    -- stopping at the first root Return
    ∷ (shows (load 0 ++ op 0x25 ++ load 1 ++ op 0x25) [] is gives (scalar_of n1) 4 2)
    -- no cut to the base: what a function leaves below its result goes
    ∷ (shows (load 0 ++ call 1 1 ++ op 0x25) (f (load 1 ++ load 1 ++ op 0x25) ∷ []) is gives (scalar_of n1) 6 1)
    ∷ (shows (load 0 ++ load 1 ++ call 1 1 ++ op 0x25) (f (load 2 ++ load 1 ++ op 0x25) ∷ []) is ran (value (scalar_of n1) (record { spent = 7; returns = 1 })) (scalar_of n42 ∷ []))
    -- cutting to the base where the stack is already shorter: the caller's value is popped and comes back
    ∷ (shows (load 0 ++ call 1 0 ++ op 0x25) (f (op 0x25) ∷ []) is gives (scalar_of n42) 4 1)
    -- operands exchanged
    ∷ (shows (load 0 ++ load 1 ++ op 0x09 ++ op 0x25) [] is gives (scalar_of 0x4044_8000_0000_0000) 4 1)
    ∷ (shows (load 0 ++ load 1 ++ op 0x0B ++ op 0x25) [] is gives (scalar_of n42) 4 1)
    ∷ (shows (load 0 ++ load 1 ++ op 0x0E ++ op 0x25) [] is gives (v.Boolean false) 4 1)
    -- GetLocal from the bottom, GetUpvalue from the base
    ∷ (shows (load 0 ++ load 1 ++ call 1 1 ++ op 0x25) (f (get_local 0 ++ op 0x25) ∷ []) is ran (value (scalar_of n1) (record { spent = 6; returns = 1 })) (scalar_of n42 ∷ []))
    ∷ (shows (load 0 ++ load 1 ++ call 1 1 ++ op 0x25) (f (get_upvalue 0 ++ op 0x25) ∷ []) is ran (value (scalar_of n42) (record { spent = 6; returns = 1 })) (scalar_of n42 ∷ []))
    -- the oldest function of a name
    ∷ (shows (load 3 ++ call_callable 0 ++ op 0x25) (f (load 0 ++ op 0x25) ∷ f (load 1 ++ op 0x25) ∷ []) is gives (scalar_of n1) 5 1)
    -- a depth of 64 is taken, one of 65 is not
    ∷ (shows (list_of 0 ++ nested 63 ++ op 0x16) [] is faulted 5 65 192)
    ∷ (shows (list_of 0 ++ nested 64) [] is faulted 12 65 194)
    -- a condition that stays where it is true; a jump from the instruction's start
    ∷ (shows (load 2 ++ jump_if_false 4 ++ load 0 ++ op 0x25) [] is gives (scalar_of n42) 4 1)
    ∷ (shows (load 2 ++ op 0x16 ++ jump_if_false 3 ++ load 0 ++ load 1 ++ op 0x25) [] is gives (scalar_of n1) 5 1)
    -- structs of different numbers that are the same; a struct and a list
    ∷ (shows (load 0 ++ struct 0 1 ++ load 0 ++ struct 1 1 ++ op 0x12 ++ op 0x25) [] is gives (v.Boolean false) 6 1)
    ∷ (shows (load 0 ++ struct 0 1 ++ load 0 ++ list_of 1 ++ op 0x13 ++ op 0x25) [] is gives (v.Boolean true) 6 1)
    -- a negative zero that divides; a NaN that is less, or the same
    ∷ (shows (load 0 ++ load 4 ++ op 0x0B) [] is faulted 8 3 6)
    ∷ (shows (load 5 ++ load 5 ++ op 0x10 ++ op 0x25) [] is gives (v.Boolean false) 4 1)
    ∷ (shows (load 5 ++ load 5 ++ op 0x12 ++ op 0x25) [] is gives (v.Boolean false) 4 1)
    ∷ []

-- each shows what the oracle answers
pub mistakes_show : map (λ r. r.shown) mistakes ≡ map (λ r. r.is) mistakes
unfolding with_others nested runs shows last_tree means_of mistakes examples.computes count_trailing_zeros
    basics.computes opcodes.computes numbers.computes values.computes scalars.computes heap.computes equality.computes programs.computes
    images.computes trees.computes steps.computes run.computes stores.computes orders.computes loading.computes reports.computes
    Ieee.of_bits Ieee.of_fields Ieee.odd Ieee.add Ieee.sub Ieee.neg Ieee.sum Ieee.round Ieee.units Ieee.size Ieee.span Ieee.climb Ieee.div Ieee.eq
    Ieee.lt Ieee.le
mistakes_show = refl
