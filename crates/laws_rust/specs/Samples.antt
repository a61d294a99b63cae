-- [samples] The Rust, as it is written down, run on P1, P3, P4, P5, P6 and P8 of document 01: it computes, and answers as the document has it.
use Rattle.std.specs.Prelude.{◌≡◌, refl, true, List, [], ◌∷◌, map, ℕ}
use Rattle.std.proofs.Math.Option.{Option, none, some}
use Rattle.std.specs.Int.Count.{count_trailing_zeros}
use Rattle.std.specs.Float.Ieee as f64
use Rattle.std.specs.Float.{binary64}
use Rattle.std.specs.Float.Ieee.{of_bits}
use Rattle.model.specs.Basics.{ascii}
use Rattle.model.specs.Programs.{main_name}
use Rattle.model.specs.Trees.{Tree, scalar, boolean}
use Rattle.laws_rust.specs.Vm as rust
use Rattle.laws_rust.specs.Vm.{Vm, Chunk, CallFrame, Result, ok, err, vm_with_lem, run}

-- what `run` gives, and what it is said to give
pub record Sample : Type 0 where
  pub gives : Result
  pub says : Result

infix 4 ◌shows◌
abbrev pub ◌shows◌ : Result → Result → Sample
a shows b = record { gives = a; says = b }

unfoldable pub number : ℕ → Tree
number bits = scalar (of_bits binary64 bits)

abbrev pub n43 : Tree
n43 = number 0x4045_8000_0000_0000

abbrev pub n42 : Tree
n42 = number 0x4045_0000_0000_0000

abbrev pub n1 : Tree
n1 = number 0x3FF0_0000_0000_0000

abbrev pub n0 : Tree
n0 = number 0

abbrev pub frame : ℕ → ℕ → ℕ → CallFrame
frame f i b = record { function_idx_lem = f; ip = i; fp = b }

abbrev pub chunk : List ℕ → List ℕ → Chunk
chunk name code = record { name = name; code = code }

-- a machine that has not run, with two constants, main and what stands behind it
unfoldable pub vm : Tree → Tree → List ℕ → List Chunk → Vm
vm a b main others = record {
  bytecode = chunk main_name main ∷ others;
  constants = a ∷ b ∷ [];
  struct_infos = 0;
  last_result_lem = none;
  frames = frame 0 0 0 ∷ [];
  stack = [];
}

-- the same machine with an empty stack, that last result, and these frames, the innermost first
abbrev pub left : Vm → Option Tree → List CallFrame → Vm
left m r fs = vm_with_lem m r fs []

unfoldable pub p1 : Vm
p1 = vm n42 n1 (0x00 ∷ 0x00 ∷ 0x00 ∷ 0x00 ∷ 0x01 ∷ 0x00 ∷ 0x08 ∷ 0x25 ∷ []) []

unfoldable pub p3 : Vm
p3 = vm n1 n0 (0x00 ∷ 0x00 ∷ 0x00 ∷ 0x00 ∷ 0x01 ∷ 0x00 ∷ 0x0B ∷ 0x25 ∷ []) []

unfoldable pub p4 : Vm
p4 = vm n1 n0 (0x00 ∷ 0x00 ∷ 0x00 ∷ 0x25 ∷ 0x00 ∷ 0x00 ∷ 0x00 ∷ 0x00 ∷ 0x01 ∷ 0x00 ∷ 0x0B ∷ 0x25 ∷ []) []

unfoldable pub p5 : Vm
p5 = vm n42 n1
    (0x00 ∷ 0x00 ∷ 0x00 ∷ 0x00 ∷ 0x01 ∷ 0x00 ∷ 0x24 ∷ 0x02 ∷ 0x00
    ∷ 0x00 ∷ 0x00 ∷ 0x00 ∷ 0x00 ∷ 0x01 ∷ 0x00 ∷ 0x24 ∷ 0x02 ∷ 0x00 ∷ 0x12 ∷ 0x25 ∷ []) []

unfoldable pub p6 : Vm
p6 = vm n42 n1 (0x1C ∷ 0x01 ∷ 0x00 ∷ 0x00 ∷ 0x00 ∷ []) (chunk (ascii "f") [] ∷ [])

unfoldable pub p8 : Vm
p8 = vm n42 n1 (0x00 ∷ 0x00 ∷ 0x00 ∷ 0x00 ∷ 0x01 ∷ 0x00 ∷ 0x1C ∷ 0x01 ∷ 0x00 ∷ 0x00 ∷ 0x00 ∷ 0x25 ∷ []) (chunk (ascii "f") (0x08 ∷ 0x25 ∷ []) ∷ [])

-- where a call has entered the empty function
abbrev pub p6_left : Vm
p6_left = left p6 none (frame 1 0 0 ∷ frame 0 5 0 ∷ [])

-- each loop is looked at for a turn more than it takes: that is its last test
unfoldable pub samples : List Sample
samples =
    -- P1: 43
    (run 5 p1 shows ok (some n43) (left p1 (some n43) (frame 0 8 0 ∷ [])))
    -- P3: an error
    ∷ (run 4 p3 shows err (left p3 none (frame 0 8 0 ∷ [])))
    -- P4: an error; the last result is 1
    ∷ (run 6 p4 shows err (left p4 (some n1) (frame 0 12 0 ∷ [])))
    -- P5: true
    ∷ (run 9 p5 shows ok (some (boolean true)) (left p5 (some (boolean true)) (frame 0 20 0 ∷ [])))
    -- P6: continue, with two frames; again
    ∷ (run 2 p6 shows ok none p6_left)
    ∷ (run 1 p6_left shows ok none p6_left)
    -- P8: 43
    ∷ (run 7 p8 shows ok (some n43) (left p8 (some n43) (frame 0 12 0 ∷ [])))
    ∷ []

pub samples_hold : map (λ s. s.gives) samples ≡ map (λ s. s.says) samples
unfolding number vm p1 p3 p4 p5 p6 p8 samples ascii main_name count_trailing_zeros
    rust.index rust.stack_at rust.sub rust.unwrap rust.current_frame rust.move_ip rust.read_byte rust.read_u16 rust.push rust.pop_from rust.pop
    rust.if_quantity rust.if_boolean_lem rust.if_string_lem rust.if_function_reference rust.if_list_lem rust.if_struct_instance rust.pop_quantity rust.pop_bool
    rust.eq_str rust.if_more rust.eq rust.ops rust.transmute rust.position rust.get_function_idx rust.two_quantities rust.arithmetic rust.checked_div
    rust.ordering rust.comparison rust.logic rust.push_frame rust.truncate rust.return rust.push_each rust.push_front_each rust.swap_remove rust.arm
    rust.turn rust.past rust.at_end_of rust.is_at_the_end rust.behind rust.test rust.run_without_cleanup rust.main_length rust.cleaned rust.clean_up
    rust.run f64.of_bits f64.of_fields f64.odd f64.add f64.sum f64.round f64.units f64.size f64.span f64.climb f64.div f64.eq
samples_hold = refl
