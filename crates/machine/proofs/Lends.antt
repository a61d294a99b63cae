-- What the loop is lent of a program in good order.
--     text-taken     the text that is taken is there
--     lent_is        constants, names and rooms are those of the run's world
--     coded-is       each function's code is the part that its word names
-- Assumes nothing.
use mathlib.Core.Path.{◌≡◌, refl, sym, ap, ◌∙◌}
use mathlib.Core.Bool.{true, ◌&&◌}
use mathlib.Core.List.{List, ◌++◌, map}
use Prim.Native.Nat.{ℕ, zero, suc, ◌+◌, ◌*◌, ◌≤◌, ◌<◌}
use native.Mathlib.Omega.{arith}
use borrow.Author.Tests.{leb-true}
use lib.Dec.{leb, eqb}
use lib.ListN.{length, take, drop, length-drop, take-append-drop}
use lib.Seq.{length-take-le, take-append-le, drop-append-le}
use Rattle.model.specs.declared.Counts.{Counts}
use Rattle.model.specs.declared.Vm.{Vm}
use Rattle.model.specs.Basics.{every_from}
use Rattle.model.specs.Values.{places, most_places, kind_at, payload_at, text_at}
use Rattle.model.specs.Programs.{code_limit, function_at}
use Rattle.model.specs.Stores.{Stores, start, size, part, name_word, code_word, code_end, function_in, functions_from, world_in}
use Rattle.model.specs.Orders.{text_ok, inside_text, constant_ok, constants_ok, code_start, function_ok, functions_ok}
use Rattle.model.specs.Emission.{names_from}
use Rattle.model.specs.Machines.{Lent, frame_room, world_of, run_order}
use Rattle.value.proofs.Coding.{and_left, and_right}
use Rattle.layout.specs.Links.{names_lent}
use Rattle.laws_runs.specs.Ordered.{CodeBytes}
use Rattle.laws_runs.proofs.Tests.{every_of}
use Rattle.laws_runs.proofs.Programs.{Parts, parts_of_lem, within, length_functions, function_at_lem}
use Rattle.laws_runs.proofs.Ordered.{order_of_lem, order_world}
use Rattle.run_arms.specs.declared.Fixed.{Fixed}
use Rattle.run_steps.specs.Links as st
use Rattle.run_loop.specs.Links.{code_in}

-- the counts and rooms that no step changes, the u units that are given in all, and the setting
pub record FixedIn (m : Vm) (l : Lent) (u : ℕ) (k : Fixed) : Type 0 where
  pub constants : k.constants ≡ m.program.constants
  pub structs : k.structs ≡ m.program.structs
  pub functions : k.functions ≡ m.program.functions
  pub slots : k.slots ≡ places 2 l.stack
  pub frames : k.frames ≡ frame_room l.frames
  pub given : k.given ≡ u
  pub strict : k.strict ≡ m.strict

-- a part of the front of a store is a part of the store
part_taken : (t : ℕ) (xs : List ℕ) (w : ℕ) → t ≤ length xs → start w + size w ≤ t → part (take t xs) w ≡ part xs w
unfolding part text_at
part_taken t xs w h l =
    let n = length-take-le t xs h in
    let d = length-drop (start w) (take t xs) in
    let e : take (size w) (drop (start w) (take t xs ++ drop t xs)) ≡ take (size w) (drop (start w) (take t xs)) =
    ap (λ (q : List ℕ). take (size w) q) (drop-append-le (start w) (take t xs) (drop t xs) (omega arith)) ∙ take-append-le (size w) (drop (start w) (take t xs)) (drop t xs) (omega arith) in
    sym e ∙ ap (λ (q : List ℕ). take (size w) (drop (start w) q)) (take-append-drop t xs)

module _ (c : Counts) (s : Stores) (p : Parts c s) where
  pub text_taken : c.text ≤ length s.text
  unfolding text_ok
  text_taken = within c.text s.text p.text

  constants_there : 2 * c.constants ≤ length s.constants
  unfolding constants_ok places
  constants_there =
      let there = leb c.constants (places 2 s.constants) in
      let every = every_from c.constants 0 (λ i. constant_ok c (kind_at s.constants i) (payload_at s.constants i)) in
      let z : c.constants ≤ places 2 s.constants = leb-true _ _ (and_left there every p.constants) in
      omega arith

  name_inside : (i : ℕ) → i < c.functions → start (name_word s.functions i) + size (name_word s.functions i) ≤ c.text
  unfolding functions_ok function_ok inside_text
  name_inside i h =
      let fs = s.functions in
      let name = inside_text c (name_word fs i) in
      let from = eqb (start (code_word fs i)) (code_start fs i) in
      let short = leb (size (code_word fs i)) code_limit in
      let e = every_of (function_ok c fs) c.functions 0 (and_right (leb c.functions (places 2 fs)) (every_from c.functions 0 (function_ok c fs)) p.functions) i (omega arith) (omega arith) in
      leb-true _ _ (and_left name from (and_left (name && from) short (and_left (name && from && short) (leb (code_end fs i) most_places) e)))

  names_are : (n i : ℕ) → i + n ≤ c.functions → map (λ f. f.name) (functions_from n i s) ≡ names_from n i (names_lent s s.functions (take c.text s.text))
  unfolding functions_from function_in names_from names_lent
  names_are zero i h = refl
  names_are (suc n) i h = rw (part_taken c.text s.text (name_word s.functions i) text_taken (name_inside i (omega arith)), names_are n (suc i) (omega arith))

module _ (m : Vm) (s : Stores) (l : Lent) {u : ℕ} (k : Fixed) (x : FixedIn m l u k) where
  pub lent_is : run_order m s l ≡ true → CodeBytes s → st.Lent (world_of m s l) k s.constants s.functions (take m.program.text s.text) l.cells
  unfolding world_of world_in names_lent
  lent_is e b =
      let c = m.program in
      let p = parts_of_lem c s (order_of_lem m s l e).program in
      record {
        suits = record {
          structs = sym x.structs;
          functions = length_functions s c.functions 0 ∙ sym x.functions;
          stack_room = sym x.slots;
          frame_room = sym x.frames;
          strict = sym x.strict;
        };
        values = rw x.constants;
        room = rw x.constants (constants_there c s p);
        rest = s;
        named = record { text = refl; names = rw x.functions (names_are c s p c.functions 0 (omega arith)) };
        cell_room = refl;
        sane = order_world m s l e b;
      }

  pub coded_is : (i : ℕ) → i < k.functions → (function_at (world_of m s l).functions i).code ≡ code_in s.functions s.main s.other i
  unfolding world_of world_in function_in code_in
  coded_is i h = let z : 0 + i ≡ i = omega arith in rw (function_at_lem s m.program.functions 0 i (omega (arith, x.functions)), z)
