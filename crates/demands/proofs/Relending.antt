-- A machine in stores that are lent anew is in good order, and stands for the same program and the same machine; where they are as long, no answer says which.
use Rattle.std.specs.Prelude.{if◌then◌else◌}
use mathlib.Core.Path.{◌≡◌, refl, sym, ap, ◌∙◌}
use mathlib.Core.Bool.{Bool, true, false, ◌&&◌}
use mathlib.Core.List.{List, [], ◌∷◌}
use Prim.Native.Nat.{ℕ, zero, suc, ◌+◌, ◌*◌, ◌≤◌, ◌<◌}
use native.Mathlib.Omega.{arith}
use borrow.Author.Tests.{leb-true, le-leb, ne_eqb}
use lib.Dec.{leb, eqb}
use lib.ListN.{length, take, drop, length-take}
use lib.Seq.{take-take}
use Rattle.model.specs.declared.Counts.{Counts}
use Rattle.model.specs.declared.Vm.{Vm}
use Rattle.model.specs.Basics.{every_from}
use Rattle.model.specs.Values.{places, kind_at, payload_at, value_at, values_from, exact_value, text_at}
use Rattle.model.specs.Heap.{Cell, heap_of, heap_ok, exact_cells, placed_below}
use Rattle.model.specs.Programs.{Function}
use Rattle.model.specs.Stores.{Stores, start, size, part, struct_word, order_word, name_word, code_word, code_end, constant_in, constants_from, structs_from, function_in, functions_from, program_in}
use Rattle.model.specs.Stores as t
use Rattle.model.specs.Orders.{text_ok, constant_ok, constants_ok, name_in_order, code_start, function_ok, functions_ok, main_ok, main_taken, other_taken, inside_codes, program_ok, cells_ok, stack_ok}
use Rattle.model.specs.Machines.{frame_room, innermost, machine_in, progress_in, under_in, world_of, run_order, part_order}
use Rattle.layout.proofs.Bools.{either_way, and_left, and_right, and_both}
use Rattle.laws_programs.proofs.Every.{pass_all}
use Rattle.laws_programs.proofs.Known.{Limited, limited, text_inside, constants_known, Structs, structs_known, structs_good, Known, function_known, ascending}
use Rattle.laws_programs.proofs.Keeping.{Good, good_of, of_good}
use Rattle.laws_runs.specs.Ordered.{CodeBytes, UnderOrdered}
use Rattle.laws_runs.proofs.Ordered.{order_machine, order_exact, idle_of, idle_to, under_of_lem, under_to, sane_ordered}
use Rattle.demands.specs.Host.{Held}
use Rattle.demands.specs.Kept.{InOrder, WorldGrew}
use Rattle.demands.specs.Agree.{Front, Rooms}
use Rattle.demands.specs.Meant.{world_in, machine_of, AsLong, Fine, AlikeHeld}
use Rattle.demands.specs.Relent.{ProgramAnew, Relent, StandsFor}
use Rattle.demands.proofs.Fronts.{front_less, places_alike, kind_alike, payload_alike, value_alike, vals_alike, heap_to, heap_alike, exact_alike, every_alike, innermost_alike, callers_alike}
use Rattle.demands.proofs.Wider.{sane_wider}
use Rattle.demands.proofs.Agreeing.{mark_below}
use Rattle.demands.proofs.MeantChains.{machine_self, under_self}

-- ---- rooms

more_1 : (a b : List ℕ) → length a ≤ length b → places 1 a ≤ places 1 b
unfolding places
more_1 a b h = omega arith

more_2 : (a b : List ℕ) → length a ≤ length b → places 2 a ≤ places 2 b
unfolding places
more_2 a b h = omega arith

-- what had its room has it still
still_1 : (n : ℕ) (a b : List ℕ) → length a ≤ length b → leb n (places 1 a) ≡ true → leb n (places 1 b) ≡ true
still_1 n a b h e = le-leb n (places 1 b) (omega (arith, leb-true n (places 1 a) e, more_1 a b h))

-- ---- a part of a store that lies below the count

part_taken : (o z n : ℕ) (t : List ℕ) → o + z ≤ n → take z (drop o (take n t)) ≡ take z (drop o t)
part_taken zero z n t h = take-take z n t (omega arith)
part_taken (suc o) z zero t h = absurd (let y : ⊥ = omega arith in y)
part_taken (suc o) z (suc n) [] h = refl
part_taken (suc o) z (suc n) (x ∷ t) h = part_taken o z n t (omega arith)

part_anew : {n : ℕ} {a b : List ℕ} → Front n b a → (w : ℕ) → start w + size w ≤ n → part b w ≡ part a w
unfolding part text_at
part_anew {n} {a} {b} f w h =
    sym (part_taken (start w) (size w) n b h) ∙ ap (λ (t : List ℕ). take (size w) (drop (start w) t)) f.front ∙ part_taken (start w) (size w) n a h

-- ---- the program

module _ (c : Counts) (s s' : Stores) (g : ProgramAnew c s s') (ok : program_ok c s ≡ true) where
  good : Good c s
  good = good_of c s ok

  limits : Limited c
  limits = limited c good.counts

  known : (i : ℕ) → i < c.functions → Known c s.functions i
  known = function_known c s.functions good.functions

  -- words

  name_word_lem : (i : ℕ) → i < c.functions → name_word s'.functions i ≡ name_word s.functions i
  unfolding name_word
  name_word_lem = kind_alike c.functions g.functions.front

  code_word_lem : (i : ℕ) → i < c.functions → code_word s'.functions i ≡ code_word s.functions i
  unfolding code_word
  code_word_lem = payload_alike c.functions g.functions.front

  struct_word_lem : (i : ℕ) → i < c.structs → struct_word s'.structs i ≡ struct_word s.structs i
  unfolding struct_word
  struct_word_lem = kind_alike c.structs g.structs.front

  order_word_lem : (i : ℕ) → i < c.structs → order_word s'.structs i ≡ order_word s.structs i
  unfolding order_word
  order_word_lem = payload_alike c.structs g.structs.front

  code_end_lem : (i : ℕ) → i < c.functions → code_end s'.functions i ≡ code_end s.functions i
  unfolding code_end
  code_end_lem i h = rw (code_word_lem i h)

  code_start_lem : (i : ℕ) → i ≤ c.functions → code_start s'.functions i ≡ code_start s.functions i
  unfolding code_start
  code_start_lem zero h = refl
  code_start_lem (suc zero) h = refl
  code_start_lem (suc (suc i)) h = code_end_lem (suc i) (omega arith)

  -- texts

  text_anew : (w : ℕ) → start w + size w ≤ c.text → part s'.text w ≡ part s.text w
  text_anew = part_anew g.text.front

  structs_before : Structs c s.structs s.text
  structs_before = structs_known c s.structs s.text good.structs

  struct_name : (i : ℕ) → i < c.structs → part s'.text (struct_word s'.structs i) ≡ part s.text (struct_word s.structs i)
  struct_name i h = rw (struct_word_lem i h) (text_anew (struct_word s.structs i) (text_inside c _ (structs_before.inside i h)))

  name_in_order_lem : (i : ℕ) → i < c.structs → name_in_order s'.structs s'.text i ≡ name_in_order s.structs s.text i
  unfolding name_in_order
  name_in_order_lem i h = rw (order_word_lem i h) (struct_name (order_word s.structs i) (structs_before.order.below i h))

  -- ---- clause by clause

  text_ok_lem : text_ok c s'.text ≡ true
  unfolding text_ok
  text_ok_lem = still_1 c.text s.text s'.text g.text.room good.text

  constants_ok_lem : constants_ok c s'.constants ≡ true
  unfolding constants_ok
  constants_ok_lem =
      let k = constants_known c s.constants good.constants in
      let room = more_2 s.constants s'.constants g.constants.room in
      and_both (leb c.constants (places 2 s'.constants)) _
      (le-leb c.constants (places 2 s'.constants) (omega (arith, k.within)))
      (pass_all c.constants 0 (λ i. constant_ok c (kind_at s'.constants i) (payload_at s'.constants i)) (λ i h.
      let z : 0 + i ≡ i = omega arith in
      rw (z, kind_alike c.constants g.constants.front i h, payload_alike c.constants g.constants.front i h) (k.each i h)))

  structs_after : Structs c s'.structs s'.text
  structs_after = record {
    within = let room = more_2 s.structs s'.structs g.structs.room in omega (arith, structs_before.within);
    inside = λ i h. rw (struct_word_lem i h) (structs_before.inside i h);
    order = record {
      below = λ i h. rw (order_word_lem i h) (structs_before.order.below i h);
      ascending = record { next = λ i h. rw (name_in_order_lem i (omega arith), name_in_order_lem (suc i) h) (structs_before.order.ascending.next i h) };
    };
  }

  function_ok_lem : (i : ℕ) → i < 0 + c.functions → function_ok c s'.functions i ≡ function_ok c s.functions i
  unfolding function_ok
  function_ok_lem i h = rw (name_word_lem i (omega arith), code_word_lem i (omega arith), code_start_lem i (omega arith), code_end_lem i (omega arith))

  functions_ok_lem : functions_ok c s'.functions ≡ true
  unfolding functions_ok
  functions_ok_lem =
      let a = leb c.functions (places 2 s.functions) in let b = every_from c.functions 0 (function_ok c s.functions) in
      let within = leb-true c.functions (places 2 s.functions) (and_left a b good.functions) in
      let room = more_2 s.functions s'.functions g.functions.room in
      rw (le-leb c.functions (places 2 s'.functions) (omega arith), every_alike c.functions 0 (function_ok c s'.functions) (function_ok c s.functions) function_ok_lem)
      (and_right a b good.functions)

  main_ok_lem : main_ok s'.functions s'.text ≡ true
  unfolding main_ok
  main_ok_lem = let n = limits.some in rw (name_word_lem 0 (omega arith), text_anew (name_word s.functions 0) (known 0 (omega arith)).name) good.main

  -- codes, or their places
  codes_ok : (m m' o o' : List ℕ) → length m ≤ length m' → length o ≤ length o' → inside_codes c s.functions m o ≡ true → inside_codes c s'.functions m' o' ≡ true
  unfolding inside_codes main_taken other_taken
  codes_ok m m' o o' hm ho e =
      let n = limits.some in
      let a = leb (code_end s.functions 0) (places 1 m) in let b = leb (code_start s.functions c.functions) (places 1 o) in
      rw (code_end_lem 0 (omega arith), code_start_lem c.functions (omega arith))
      (and_both _ _ (still_1 (code_end s.functions 0) m m' hm (and_left a b e)) (still_1 (code_start s.functions c.functions) o o' ho (and_right a b e)))

  pub program_ok_lem : program_ok c s' ≡ true
  program_ok_lem = of_good c s' (record {
    counts = good.counts;
    text = text_ok_lem;
    constants = constants_ok_lem;
    structs = structs_good c s'.structs s'.text structs_after;
    functions = functions_ok_lem;
    main = main_ok_lem;
    codes = codes_ok _ s'.main _ s'.other g.main.room g.other.room good.codes;
    places = codes_ok _ s'.main_places _ s'.other_places g.main_places.room g.other_places.room good.places;
  })

  -- ---- the program that they stand for

  -- of main's store and the others' store, the code of function i is the same
  code_anew : (m m' o o' : List ℕ) → Front (main_taken s.functions) m' m → Front (other_taken c s.functions) o' o → (i : ℕ) → i < c.functions
      → part (if eqb i 0 then m' else o') (code_word s'.functions i) ≡ part (if eqb i 0 then m else o) (code_word s.functions i)
  unfolding main_taken other_taken code_end
  code_anew m m' o o' fm fo zero h = rw (code_word_lem 0 h) (part_anew fm (code_word s.functions 0) (omega arith))
  code_anew m m' o o' fm fo (suc i) h =
      let n : eqb (suc i) 0 ≡ false = ne_eqb (suc i) 0 (λ e. omega arith) in
      let z = ascending c s.functions good.functions (suc i) c.functions (omega arith) h (omega arith) in
      rw (n, code_word_lem (suc i) h) (part_anew fo (code_word s.functions (suc i)) z)

  same_function : {f f' : Function} → f'.name ≡ f.name → f'.code ≡ f.code → f'.places ≡ f.places → f' ≡ f
  same_function a b d = rw (a, b, d)

  function_anew : (i : ℕ) → i < c.functions → function_in s' i ≡ function_in s i
  unfolding function_in
  function_anew i h = same_function
      (rw (name_word_lem i h) (text_anew (name_word s.functions i) (known i h).name))
      (code_anew s.main s'.main s.other s'.other g.main.front g.other.front i h)
      (code_anew s.main_places s'.main_places s.other_places s'.other_places g.main_places.front g.other_places.front i h)

  pub functions_anew : (n i : ℕ) → i + n ≤ c.functions → functions_from n i s' ≡ functions_from n i s
  unfolding functions_from
  functions_anew zero i h = refl
  functions_anew (suc n) i h = rw (function_anew i (omega arith), functions_anew n (suc i) (omega arith))

  structs_anew : (n i : ℕ) → i + n ≤ c.structs → structs_from n i s'.structs s'.text ≡ structs_from n i s.structs s.text
  unfolding structs_from
  structs_anew zero i h = refl
  structs_anew (suc n) i h = rw (struct_name i (omega arith), structs_anew n (suc i) (omega arith))

  -- only the kinds of text name the text
  constant_anew : (k a : ℕ) → constant_ok c k a ≡ true → constant_in s'.text k a ≡ constant_in s.text k a
  unfolding constant_ok constant_in
  constant_anew k a e = either_way (eqb k 0) (λ e0. rw e0) (λ e0. either_way (eqb k 1) (λ e1. rw (e0, e1)) (λ e1. either_way (leb k 3)
      (λ l. rw (text_anew a (text_inside c a (rw (e0, e1, l) at e))))
      (λ l. absurd (let z : ◌≡◌ {A = Bool} false true = rw (e0, e1, l) at e in let y : ◌≡◌ {A = ℕ} 0 1 = cc in let x : ⊥ = omega arith in x))))

  constants_anew : (n i : ℕ) → i + n ≤ c.constants → constants_from n i s'.constants s'.text ≡ constants_from n i s.constants s.text
  unfolding constants_from
  constants_anew zero i h = refl
  constants_anew (suc n) i h =
      rw (
        kind_alike c.constants g.constants.front i (omega arith),
        payload_alike c.constants g.constants.front i (omega arith),
        constant_anew _ _ ((constants_known c s.constants good.constants).each i (omega arith)),
        constants_anew n (suc i) (omega arith),
      )

  pub values_anew : (n i : ℕ) → i + n ≤ c.constants → values_from n i s'.constants ≡ values_from n i s.constants
  unfolding values_from
  values_anew zero i h = refl
  values_anew (suc n) i h = rw (value_alike c.constants g.constants.front i (omega arith), values_anew n (suc i) (omega arith))

  pub program_anew : program_in c s' ≡ program_in c s
  unfolding program_in
  program_anew = rw (constants_anew c.constants 0 (omega arith), structs_anew c.structs 0 (omega arith), functions_anew c.functions 0 (omega arith))

  -- the same world but for its rooms
  pub world_anew : (st fr ce : ℕ) (strict : Bool) → t.world_in c s' st fr ce strict ≡ t.world_in c s st fr ce strict
  unfolding t.world_in
  world_anew st fr ce strict = rw (values_anew c.constants 0 (omega arith), g.text.front.front, functions_anew c.functions 0 (omega arith))

-- ---- the machine

-- room for n values in other stores with the same words
front_room : (n : ℕ) (a b : List ℕ) → Front (2 * n) b a → n ≤ places 2 a → n ≤ places 2 b
unfolding places
front_room n a b f h =
    let z : length (take (2 * n) b) ≡ length (take (2 * n) a) = ap length f.front in
    let x = length-take (2 * n) a in let y = length-take (2 * n) b in
    omega arith

-- what stands in order does so there
module _ (n : ℕ) {a b : List ℕ} (f : Front (2 * n) b a) where
  room_anew : leb n (places 2 a) ≡ true → leb n (places 2 b) ≡ true
  room_anew e = le-leb n (places 2 b) (front_room n a b f (leb-true n (places 2 a) e))

  cells_anew : (t : ℕ) → cells_ok t n a ≡ true → cells_ok t n b ≡ true
  unfolding cells_ok
  cells_anew t e =
      let within = leb n (places 2 a) in let exact = exact_cells n 0 a in let whole = heap_ok t (heap_of n a) in
      let z = and_left (within && exact) whole e in
      rw (room_anew (and_left within exact z), exact_alike n f, heap_alike n f, and_right within exact z) (and_right (within && exact) whole e)

  stack_anew : (t : ℕ) (H : List Cell) → stack_ok t H n a ≡ true → stack_ok t H n b ≡ true
  unfolding stack_ok
  stack_anew t H e =
      let slot : List ℕ → ℕ → Bool = λ l i. exact_value (kind_at l i) (payload_at l i) && placed_below t H (length H) (value_at l i) in
      let within = leb n (places 2 a) in let each = every_from n 0 (slot a) in
      rw (
        room_anew (and_left within each e),
        every_alike n 0 (slot b) (slot a) (λ i h. rw (kind_alike n f i (omega arith), payload_alike n f i (omega arith), value_alike n f i (omega arith))),
      ) (and_right within each e)

module _ {h k : Held} (o : InOrder h) (g : Relent h k) where
  machine_anew : machine_in h.vm k.lent ≡ machine_in h.vm h.lent
  unfolding machine_in
  machine_anew =
      let some = (order_exact h.vm h.stores h.lent o.machine).frames in
      rw (vals_alike h.vm.stack g.stack.front, innermost_alike g.frames.front some, callers_alike g.frames.front, heap_alike h.vm.cells g.cells.front)

  mark_anew : heap_of h.vm.run.mark k.lent.cells ≡ heap_of h.vm.run.mark h.lent.cells
  mark_anew = heap_to h.vm.cells g.cells.front h.vm.run.mark (mark_below h.vm h.stores h.lent o.machine)

  under_anew : under_in h.vm k.lent ≡ under_in h.vm h.lent
  unfolding under_in progress_in
  under_anew = rw (vals_alike h.vm.run.saved g.copy, mark_anew, machine_anew)

  rooms_grew : WorldGrew (world_of h.vm h.stores h.lent) (world_of h.vm k.stores k.lent)
  unfolding world_of t.world_in frame_room
  rooms_grew =
      let f = functions_anew h.vm.program h.stores k.stores g.program o.program h.vm.program.functions 0 (omega arith) in
      record {
        text = rw g.program.text.front.front (omega arith);
        stack = more_2 h.lent.stack k.lent.stack g.stack.room;
        frames = omega (arith, g.frames.room);
        cells = more_2 h.lent.cells k.lent.cells g.cells.room;
        functions = rw f (omega arith);
        codes = λ i l. rw f (omega arith);
      }

  same_functions : functions_from h.vm.program.functions 0 k.stores ≡ functions_from h.vm.program.functions 0 h.stores
  same_functions = functions_anew h.vm.program h.stores k.stores g.program o.program h.vm.program.functions 0 (omega arith)

  same_frame : innermost h.vm.frames k.lent.frames ≡ innermost h.vm.frames h.lent.frames
  same_frame = innermost_alike g.frames.front (order_exact h.vm h.stores h.lent o.machine).frames

  -- a run under way
  under_order_lem : h.vm.run.on ≡ true → UnderOrdered h.vm k.stores k.lent
  under_order_lem on =
      let u = under_of_lem h.vm h.stores h.lent o.machine on in
      let marked = front_less {n = 2 * h.vm.run.mark} (let z = u.mark in omega arith) g.cells.front in
      record {
        spent = u.spent;
        returns = u.returns;
        answer = u.answer;
        mark = u.mark;
        saved = let z = more_2 h.lent.stack k.lent.stack g.stack.room in omega (arith, u.saved);
        cells = cells_anew h.vm.run.mark marked h.vm.program.text u.cells;
        copy = rw mark_anew (stack_anew h.vm.run.saved g.copy h.vm.program.text _ u.copy);
        last = rw mark_anew u.last;
        entered = rw same_frame u.entered;
        inside = rw (same_frame, same_functions) u.inside;
      }

  part_order_lem : part_order h.vm k.stores k.lent ≡ true
  part_order_lem =
      either_way h.vm.run.on
      (λ on. under_to h.vm k.stores k.lent on (under_order_lem on))
      (λ off. idle_to h.vm k.stores k.lent (idle_of h.vm h.stores h.lent o.machine off))

  order_anew : run_order h.vm k.stores k.lent ≡ true
  order_anew =
      let x = order_exact h.vm h.stores h.lent o.machine in
      sane_ordered h.vm k.stores k.lent (machine_in h.vm h.lent).frame.entered 0 (program_ok_lem h.vm.program h.stores k.stores g.program o.program)
      (record {
        cells = rw (exact_alike h.vm.cells g.cells.front) x.cells;
        stack = λ i l. rw (kind_alike h.vm.stack g.stack.front i l, payload_alike h.vm.stack g.stack.front i l) (x.stack i l);
        frames = x.frames;
      })
      (rw machine_anew (sane_wider rooms_grew (order_machine h.vm h.stores h.lent o.machine 0)))
      part_order_lem

  -- STORES LENT ANEW: good order is kept, and they stand for the same program and the same machine
  pub relent_stands : StandsFor h k
  relent_stands = record {
    order = record {
      program = rw g.vm (program_ok_lem h.vm.program h.stores k.stores g.program o.program);
      machine = rw g.vm order_anew;
    };
    program = rw g.vm (program_anew h.vm.program h.stores k.stores g.program o.program);
    machine = rw g.vm machine_anew;
    under = rw g.vm under_anew;
  }

  -- ---- and as long as before

  -- a world knows of the lent stores their rooms alone, and of the machine its program and setting
  pub world_same : Rooms k.lent h.lent → world_in k ≡ world_in h
  unfolding world_of frame_room
  world_same l =
      rw (g.vm, places_alike k.lent.stack h.lent.stack l.stack 2, l.frames, places_alike k.lent.cells h.lent.cells l.cells 2)
      (world_anew h.vm.program h.stores k.stores g.program o.program _ _ _ _)

-- stores that are as long: the machines mean the same, so that every later call says the same (`chain_alike`)
pub relent_alike : (again : Bool) {h k : Held} → Fine h → CodeBytes k.stores → Relent h k → AsLong k.stores h.stores → Rooms k.lent h.lent → AlikeHeld again h k
relent_alike again {h} {k} f code g long l =
    let same = relent_stands f.order g in
    record {
      counts = ap (λ (m : Vm). m.program) g.vm;
      program = same.program;
      stores = long;
      strict = ap (λ (m : Vm). m.strict) g.vm;
      machine = rw (same.machine, world_same f.order g l) (machine_self (world_in h) (machine_of h));
      on = ap (λ (m : Vm). m.run.on) g.vm;
      under = λ _. rw (same.under, world_same f.order g l) (under_self (world_in h) h.vm h.lent);
      stack = l.stack;
      frames = l.frames;
      copy = l.copy;
      backtrace = l.backtrace;
      cells = λ e. l.cells;
      fine = f;
      beside = record { order = same.order; code = code };
    }
