-- A run that is begun: what the entry has done is what the rules say of it.
--     copy-ready, frames-ready      the stack can be copied, and the frames written
--     current-ready                 the current frame can be read
--     run-begun                     the entry's contract
-- Assumes nothing.
use Rattle.std.specs.Prelude.{Ok}
use mathlib.Core.Path.{◌≡◌, refl, sym, ap, subst, ◌∙◌}
use mathlib.Core.Bool.{Bool, true, false}
use mathlib.Core.List.{List, []}
use Prim.Native.Nat.{ℕ, ◌-◌, ◌*◌, ◌≤◌, ◌<◌}
use native.Mathlib.Omega.{arith}
use lib.Dec.{leb}
use lib.ListN.{length, get_or, take}
use lib.Seq.{length-sets}
use Rattle.model.specs.declared.Vm.{Vm}
use Rattle.model.specs.declared.Frame.{Frame}
use Rattle.model.specs.Basics.{written}
use Rattle.model.specs.Values.{places}
use Rattle.model.specs.Programs.{function_at}
use Rattle.model.specs.Steps.{World}
use Rattle.model.specs.Runs.{standing, begin, Entry}
use Rattle.model.specs.Stores.{Stores, size, code_word, functions_from, world_in}
use Rattle.model.specs.Machines.{unchanged, Lent, frame_room, innermost, machine_in, world_of, RunAnswer, ran, refused, begins, entry_words, trace_of_reply, trace_of_part, answer_in, Left, RunPost}
use Rattle.laws_runs.specs.Sane.{Sane}
use Rattle.laws_runs.specs.Parts.{SanePart}
use Rattle.laws_runs.specs.Ordered.{CodeBytes, Exact}
use Rattle.laws_runs.proofs.Programs.{length_functions, parts_of_lem, code_size}
use Rattle.laws_runs.proofs.Ordered.{order_of_lem, order_exact, order_sane}
use Rattle.frames.specs.Links.{no_frame, all_unentered}
use Rattle.frames.proofs.Callers.{innermost_is}
use Rattle.frames.proofs.Unentering.{unentered_room, innermost_unentered, callers_unentered}
use Rattle.run_ends.specs.Links.{vm_with, vm_begun, begun_with}
use Rattle.run_ends.proofs.Ruled.{a_beginning_answers_by_the_rules}
use Rattle.run_ends.proofs.Leaving.{PausedExact}
use Rattle.machine.specs.Links.{run_lent, Granted}
use Rattle.machine.proofs.Copies.{copied_at, same_kind, same_payload, same_vals}
use Rattle.machine.proofs.Granted.{lengths_of, copy_long}
use Rattle.machine.proofs.Leaves.{comes_to, posted, part_sane, leaves_idle, leaves_under}

-- what an answer leaves is in good order, by the rules
abbrev SaneAnswer : World → RunAnswer → Type 0
SaneAnswer w (ran c x) = SanePart w x
SaneAnswer w (refused n) = Unit {0}

-- the backtrace of an answer
abbrev tells : RunAnswer → List Entry
tells (ran c x) = trace_of_part x
tells (refused n) = []

module _ (m : Vm) (s : Stores) (l : Lent) (g : Granted begins m s l) where
  pub copy_ready : (2 * m.stack ≤ length l.stack) × (2 * m.stack ≤ length l.copy)
  copy_ready = ((lengths_of m s l g.order).stack, copy_long m s l g.order g.fits.1)

  pub frames_ready : m.frames ≤ length l.frames
  unfolding frame_room
  frames_ready = let n = lengths_of m s l g.order in omega (arith, n.frames)

  abbrev zeroed : List Frame
  zeroed = all_unentered m.frames l.frames

  pub current_ready : m.frames - 1 < length zeroed
  current_ready = rw (unentered_room m.frames l.frames) (lengths_of m s l g.order).current

  abbrev here : Frame
  here = get_or zeroed (m.frames - 1) no_frame

  abbrev copied : List ℕ
  copied = written l.copy 0 (take (2 * m.stack) l.stack)

  abbrev left : Lent
  left = run_lent l.stack l.cells zeroed copied l.backtrace

  abbrev world : World
  world = world_of m s l

  same_words : (i : ℕ) → i < 2 * m.stack → get_or copied i 0 ≡ get_or l.stack i 0
  same_words = copied_at (2 * m.stack) l.stack l.copy copy_ready.0 copy_ready.1

  -- the machine in the stores as they are left is the one that is begun
  begun_there : standing (machine_in m left) 0 0 ≡ begin (machine_in m l) 0
  unfolding machine_in run_lent
  begun_there = rw (innermost_unentered m.frames l.frames (lengths_of m s l g.order).some, callers_unentered m.frames l.frames)

  here_is : innermost m.frames zeroed ≡ here
  here_is = innermost_is m.frames zeroed refl

  its_code : length (function_at world.functions here.function).code ≡ size (code_word s.functions here.function)
  unfolding world_of world_in
  its_code =
      let p = parts_of_lem m.program s (order_of_lem m s l g.order).program in
      let sane : Sane world (standing (machine_in m left) 0 0) = rw begun_there (order_sane m s l g.order 0) in
      let inner : (innermost m.frames zeroed).function < length (functions_from m.program.functions 0 s) = unfold machine_in run_lent in sane.frame.known in
      let known : here.function < length (functions_from m.program.functions 0 s) = rw here_is at inner in
      code_size m.program s p here.function (omega (arith, length_functions s m.program.functions 0))

  says : answer_in left (Ok (begun_with m here s.functions)) ≡ ran (unchanged m) (comes_to m s l begins)
  says =
      unfold run_lent in
      a_beginning_answers_by_the_rules m l left world begun_there s.functions here (sym here_is) its_code (same_vals m.stack copied l.stack same_words)

  -- what it leaves is in good order, by the rules
  sane : CodeBytes s → SaneAnswer world (answer_in left (Ok (begun_with m here s.functions)))
  sane bytes = subst (SaneAnswer world) (sym says) (part_sane m s l begins g bytes)

  exact : Exact (vm_with m m.stack m.frames m.cells m.last) left
  unfolding run_lent
  exact = let x = order_exact m s l g.order in record { cells = x.cells; stack = x.stack; frames = x.frames }

  begun_exact : Exact (vm_begun m) left
  unfolding vm_begun run_lent
  begun_exact = let x = order_exact m s l g.order in record { cells = x.cells; stack = x.stack; frames = x.frames }

  copy_holds : m.stack ≤ places 2 copied
  unfolding places written
  copy_holds =
      let n = lengths_of m s l g.order in
      omega (arith, length-sets l.copy 0 (take (2 * m.stack) l.stack), copy_ready.1, n.slots)

  paused_exact : PausedExact (vm_begun m) left
  unfolding vm_begun run_lent
  paused_exact =
      let x = order_exact m s l g.order in
      record {
        spent = omega arith;
        returns = omega arith;
        mark = omega arith;
        saved = copy_holds;
        cells = x.cells;
        copy = (λ i z. rw (same_kind m.stack copied l.stack same_words i z, same_payload m.stack copied l.stack same_words i z) (x.stack i z));
      }

  left_by_lem : CodeBytes s → (b : Bool) → leb (size (code_word s.functions here.function)) here.position ≡ b → Left s l (Ok (begun_with m here s.functions)) left
  unfolding begun_with answer_in
  left_by_lem bytes true e = rw e
      (leaves_idle s g.order (unfold run_lent in record { program = refl; strict = refl; stack = refl; cells = refl; frames = unentered_room m.frames l.frames }) exact refl (rw e at (sane bytes)))
  left_by_lem bytes false e = rw e
      (leaves_under s g.order (unfold vm_begun run_lent in record { program = refl; strict = refl; stack = refl; cells = refl; frames = unentered_room m.frames l.frames }) begun_exact (unfold vm_begun in refl)
      paused_exact (rw e at (sane bytes)))

  nothing_told : (b : Bool) → leb (size (code_word s.functions here.function)) here.position ≡ b → tells (answer_in left (Ok (begun_with m here s.functions))) ≡ []
  unfolding begun_with answer_in trace_of_part trace_of_reply
  nothing_told true e = rw e
  nothing_told false e = rw e

  no_trace : entry_words (trace_of_part (comes_to m s l begins)) ≡ []
  unfolding entry_words
  no_trace = ap entry_words (sym (ap tells says) ∙ nothing_told _ refl)

  pub run_begun : CodeBytes s → RunPost begins m s l (Ok (begun_with m here s.functions)) left
  run_begun bytes =
      posted m s l begins g refl (Ok (begun_with m here s.functions)) left says (unfold run_lent in refl)
      (unfold run_lent written in rw no_trace)
      (unfold run_lent in record { stack = refl; cells = refl; frames = unentered_room m.frames l.frames })
      (left_by_lem bytes _ refl)
