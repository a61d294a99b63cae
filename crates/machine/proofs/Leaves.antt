-- What a call of a run comes to that is granted, and that it leaves a machine in good order.
--     comesTo                    the part of the run that a granted call is
--     answers, part-sane         it is what the rules answer, and keeps good order
--     posted                     the call's contract, from its parts
--     leaves-idle                a machine that no run is under way in is left in good order
--     leaves-under               so is one with a run under way
-- Assumes nothing.
use Rattle.std.specs.Prelude.{if◌then◌else◌, Result}
use mathlib.Core.Path.{◌≡◌, refl}
use mathlib.Core.Bool.{Bool, true, false}
use mathlib.Core.List.{List}
use Prim.Native.Nat.{ℕ, ◌+◌, ◌-◌, ◌*◌, ◌≤◌}
use native.Mathlib.Omega.{arith}
use borrow.Author.Tests.{le-ltb}
use lib.ListN.{take}
use Rattle.model.specs.declared.Vm.{Vm}
use Rattle.model.specs.Basics.{written}
use Rattle.model.specs.Runs.{Part, ends, begin_of, continue_of, abandon_of}
use Rattle.model.specs.Stores.{Stores}
use Rattle.model.specs.Orders.{program_ok}
use Rattle.model.specs.Machines.{Unchanged, unchanged, Lent, frame_room, machine_in, under_in, world_of, run_order, ran, refused, RunCall, begins, continues, abandons, run_answer, begin_answer, continue_answer, abandon_answer, copied, copy_after, entry_words, trace_of_part, trace_after, no_run, SameRooms, Leaves, Left, RunPost}
use Rattle.model.specs.Machines as mc
use Rattle.laws_runs.specs.Sane.{Sane}
use Rattle.laws_runs.specs.Parts.{SaneUnder, SaneMachine, SanePart}
use Rattle.laws_runs.specs.Ordered.{CodeBytes, Exact, Beside}
use Rattle.laws_runs.proofs.Runs.{begun_sane, continued_sane, abandoned_sane}
use Rattle.laws_runs.proofs.Ordered.{order_of_lem, order_world, order_sane, order_under, same_world, sane_order, idle_to}
use Rattle.run_ends.proofs.Leaving.{PausedExact, a_paused_run_is_in_order}
use Rattle.machine.specs.Links.{Granted}
use Rattle.model.specs.declared.Halt.{Halt}
use Rattle.model.specs.declared.Refusal.{Refusal}

-- ---- the part that a granted call is

module _ (k : Unchanged) (x : Part) {order on short : Bool} where
  begun_by : order ≡ true → on ≡ false → short ≡ false → (if order then (if on then refused 25 else (if short then refused 17 else ran k x)) else refused 19) ≡ ran k x
  begun_by o r h = rw (o, r, h)

  continued_by : order ≡ true → on ≡ true → short ≡ false → {long : Bool} → long ≡ false
      → (if order then (if on then (if short then refused 17 else (if long then refused 22 else ran k x)) else refused 18) else refused 19) ≡ ran k x
  continued_by o r h z = rw (o, r, h, z)

  abandoned_by : order ≡ true → on ≡ true → short ≡ false → (if order then (if on then (if short then refused 17 else ran k x) else refused 18) else refused 19) ≡ ran k x
  abandoned_by o r h = rw (o, r, h)

abbrev pub comes_to : Vm → Stores → Lent → RunCall → Part
comes_to m s l begins = begin_of (world_of m s l) (machine_in m l)
comes_to m s l (continues u) = continue_of (world_of m s l) (under_in m l) u
comes_to m s l abandons = ends (abandon_of (world_of m s l) (under_in m l))

-- the copy store as it is then
abbrev pub copy_left : Vm → Lent → RunCall → List ℕ
copy_left m l begins = written l.copy 0 (take (2 * m.stack) l.stack)
copy_left m l (continues u) = l.copy
copy_left m l abandons = l.copy

module _ (m : Vm) (s : Stores) (l : Lent) where
  pub answers : (c : RunCall) → Granted c m s l → run_answer c m s l ≡ ran (unchanged m) (comes_to m s l c)
  unfolding run_answer begin_answer continue_answer abandon_answer
  answers begins g = begun_by (unchanged m) _ g.order g.fits.0 g.fits.1
  answers (continues u) g =
      let few : m.run.given + u ≤ 0xFFFF_FFFF_FFFF_FFFF = let z = g.fits.1.1 in omega arith in
      continued_by (unchanged m) _ g.order g.fits.0 g.fits.1.0 (le-ltb _ _ few)
  answers abandons g = abandoned_by (unchanged m) _ g.order g.fits.0 g.fits.1

  pub part_sane : (c : RunCall) → Granted c m s l → CodeBytes s → SanePart (world_of m s l) (comes_to m s l c)
  part_sane begins g b = begun_sane (world_of m s l) (order_world m s l g.order b) (machine_in m l) (order_sane m s l g.order 0)
  part_sane (continues u) g b = continued_sane (world_of m s l) (order_world m s l g.order b) (under_in m l) (order_under m s l g.order g.fits.0) u
  part_sane abandons g b = abandoned_sane (world_of m s l) (order_world m s l g.order b) (under_in m l) (order_under m s l g.order g.fits.0)

  -- ---- its contract

  copy_is : (c : RunCall) → Granted c m s l → copy_left m l c ≡ copy_after c m s l
  unfolding copy_after copied
  copy_is begins g = let e : begin_answer m s l ≡ ran (unchanged m) (comes_to m s l begins) = unfold run_answer in answers begins g in rw e
  copy_is (continues u) g = refl
  copy_is abandons g = refl

  pub posted : (c : RunCall) → Granted c m s l → {x : Part} → comes_to m s l c ≡ x → (r : Result Halt Refusal) (l' : Lent) → mc.answer_in l' r ≡ ran (unchanged m) x
      → l'.copy ≡ copy_left m l c → l'.backtrace ≡ written l.backtrace 0 (entry_words (trace_of_part x)) → SameRooms l l' → Left s l r l' → RunPost c m s l r l'
  unfolding trace_after
  posted c g q r l' a e b x z = record {
    answer = rw (answers c g, q) a;
    copy = rw (e) (copy_is c g);
    backtrace = rw (answers c g, q) b;
    rooms = x;
    left = z;
  }

-- ---- what is left is in good order: m' over l', beside m over l

module _ {m m' : Vm} {l l' : Lent} (s : Stores) (order : run_order m s l ≡ true) (beside : Beside m l m' l') (exact : Exact m' l') where
  pub leaves_idle : m'.run ≡ no_run → SaneMachine (world_of m s l) (machine_in m' l') → Leaves false m' s l'
  leaves_idle idle sane = record { order = sane_order s _ 0 order beside exact (sane 0) (idle_to m' s l' idle); run = rw idle }

  pub leaves_under : m'.run.on ≡ true → PausedExact m' l' → SaneUnder (world_of m s l) (under_in m' l') → Leaves true m' s l'
  leaves_under on paused sane =
      let program : program_ok m'.program s ≡ true = rw beside.program (order_of_lem m s l order).program in
      let part = a_paused_run_is_in_order m' s l' program paused (rw (same_world s beside) sane) on in
      let stands : Sane (world_of m s l) (under_in m' l').state = sane.state in
      record { order = sane_order s m'.run.spent (m'.run.given - m'.run.spent) order beside exact (unfold under_in in stands) part; run = on }
