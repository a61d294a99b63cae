-- `cells::weigh` meets its contract.
use mathlib.Core.Path.{refl, subst, ap}
use Prim.Native.Nat.{ℕ, ◌<◌}
use native.Mathlib.Omega.{arith}
use borrow.Author.Rules.{rules}
use Rattle.cells.proofs.Turns.{rank, inside, room_p, room_q, counts_differ, numbers_differ, turn_start, no_units, room_x, room_y, falls as falls-in, asked, differs, ran_out, again, said_is, finish}
use Rattle.cells.specs.Links.{as_option}
use Rattle.cells.proofs.+weigh.Goals as goal

pub compare-requires : goal.compare-requires
compare-requires t c = inside _ _ _ _ _ c.requires

pub read_header-h-requires : goal.read_header-h-requires
read_header-h-requires t c = search (rules, room_p)

pub read_header-k-requires : goal.read_header-k-requires
read_header-k-requires t c = search (rules, room_q)

pub returns-then-count-k : goal.returns-then-count-k
returns-then-count-k t c = search (rules, counts_differ)

pub returns-then-h-k : goal.returns-then-h-k
returns-then-h-k t c = search (rules, numbers_differ)

pub loop-i-init : goal.loop-i-init
loop-i-init t c = search (rules, turn_start)

pub returns-then-rest-eq0 : goal.returns-then-rest-eq0
returns-then-rest-eq0 t c = search (rules, no_units)

pub overflow_add-first : goal.overflow_add-first
overflow_add-first t c = search (room_x, rules)

pub overflow_add-first-in-loop-i : goal.overflow_add-first-in-loop-i
overflow_add-first-in-loop-i t c =
    let r =
    room_x _ _ _ _ _ c.requires _ c.compare.ensures _ _ c.in-Blocks.is _ _
    c.read_header-h.ensures c.read_header-k.ensures c.if-count-k.false c.if-h-k.false _ _ _
    c.loop-i.invariant c.loop-i-test.true in
    omega arith

pub read_value-x-requires : goal.read_value-x-requires
read_value-x-requires t c =
    room_x _ _ _ _ _ c.requires _ c.compare.ensures _ _ c.in-Blocks.is _ _
    c.read_header-h.ensures c.read_header-k.ensures c.if-count-k.false c.if-h-k.false _ _ _
    c.loop-i.invariant c.loop-i-test.true

pub overflow_add-second : goal.overflow_add-second
overflow_add-second t c = search (room_y, rules)

pub overflow_add-second-in-loop-i : goal.overflow_add-second-in-loop-i
overflow_add-second-in-loop-i t c =
    let r =
    room_y _ _ _ _ _ c.requires _ c.compare.ensures _ _ c.in-Blocks.is _ _
    c.read_header-h.ensures c.read_header-k.ensures c.if-count-k.false c.if-h-k.false _ _ _
    c.loop-i.invariant c.loop-i-test.true in
    omega arith

pub read_value-y-requires : goal.read_value-y-requires
read_value-y-requires t c =
    room_y _ _ _ _ _ c.requires _ c.compare.ensures _ _ c.in-Blocks.is _ _
    c.read_header-h.ensures c.read_header-k.ensures c.if-count-k.false c.if-h-k.false _ _ _
    c.loop-i.invariant c.loop-i-test.true

pub weigh-requires : goal.weigh-requires
weigh-requires t c = (
  subst (λ (j : ℕ). rank c.read_value-x.result < j) c.decreases
      (falls-in _ _ _ _ _ c.requires _ c.compare.ensures _ _ c.in-Blocks.is _ _
      c.read_header-h.ensures c.read_header-k.ensures c.if-count-k.false c.if-h-k.false
      _ _ _ c.loop-i.invariant c.loop-i-test.true _ _ c.read_value-x.ensures
      c.read_value-y.ensures),
  asked _ _ _ _ _ c.requires _ c.compare.ensures _ _ c.in-Blocks.is _ _
      c.read_header-h.ensures c.read_header-k.ensures c.if-count-k.false c.if-h-k.false
      _ _ _ c.loop-i.invariant c.loop-i-test.true _ _ c.read_value-x.ensures
      c.read_value-y.ensures,
)

pub returns-then-not-alike : goal.returns-then-not-alike
returns-then-not-alike t c =
    differs _ _ _ _ _ c.requires _ c.compare.ensures _ _ c.in-Blocks.is _ _
    c.read_header-h.ensures c.read_header-k.ensures c.if-count-k.false c.if-h-k.false _ _ _
    c.loop-i.invariant c.loop-i-test.true _ _ c.read_value-x.ensures
    c.read_value-y.ensures _ refl c.if-rest-eq0.false _ c.weigh.ensures _ _
    (ap as_option c.in-Done.is) (search rules)

pub returns-in_default : goal.returns-in_default
returns-in_default t c =
    ran_out _ _ _ _ _ c.requires _ c.compare.ensures _ _ c.in-Blocks.is _ _
    c.read_header-h.ensures c.read_header-k.ensures c.if-count-k.false c.if-h-k.false _ _ _
    c.loop-i.invariant c.loop-i-test.true _ _ c.read_value-x.ensures
    c.read_value-y.ensures _ refl c.if-rest-eq0.false _ c.weigh.ensures
    (ap as_option c.in_default.is)

pub loop-i-preserved : goal.loop-i-preserved
loop-i-preserved t c =
    again _ _ _ _ _ c.requires _ c.compare.ensures _ _ c.in-Blocks.is _ _
    c.read_header-h.ensures c.read_header-k.ensures c.if-count-k.false c.if-h-k.false _ _ _
    c.loop-i.invariant c.loop-i-test.true _ _ c.read_value-x.ensures
    c.read_value-y.ensures _ refl c.if-rest-eq0.false _ c.weigh.ensures _ _
    (ap as_option c.in-Done.is) (search rules)

pub returns-in-Said : goal.returns-in-Said
returns-in-Said t c = search (rules, said_is)

pub returns-after-loop-i : goal.returns-after-loop-i
returns-after-loop-i t c = search (rules, finish)
