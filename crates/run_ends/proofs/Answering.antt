-- What a run answers.
use Rattle.std.specs.Prelude.{if◌then◌else◌, None, Option, Some}
use mathlib.Core.Path.{◌≡◌, refl, sym}
use mathlib.Core.Bool.{Bool, true, false, true≢false}
use mathlib.Core.List.{List}
use Prim.Native.Nat.{ℕ, ◌+◌, ◌≤◌, ◌<◌}
use native.Mathlib.Numerals.{add-one}
use lib.Dec.{eqb}
use borrow.Author.Tests.{eq-eqb, ne_eqb, le-leb, lt-leb}
use Rattle.model.specs.declared.Vm.{Vm}
use Rattle.model.specs.declared.Value.{Value}
use Rattle.model.specs.declared.Tally.{Tally}
use Rattle.model.specs.declared.Frame.{Frame}
use Rattle.model.specs.declared.Halt.TheVariants as r
use Rattle.model.specs.Values.{payload_at, value_of}
use Rattle.model.specs.Stores.{size, code_word}
use Rattle.model.specs.Runs.{root}
use Rattle.model.specs.Machines.{some_last}
use Rattle.run_arms.specs.declared.Going.{Going}
use Rattle.value.specs.Links.{last_in}
use Rattle.run_steps.specs.Links.{answer_in}
use Rattle.run_ends.specs.Links.{vm_with, vm_begun, begun_with, vm_ended, tally_of, Answerable, result_by, ended_with, vm_paused, paused_with, settled_with, vm_faulted, faulted_with}
use Rattle.model.specs.declared.Halt.{Halt}

some_by : (none : Bool) (x : Value) → some_last (if none then None else Some x) ≡ true → (if none then None else Some x) ≡ Some x
unfolding some_last
some_by true x e = absurd (true≢false (sym e))
some_by false x e = refl

-- a last result that stands in words is their value
some_value : (k a : ℕ) → some_last (last_in k a) ≡ true → last_in k a ≡ Some (value_of k a)
unfolding last_in
some_value k a e = some_by (eqb k 7) (value_of k a) e

-- ---- the answers

module _ (m : Vm) (g : Going) {last : Option Value} (e : last ≡ last_in g.kind g.payload) {did : Tally} (t : did ≡ tally_of g) where
  module _ {left : Vm} (d : left ≡ vm_with m g.sp (g.callers + 1) g.used last) where
    pub ends_unanswered : g.returns ≡ 0 → r.Continue left did ≡ ended_with m g
    unfolding ended_with vm_ended answer_in result_by
    ends_unanswered h = rw (d, e, t, add-one, eq-eqb _ _ h)

    pub ends_answered : Answerable g → (g.returns ≡ 0 → ⊥) → {x : Value} → x ≡ value_of g.kind g.payload → r.Value left x did ≡ ended_with m g
    unfolding ended_with vm_ended answer_in result_by Answerable
    ends_answered a n h =
        let some : some_last (last_in g.kind g.payload) ≡ true = rw (ne_eqb _ _ n) at a in
        rw (d, e, t, add-one, ne_eqb _ _ n, some_value g.kind g.payload some, h)

  pub faults : {left : Vm} → left ≡ vm_with m m.run.saved 1 g.mark last → (n : ℕ) → r.Fault left n did (g.callers + 1) ≡ faulted_with m g n
  unfolding faulted_with vm_faulted
  faults d n = rw (d, e, t, add-one)

-- ---- a pause

pub pauses : (m : Vm) (u : ℕ) (g : Going) {last : Option Value} → last ≡ last_in g.kind g.payload → r.Paused (record {
  program = m.program;
  stack = g.sp;
  frames = g.callers + 1;
  cells = g.used;
  last = last;
  run = record { on = true; given = u; spent = g.spent; returns = g.returns; mark = g.mark; saved = m.run.saved };
  strict = m.strict;
}) ≡ paused_with m u g
unfolding paused_with vm_paused
pauses m u g e = rw (e, add-one)

module _ (m : Vm) (u : ℕ) (g : Going) {b : Bool} where
  pub ends_unpaused : b ≡ false → {x : Halt} → x ≡ ended_with m g → x ≡ settled_with m u g b
  unfolding settled_with
  ends_unpaused h e = rw h e

  pub pauses_unended : b ≡ true → {x : Halt} → x ≡ paused_with m u g → x ≡ settled_with m u g b
  unfolding settled_with
  pauses_unended h e = rw h e

-- ---- a beginning

module _ (m : Vm) (f : Frame) (words : List ℕ) {w n : ℕ} (e : w ≡ payload_at words f.function) (l : n ≡ size w) where
  pub over_at_once : n ≤ f.position → {left : Vm} → left ≡ vm_with m m.stack m.frames m.cells m.last
      → r.Continue left (record { spent = 0; returns = 0 }) ≡ begun_with m f words
  unfolding begun_with code_word
  over_at_once h d = rw (d, ← e, ← l, le-leb _ _ h)

  pub under_way_lem : f.position < n → r.Paused (record {
    program = m.program;
    stack = m.stack;
    frames = m.frames;
    cells = m.cells;
    last = m.last;
    run = record { on = true; given = 0; spent = 0; returns = 0; mark = m.cells; saved = m.stack };
    strict = m.strict;
  }) ≡ begun_with m f words
  unfolding begun_with vm_begun code_word
  under_way_lem h = rw (← e, ← l, lt-leb _ _ h)

-- ---- the frame that a fault leaves

pub root_is : (fs : List ℕ) {w n : ℕ} {r : Frame} → w ≡ payload_at fs 0 → n ≡ size w → r ≡ root n → r ≡ root (size (code_word fs 0))
unfolding code_word
root_is fs e f g = rw (g, f, e)
