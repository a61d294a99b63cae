-- A machine in good order fixes its counts, and the words and frames below them.
use mathlib.Core.Path.{◌≡◌, sym, ap, subst, ◌∙◌}
use mathlib.Core.Bool.{true, false}
use mathlib.Core.List.{List, [], ◌∷◌, ◌++◌, reverse, reverse-reverse}
use Prim.Native.Nat.{ℕ, suc, ◌+◌, ◌-◌, ◌*◌, ◌/◌, ◌%◌, ◌≤◌, ◌<◌, min}
use native.Mathlib.Omega.{arith}
use borrow.Author.Tests.{leb-true, eqb-true, eqb-false}
use lib.Dec.{leb, eqb}
use lib.ListN.{length, get_or, take, length-take, length-reverse}
use lib.Seq.{get_or-take, ext_get_or, length-take-le, take-suc}
use Rattle.model.specs.declared.Vm.{Vm}
use Rattle.model.specs.declared.Frame.{Frame}
use Rattle.model.specs.declared.Value.{Value}
use Rattle.model.specs.declared.Value.TheVariants as v
use Rattle.model.specs.Values.{places, most_places, kind, payload, kind_at, payload_at, value_at, vals, exact_value}
use Rattle.model.specs.Heap.{Cell, item, cell_kind, cell_payload, cell_at, cells_from, heap_of, exact_cell, exact_cells}
use Rattle.model.specs.Runs.{Machine, standing as state_of, machine_of, root, Under}
use Rattle.model.specs.Stores.{Stores, functions_from, world_in}
use Rattle.model.specs.Orders.{stack_ok, frames_ok, frame_store_ok}
use Rattle.model.specs.Machines.{Lent, innermost, callers_in, machine_in, progress_in, under_in, world_of, run_order, Unchanged, unchanged, no_run}
use Rattle.value.proofs.Coding.{and_left, exact_kind, exact_payload, exact_cell_kind, exact_cell_payload}
use Rattle.value.proofs.Stores.{length_vals, vals_slot, get_d_cells}
use Rattle.cells.proofs.Stands.{length_heap, exact_at_lem}
use Rattle.layout.proofs.Bools.{either_way}
use Rattle.image_load.proofs.Loads.{two_words}
use Rattle.laws_runs.specs.Ordered.{Exact}
use Rattle.laws_runs.proofs.Ordered.{order_of_lem, order_sane, order_exact, idle_of, under_of_lem, slots_of, stack_of}
use Rattle.demands.specs.Agree.{Alike, Rooms, LentAlike}
use Rattle.std.specs.Prelude.{None}

-- ---- words

module _ (c : ℕ) (a b : List ℕ) (fits : 2 * c ≤ length a) (room : length a ≡ length b) where
  module _ (ks : (i : ℕ) → i < c → kind_at a i ≡ kind_at b i) (ps : (i : ℕ) → i < c → payload_at a i ≡ payload_at b i) where
    word_same : (i : ℕ) → i < 2 * c → get_or a i 0 ≡ get_or b i 0
    unfolding kind_at payload_at
    word_same i h = either_way (eqb (i % 2) 0)
        (λ e. let z : i ≡ 2 * (i / 2) = omega (arith, eqb-true (i % 2) 0 e) in subst (λ (j : ℕ). get_or a j 0 ≡ get_or b j 0) (sym z) (ks (i / 2) (omega arith)))
        (λ e. let n : i % 2 ≡ 0 → ⊥ = eqb-false (i % 2) 0 e in let z : i ≡ 2 * (i / 2) + 1 = odd i n in subst (λ (j : ℕ). get_or a j 0 ≡ get_or b j 0) (sym z) (ps (i / 2) (omega arith)))
      where
        odd : (i : ℕ) → (i % 2 ≡ 0 → ⊥) → i ≡ 2 * (i / 2) + 1
        odd i n = omega arith

    pub words_alike : Alike (2 * c) a b
    words_alike = record {
      front = ext_get_or 0 (take (2 * c) a) (take (2 * c) b) (length-take-le (2 * c) a fits ∙ sym (length-take-le (2 * c) b (omega arith)))
          (λ i h. let l : i < 2 * c = omega (arith, length-take-le (2 * c) a fits) in get_or-take (2 * c) a i 0 l ∙ word_same i l ∙ sym (get_or-take (2 * c) b i 0 l));
      room = room;
    }

  -- exact words are fixed by their values
  pub values_fix : ((i : ℕ) → i < c → exact_value (kind_at a i) (payload_at a i) ≡ true) → ((i : ℕ) → i < c → exact_value (kind_at b i) (payload_at b i) ≡ true) → vals c a ≡ vals c b → Alike (2 * c) a b
  unfolding value_at
  values_fix p q e =
      let same : (i : ℕ) → i < c → value_at a i ≡ value_at b i =
      (λ i h. sym (vals_slot c a i (v.Boolean false) h) ∙ ap (λ (l : List Value). get_or l (c - suc i) (v.Boolean false)) e ∙ vals_slot c b i (v.Boolean false) h) in
      words_alike (λ i h. kinds i (p i h) (q i h) (same i h)) (λ i h. payloads i (p i h) (q i h) (same i h))
    where
      kinds : (i : ℕ) → exact_value (kind_at a i) (payload_at a i) ≡ true → exact_value (kind_at b i) (payload_at b i) ≡ true → value_at a i ≡ value_at b i → kind_at a i ≡ kind_at b i
      kinds i p q e = exact_kind (kind_at a i) (payload_at a i) p ∙ ap kind e ∙ sym (exact_kind (kind_at b i) (payload_at b i) q)

      payloads : (i : ℕ) → exact_value (kind_at a i) (payload_at a i) ≡ true → exact_value (kind_at b i) (payload_at b i) ≡ true → value_at a i ≡ value_at b i → payload_at a i ≡ payload_at b i
      payloads i p q e = exact_payload (kind_at a i) (payload_at a i) p ∙ ap payload e ∙ sym (exact_payload (kind_at b i) (payload_at b i) q)

  -- and those of cells by their cells
  pub cells_fix : exact_cells c 0 a ≡ true → exact_cells c 0 b ≡ true → heap_of c a ≡ heap_of c b → Alike (2 * c) a b
  unfolding heap_of exact_cells cell_at
  cells_fix p q e =
      let d : Cell = item (v.Boolean false) in
      let same : (i : ℕ) → i < c → cell_at a i ≡ cell_at b i = (λ i h. let z : 0 + i ≡ i = omega arith in rw z at
      (sym (get_d_cells c 0 a i d h) ∙ ap (λ (l : List Cell). get_or l i d) e ∙ get_d_cells c 0 b i d h)) in
      words_alike (λ i h. kinds i (exact_at_lem c a p i h) (exact_at_lem c b q i h) (same i h)) (λ i h. payloads i (exact_at_lem c a p i h) (exact_at_lem c b q i h) (same i h))
    where
      kinds : (i : ℕ) → exact_cell (kind_at a i) (payload_at a i) ≡ true → exact_cell (kind_at b i) (payload_at b i) ≡ true → cell_at a i ≡ cell_at b i → kind_at a i ≡ kind_at b i
      kinds i p q e = exact_cell_kind (kind_at a i) (payload_at a i) p ∙ ap cell_kind e ∙ sym (exact_cell_kind (kind_at b i) (payload_at b i) q)

      payloads : (i : ℕ) → exact_cell (kind_at a i) (payload_at a i) ≡ true → exact_cell (kind_at b i) (payload_at b i) ≡ true → cell_at a i ≡ cell_at b i → payload_at a i ≡ payload_at b i
      payloads i p q e = exact_cell_payload (kind_at a i) (payload_at a i) p ∙ ap cell_payload e ∙ sym (exact_cell_payload (kind_at b i) (payload_at b i) q)

-- ---- frames

module _ (n : ℕ) (fs : List Frame) (some : 1 ≤ n) (fits : n ≤ length fs) where
  pub counted : suc (length (callers_in n fs)) ≡ n
  unfolding callers_in
  counted = simp (length-reverse, length-take) (omega arith)

  pub split : take n fs ≡ reverse (callers_in n fs) ++ innermost n fs ∷ []
  unfolding callers_in innermost
  split = let z : n ≡ suc (n - 1) = omega arith in ap (λ (k : ℕ). take k fs) z ∙ take-suc fs (n - 1) (root 0) (omega arith) ∙ rw (reverse-reverse (take (n - 1) fs))

-- ---- a machine in good order

pub record Standing (m : Vm) (l : Lent) : Type 0 where
  pub stack : 2 * m.stack ≤ length l.stack
  pub cells : 2 * m.cells ≤ length l.cells
  pub frames : m.frames ≤ length l.frames
  pub exact : Exact m l
  pub copy : 2 * m.run.saved ≤ length l.copy
  pub saved : (i : ℕ) → i < m.run.saved → exact_value (kind_at l.copy i) (payload_at l.copy i) ≡ true

-- values in order: there is room for them, in exact words
values_stand : (t : ℕ) (H : List Cell) (n : ℕ) (a : List ℕ) → stack_ok t H n a ≡ true
    → (2 * n ≤ length a) × ((i : ℕ) → i < n → exact_value (kind_at a i) (payload_at a i) ≡ true)
values_stand t H n a e = (two_words n a (stack_of t H n a e).0, λ i h. (slots_of t H n a e i h).0)

-- what is judged of the copy
record Saving (m : Vm) (l : Lent) : Type 0 where
  copy : 2 * m.run.saved ≤ length l.copy
  saved : (i : ℕ) → i < m.run.saved → exact_value (kind_at l.copy i) (payload_at l.copy i) ≡ true

saving : (m : Vm) (s : Stores) (l : Lent) → run_order m s l ≡ true → Saving m l
saving m s l e = either_way m.run.on
    (λ on.
    let o = under_of_lem m s l e on in
    let z = values_stand m.program.text (heap_of m.run.mark l.cells) m.run.saved l.copy o.copy in
    record { copy = z.0; saved = z.1 })
    (λ off. let q = idle_of m s l e off in record {
      copy = rw q (omega arith);
      saved = rw q (λ i h. absurd (let z : ⊥ = omega arith in z));
    })

pub stack_fits : (m : Vm) (s : Stores) (l : Lent) → run_order m s l ≡ true → m.stack ≤ places 2 l.stack
unfolding world_of world_in machine_in
stack_fits m s l e = rw (length_vals m.stack l.stack) at (order_sane m s l e 0).stack

pub standing : (m : Vm) (s : Stores) (l : Lent) → run_order m s l ≡ true → Standing m l
unfolding world_of world_in machine_in frame_store_ok
standing m s l e =
    let h = order_sane m s l e 0 in
    let x = leb m.frames (min (length l.frames) most_places) in
    let y = frames_ok (functions_from m.program.functions 0 s) (places 2 l.stack) (take m.frames l.frames) in
    let z : m.frames ≤ min (length l.frames) most_places = leb-true _ _ (and_left x y (order_of_lem m s l e).frames) in
    let c = saving m s l e in
    record {
      stack = two_words m.stack l.stack (stack_fits m s l e);
      cells = two_words m.cells l.cells (rw (length_heap m.cells l.cells) at h.cells);
      frames = omega arith;
      exact = order_exact m s l e;
      copy = c.copy;
      saved = c.saved;
    }

-- ---- the run under way holds the machine; without one it holds nothing else

pub machine_under : (m m' : Vm) (l l' : Lent) → under_in m l ≡ under_in m' l' → machine_in m l ≡ machine_in m' l'
unfolding under_in machine_in
machine_under m m' l l' e = ap (λ (r : Under). machine_of r.state) e

abbrev resting : Machine → Under
resting x = record { given = 0; start = []; progress = record { answer = None; returns = 0; heap = []; last = x.last }; state = state_of x 0 0 }

idle_rests : (m : Vm) (l : Lent) → m.run ≡ no_run → under_in m l ≡ resting (machine_in m l)
unfolding under_in progress_in machine_in vals heap_of cells_from
idle_rests m l e = rw e

pub idle_under : (m m' : Vm) (l l' : Lent) → m.run ≡ no_run → m'.run ≡ no_run → machine_in m l ≡ machine_in m' l' → under_in m l ≡ under_in m' l'
idle_under m m' l l' p q e = idle_rests m l p ∙ ap resting e ∙ sym (idle_rests m' l' q)

-- the same record of it
run_fixes : (m m' : Vm) (l l' : Lent) → m.run.on ≡ m'.run.on → under_in m l ≡ under_in m' l' → m.run ≡ m'.run
unfolding under_in progress_in
run_fixes m m' l l' on e =
    let given : m.run.given ≡ m'.run.given = ap (λ (r : Under). r.given) e in
    let spent : m.run.spent ≡ m'.run.spent = ap (λ (r : Under). r.state.spent) e in
    let returns : m.run.returns ≡ m'.run.returns = ap (λ (r : Under). r.progress.returns) e in
    let mark : m.run.mark ≡ m'.run.mark = sym (length_heap m.run.mark l.cells) ∙ ap (λ (r : Under). length r.progress.heap) e ∙ length_heap m'.run.mark l'.cells in
    let saved : m.run.saved ≡ m'.run.saved = sym (length_vals m.run.saved l.copy) ∙ ap (λ (r : Under). length r.start) e ∙ length_vals m'.run.saved l'.copy in
    rw (on, given, spent, returns, mark, saved)

-- the same machine of the same program and setting: the same counts
counts_fix : {m m' : Vm} {l l' : Lent} → Standing m l → Standing m' l' → unchanged m ≡ unchanged m' → m.run.on ≡ m'.run.on → under_in m l ≡ under_in m' l' → m ≡ m'
unfolding machine_in
counts_fix {m} {m'} {l} {l'} a b p on u =
    let e = machine_under m m' l l' u in
    let stack : m.stack ≡ m'.stack = sym (length_vals m.stack l.stack) ∙ ap (λ (x : Machine). length x.stack) e ∙ length_vals m'.stack l'.stack in
    let cells : m.cells ≡ m'.cells = sym (length_heap m.cells l.cells) ∙ ap (λ (x : Machine). length x.heap) e ∙ length_heap m'.cells l'.cells in
    let frames : m.frames ≡ m'.frames = sym (counted m.frames l.frames a.exact.frames a.frames)
    ∙ ap (λ (x : Machine). suc (length x.callers)) e ∙ counted m'.frames l'.frames b.exact.frames b.frames in
    let last : m.last ≡ m'.last = ap (λ (x : Machine). x.last) e in
    let run : m.run ≡ m'.run = run_fixes m m' l l' on u in
    let program : m.program ≡ m'.program = ap (λ (x : Unchanged). x.program) p in
    let strict : m.strict ≡ m'.strict = ap (λ (x : Unchanged). x.strict) p in
    rw (program, stack, cells, frames, last, run, strict)

-- and in stores of the same lengths the same below them
lent_fix : (m : Vm) {l l' : Lent} → Standing m l → Standing m l' → Rooms l l' → under_in m l ≡ under_in m l' → LentAlike m l l'
unfolding machine_in under_in
lent_fix m {l} {l'} a b r u =
    let e = machine_under m m l l' u in
    record {
      stack = values_fix m.stack l.stack l'.stack a.stack r.stack a.exact.stack b.exact.stack (ap (λ (x : Machine). x.stack) e);
      cells = cells_fix m.cells l.cells l'.cells a.cells r.cells a.exact.cells b.exact.cells (ap (λ (x : Machine). x.heap) e);
      frames = record {
        front = split m.frames l.frames a.exact.frames a.frames ∙ ap (λ (x : Machine). reverse x.callers ++ x.frame ∷ []) e
            ∙ sym (split m.frames l'.frames b.exact.frames b.frames);
        room = r.frames;
      };
      copy = values_fix m.run.saved l.copy l'.copy a.copy r.copy a.saved b.saved (ap (λ (x : Under). x.start) u);
      backtrace = r.backtrace;
    }

pub record FixedBy (m m' : Vm) (l l' : Lent) : Type 0 where
  pub vm : m ≡ m'
  pub lent : LentAlike m l l'

pub machine_fixes : {m m' : Vm} {l l' : Lent} (s s' : Stores) → run_order m s l ≡ true → run_order m' s' l' ≡ true → Rooms l l' → unchanged m ≡ unchanged m'
    → m.run.on ≡ m'.run.on → under_in m l ≡ under_in m' l' → FixedBy m m' l l'
machine_fixes {m} {m'} {l} {l'} s s' a b r p on u =
    let x = standing m s l a in
    let y = standing m' s' l' b in
    let z : m ≡ m' = counts_fix x y p on u in
    record { vm = z; lent = lent_fix m x (rw (← z) at y) r (rw (← z) at u) }
