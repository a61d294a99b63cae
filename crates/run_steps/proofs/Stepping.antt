-- One step: the opcode is fetched and decoded, its operands are read, and the instruction is executed.
use mathlib.Core.Path.{◌≡◌, refl, sym, ◌∙◌}
use mathlib.Core.Bool.{Bool, true, false, ◌&&◌}
use mathlib.Core.List.{List, [], ◌∷◌}
use Prim.Native.Nat.{ℕ, zero, suc, ◌+◌, ◌-◌, ◌*◌, ◌≤◌, ◌<◌}
use native.Mathlib.Numerals.{add-one}
use native.Mathlib.Omega.{arith}
use borrow.Author.Tests.{leb-true, le-leb, lt-leb, ne_eqb}
use lib.Dec.{leb}
use lib.ListN.{length, get_or}
use Rattle.model.specs.declared.Value.TheVariants as v
use Rattle.model.specs.declared.Op.{Op}
use Rattle.model.specs.declared.Decoded.{Decoded}
use Rattle.model.specs.declared.Decoded.TheVariants as d
use Rattle.model.specs.declared.Fault.{Fault}
use Rattle.model.specs.declared.Fault.TheVariants as f
use Rattle.model.specs.Basics.{ascii}
use Rattle.model.specs.Values.{vals, value_at}
use Rattle.model.specs.Heap.{heap_of, placed_below}
use Rattle.model.specs.Opcodes.{Opcode, operands, opcode_at, opcodes}
use Rattle.model.specs.Programs.{word_at}
use Rattle.model.specs.Steps.{World, State, Outcome, faulted, code_of, exec_of, operands_then, decoded_then, fetched, step_of}
use Rattle.value.proofs.Stores.{length_vals, vals_slot}
use Rattle.cells.proofs.Stands.{length_heap}
use Rattle.layout.specs.Links.{names_lent}
use Rattle.layout.proofs.Bools.{and_left, and_right}
use Rattle.laws_runs.proofs.Spends.{no_units}
use Rattle.laws_runs.proofs.Placed.{all_at}
use Rattle.laws_runs.proofs.Keeps.{code_fits}
use Rattle.run_arms.specs.declared.Fixed.{Fixed}
use Rattle.run_arms.specs.declared.Going.{Going}
use Rattle.run_arms.specs.declared.Answer.{Answer}
use Rattle.run_arms.specs.declared.Answer.TheVariants.{Stopped, Short}
use Rattle.run_arms.specs.Links.{Around, state_of, Within, CellsWithin, Blocks, BlockPost}
use Rattle.run_arms.proofs.Posts.{refused}
use Rattle.run_blocks.proofs.Cellwise.{arm_block}
use Rattle.run_steps.specs.Links.{Ready}

-- the machine at position i, where the run has spent e units
abbrev pub placed_at : ℕ → ℕ → Going → Going
placed_at i e g = record {
  sp = g.sp;
  function = g.function;
  position = i;
  base = g.base;
  callers = g.callers;
  used = g.used;
  spent = e;
  kind = g.kind;
  payload = g.payload;
  mark = g.mark;
  returns = g.returns;
}

-- ---- units

-- of n units given none are left exactly where as many are spent, or more
none_left : {n m : ℕ} → n ≤ m → n - m ≡ 0
none_left h = omega arith

some_left : {n m : ℕ} → m < n → n - m ≡ 0 → ⊥
some_left h e = omega arith

-- one that is spent is no longer left
one_spent : (n m : ℕ) → n - (m + 1) ≡ n - m - 1
one_spent n m = omega arith

-- ---- operands

-- no opcode reads more than three operands
reads_few : List Opcode → Bool
reads_few [] = true
reads_few (c ∷ cs) = leb (operands c) 3 && reads_few cs

few_at : (cs : List Opcode) → reads_few cs ≡ true → (n : ℕ) (c : Opcode) → operands c ≤ 3 → operands (get_or cs n c) ≤ 3
unfolding reads_few
few_at [] h n c l = l
few_at (b ∷ cs) h zero c l = leb-true _ _ (and_left _ _ h)
few_at (b ∷ cs) h (suc n) c l = few_at cs (and_right (leb (operands b) 3) _ h) n c l

pub read_few : (byte : ℕ) {n : ℕ} → n ≡ operands (opcode_at byte) → n ≤ 3
unfolding ascii operands opcodes opcode_at reads_few
read_few byte e = rw e (few_at opcodes refl byte _ (omega arith))

-- what is known at another position, with other units spent, is what was known
module _ {g : Going} (i e : ℕ) where
  still : {k : Fixed} {s : List ℕ} → Within k g s → Within k (placed_at i e g) s
  still h = record { count = h.count; room = h.room; exact = h.exact; callers = h.callers }

  cells_still : {x : List ℕ} → CellsWithin g x → CellsWithin (placed_at i e g) x
  cells_still h = record { count = h.count; exact = h.exact }

  -- the rule goes on from there as another
  goes_on_lem : {rule other : State → Outcome} {k : Fixed} {s x : List ℕ} {r : Answer} {t y : List ℕ}
      → ((ar : Around) → rule (state_of k g s x ar) ≡ other (state_of k (placed_at i e g) s x ar))
      → BlockPost other k (placed_at i e g) s x r t y → BlockPost rule k g s x r t y
  goes_on_lem q p = record {
    means = λ ar h. p.means ar h ∙ sym (q ar);
    within = p.within;
    kept = record { callers = p.kept.callers; mark = p.kept.mark; returns = p.kept.returns };
    cells = p.cells;
    before = p.before;
    caller = p.caller;
    unwritten = p.unwritten;
  }

module _ {w : World} {ar : Around} {k : Fixed} {g : Going} {code constants functions text s x : List ℕ} (at : Ready w ar k g code constants functions text s x) where
  pub code_short : length code ≤ 65535
  code_short = rw at.coded at (code_fits w.functions at.lent.sane.codes g.function)

  text_is : w.text ≡ text
  unfolding names_lent
  text_is = at.lent.named.text

  placed_at_lem : (j : ℕ) → j < g.sp → placed_below (length text) (heap_of g.used x) g.used (value_at s j) ≡ true
  placed_at_lem j h =
      rw (text_is, length_heap, vals_slot g.sp s j (v.Boolean false) h) at
      (all_at (length w.text) (heap_of g.used x) (vals g.sp s) at.sane.placed (g.sp - suc j) (let z = length_vals g.sp s in omega arith))

  -- what an instruction leans on
  pub blocks_at : (i e : ℕ) → e < k.given → Blocks (length text) k (placed_at i (e + 1) g) s x
  blocks_at i e h = record {
    stack = still i (e + 1) at.fits.stack;
    cells = cells_still i (e + 1) at.fits.cells;
    good = rw text_is at at.sane.heap;
    placed = placed_at_lem;
    spent = omega arith;
  }

  pub base_fits : g.base ≤ k.slots
  base_fits = rw at.lent.suits.stack_room at at.sane.frame.base

  pub unpaid : k.given ≤ g.spent → BlockPost (step_of w) k g s x (Short g) s x
  unpaid h = record {
    means = λ ar c. sym (no_units w _ (none_left h));
    within = at.fits.stack;
    kept = record { callers = refl; mark = refl; returns = refl };
    cells = at.fits.cells;
    before = λ n i. refl;
    caller = tt;
    unwritten = (refl, refl);
  }

  module _ (some : g.spent < k.given) {byte : ℕ} (read : byte ≡ get_or code g.position 0) where
    -- what was fetched, and how many operands follow it
    fetched_at_lem : {what : Decoded} → what ≡ (opcode_at byte).what → {n : ℕ} → n ≡ operands (opcode_at byte) → (ar : Around)
        → step_of w (state_of k g s x ar) ≡ decoded_then w what n (state_of k (placed_at (g.position + 1) (g.spent + 1) g) s x ar)
    unfolding step_of fetched code_of
    fetched_at_lem e m ar =
        rw (e, m, ne_eqb (k.given - g.spent) 0 (some_left some), one_spent k.given g.spent, at.coded, ← read, add-one g.position)

    -- no instruction, or not all of it
    pub unread : {what : Decoded} → what ≡ (opcode_at byte).what → {n : ℕ} → n ≡ operands (opcode_at byte) → {m : Fault}
        → ((st : State) → code_of w st ≡ code → st.frame.position ≡ g.position + 1 → decoded_then w what n st ≡ faulted m st)
        → BlockPost (step_of w) k g s x (Stopped (placed_at (g.position + 1) (g.spent + 1) g) m) s x
    unfolding code_of
    unread e r {m} h =
        goes_on_lem (g.position + 1) (g.spent + 1) (λ ar. fetched_at_lem e r ar ∙ h _ at.coded refl)
        (arm_block (cells_still _ _ at.fits.cells) (refused (still _ _ at.fits.stack) {rule = faulted m} (λ x ar h. refl)))

    module _ {o : Op} (e : d.Carried o ≡ (opcode_at byte).what) {n : ℕ} (m : n ≡ operands (opcode_at byte)) where
      pub cut_short : length code < g.position + 1 + 2 * n → BlockPost (step_of w) k g s x (Stopped (placed_at (g.position + 1) (g.spent + 1) g) f.CodeEnds) s x
      unfolding decoded_then operands_then
      cut_short h = unread e m (λ st c p. rw (c, p, lt-leb (g.position + 1 + 2 * n) (length code) h))

      pub carried : g.position + 1 + 2 * n ≤ length code → {a b : ℕ} → a ≡ word_at code (g.position + 1) → b ≡ word_at code (g.position + 1 + 2) → {r : Answer} {t y : List ℕ}
          → BlockPost (exec_of w o a b) k (placed_at (g.position + 1 + 2 * n) (g.spent + 1) g) s x r t y → BlockPost (step_of w) k g s x r t y
      unfolding decoded_then operands_then code_of
      carried h p q z =
          goes_on_lem (g.position + 1 + 2 * n) (g.spent + 1)
          (λ ar. fetched_at_lem e m ar ∙ rw (at.coded, le-leb (g.position + 1 + 2 * n) (length code) h, ← p, ← q)) z
