-- What an arm ensures that is lent the cells, for each way out of an arm: equality, lists and structs.
use Rattle.std.specs.Prelude.{if◌then◌else◌, Err, None, Ok, Option, Result, Some}
use mathlib.Core.Path.{◌≡◌, refl, sym, ◌∙◌, ap}
use mathlib.Core.Bool.{Bool, true, false, not}
use mathlib.Core.List.{List, ◌∷◌}
use Prim.Native.Nat.{ℕ, zero, suc, ◌+◌, ◌-◌, ◌*◌, ◌≤◌, ◌<◌}
use native.Mathlib.Omega.{arith}
use borrow.Author.Tests.{lt-ltb, le-ltb, leb-true}
use lib.Dec.{leb}
use lib.ListN.{length}
use lib.Seq.{take-append-le}
use Rattle.model.specs.declared.Value.{Value}
use Rattle.model.specs.declared.Value.TheVariants as v
use Rattle.model.specs.declared.Fault.{Fault}
use Rattle.model.specs.declared.Fault.TheVariants as f
use Rattle.model.specs.Values.{places, vals, value_at, if_struct}
use Rattle.model.specs.Heap.{item, heap_of, field_of, list_elements, placed_below}
use Rattle.model.specs.Equality.{Same, same, same_of}
use Rattle.model.specs.Steps.{World, State, Outcome, went, faulted, short, with_stack, paid, pushing, on_found, on_same, equal_step, on_built, build_step, struct_step, field_step}
use Rattle.value.specs.Links.{Written, pop_of}
use Rattle.value.proofs.Stores.{length_vals, vals_drop}
use Rattle.value.proofs.Operands.{got_some}
use Rattle.cells.specs.Links.{elements_of, TopPre, Took, BuildPost, FieldPre, verdict, EqualPre}
use Rattle.cells.proofs.Frame.{grown_of}
use Rattle.cells.proofs.Stands.{length_heap, heap_cut}
use Rattle.run_arms.specs.declared.Fixed.{Fixed}
use Rattle.run_arms.specs.declared.Going.{Going}
use Rattle.run_arms.specs.declared.Answer.{Answer}
use Rattle.run_arms.specs.declared.Answer.TheVariants.{Went, Returned, Call, Back, Stopped, Short}
use Rattle.run_arms.specs.Links.{Around, state_of, Within, Suits, Kept, Paid, Unwritten, ArmPost, CellsWithin, Blocks, BlockPost, verdict_by, built_by}
use Rattle.run_arms.proofs.Keeping.{fewer}
use Rattle.run_arms.proofs.Rules.{no_top, top}
use Rattle.run_arms.proofs.Posts.{with_count, One, refused, settled, one_none, one_wrong}

-- the machine of a run that has spent e units
abbrev pub with_spent : ℕ → Going → Going
with_spent e g = record {
  sp = g.sp;
  function = g.function;
  position = g.position;
  base = g.base;
  callers = g.callers;
  used = g.used;
  spent = e;
  kind = g.kind;
  payload = g.payload;
  mark = g.mark;
  returns = g.returns;
}

-- the machine with u cells taken
abbrev pub with_used : ℕ → Going → Going
with_used u g = record {
  sp = g.sp;
  function = g.function;
  position = g.position;
  base = g.base;
  callers = g.callers;
  used = u;
  spent = g.spent;
  kind = g.kind;
  payload = g.payload;
  mark = g.mark;
  returns = g.returns;
}

-- the rule goes another way to the same outcome
pub same_block : {rule other : State → Outcome} {k : Fixed} {g : Going} {s x : List ℕ} {r : Answer} {t y : List ℕ}
    → ((ar : Around) → other (state_of k g s x ar) ≡ rule (state_of k g s x ar)) → BlockPost rule k g s x r t y → BlockPost other k g s x r t y
same_block e p = record { means = λ ar h. p.means ar h ∙ sym (e ar); within = p.within; kept = p.kept; cells = p.cells; before = p.before; caller = p.caller; unwritten = p.unwritten }

-- ---- an arm that ends as one does that is lent the stack alone

paid_written : (r : Answer) (s x s' x' : List ℕ) → Paid r → Unwritten r s x s' x'
paid_written (Went g) s x s' x' h = tt
paid_written (Returned c) s x s' x' h = tt
paid_written (Call g i b) s x s' x' h = tt
paid_written (Back g) s x s' x' h = tt
paid_written (Stopped g n) s x s' x' h = tt
paid_written (Short g) s x s' x' h = absurd h

module _ {rule other : State → Outcome} {k : Fixed} {g : Going} {s x : List ℕ} {r : Answer} {t : List ℕ} where
  -- it goes on from the machine h and the cells y, in which those that were taken stay
  pub goes_on_lem : {h : Going} {y : List ℕ} → ((ar : Around) → rule (state_of k g s x ar) ≡ other (state_of k h s y ar)) → Kept g h → CellsWithin h y
      → ((n : ℕ) → n ≤ g.used → heap_of n y ≡ heap_of n x) → ArmPost other k h s r t → BlockPost rule k g s x r t y
  goes_on_lem {y = y} e q c b p = record {
    means = λ ar d. p.means y ar (d ∙ sym q.callers) ∙ sym (e ar);
    within = p.within;
    kept = record { callers = p.kept.callers ∙ q.callers; mark = p.kept.mark ∙ q.mark; returns = p.kept.returns ∙ q.returns };
    cells = record { count = rw p.used c.count; exact = rw p.used c.exact };
    before = b;
    caller = p.caller;
    unwritten = paid_written r s x t y p.paid;
  }

  -- or from where it is
  pub stands : CellsWithin g x → ((ar : Around) → rule (state_of k g s x ar) ≡ other (state_of k g s x ar)) → ArmPost other k g s r t → BlockPost rule k g s x r t x
  stands c e p = goes_on_lem e (record { callers = refl; mark = refl; returns = refl }) c (λ n h. refl) p

-- what an arm ensures that is lent the stack alone, said with the cells
pub arm_block : {rule : State → Outcome} {k : Fixed} {g : Going} {s x : List ℕ} {r : Answer} {t : List ℕ}
    → CellsWithin g x → ArmPost rule k g s r t → BlockPost rule k g s x r t x
arm_block c p = stands c (λ ar. refl) p

-- ---- what the values and the cells are known to be

got_at : (n : ℕ) (s : List ℕ) {p : Result Value Fault} {u : Value} → p ≡ pop_of (vals n s) → p ≡ Ok u → u ≡ value_at s (n - 1)
unfolding pop_of vals
got_at zero s e h = cc
got_at (suc n) s e h = let z : suc n - 1 ≡ n = omega arith in rw z (cc)

module _ {m : ℕ} {k : Fixed} {g : Going} {s x : List ℕ} (b : Blocks m k g s x) where
  cells_room : 2 * g.used ≤ length x
  unfolding places
  cells_room = let z = b.cells.count in omega arith

  pub cells_fit : g.used < 0x1_0000_0000
  unfolding places
  cells_fit = let z = b.cells.count in omega arith

  popped_placed : (n : ℕ) → n ≤ g.sp → {p : Result Value Fault} {u : Value} → p ≡ pop_of (vals n s) → p ≡ Ok u → placed_below m (heap_of g.used x) g.used u ≡ true
  popped_placed n l e h = rw (got_at n s e h) (b.placed (n - 1) (let z = got_some n s e h in omega arith))

-- ---- equality

-- what is done by a verdict, which says how many units are left then
abbrev by_verdict : (Bool → Bool) → List Value → State → Option (Bool × ℕ) → Outcome
by_verdict t r u (Some (a, l)) = went (with_stack (v.Boolean (t a) ∷ r) (paid (u.units - l) u))
by_verdict t r u None = short

on_verdict : (t : Bool → Bool) (r : List Value) (u : State) (z : Same) → on_same t r u z ≡ by_verdict t r u (verdict u.units z)
unfolding on_same verdict
on_verdict t r u (same a n) = on (leb n u.units) refl
  where
    on : (y : Bool) → leb n u.units ≡ y
        → (if y then went (with_stack (v.Boolean (t a) ∷ r) (paid n u)) else short)
        ≡ by_verdict t r u (if y then Some (a, u.units - n) else None)
    on true e = let z : u.units - (u.units - n) ≡ n = let l : n ≤ u.units = leb-true _ _ e in omega arith in rw z
    on false e = refl

-- no more units are left than there were
pub left_of_lem : (u : ℕ) (z : Same) {d : Option (Bool × ℕ)} {a : Bool} {l : ℕ} → d ≡ verdict u z → d ≡ Some (a, l) → l ≤ u
unfolding verdict
left_of_lem u (same b n) {d} {a} {l} e o = of (leb n u) (sym o ∙ e)
  where
    of : (y : Bool) → ◌≡◌ {A = Option (Bool × ℕ)} (Some (a, l)) (if y then Some (b, u - n) else None) → l ≤ u
    of true e = let q : ◌≡◌ {A = Bool × ℕ} (a, l) (b, u - n) = cc in let z : l ≡ u - n = ap (λ (p : Bool × ℕ). p.1) q in omega arith
    of false e = absurd (let z : ◌≡◌ {A = ℕ} 0 1 = cc in let y : ⊥ = omega arith in y)

-- the two equalities of the rules
module _ (u : World) (st : State) where
  pub equal_is : equal_step (λ x. x) u st ≡ equal_step (verdict_by false) u st
  unfolding verdict_by
  equal_is = refl

  pub not_equal_is : equal_step not u st ≡ equal_step (verdict_by true) u st
  unfolding verdict_by
  not_equal_is = refl

module _ (text : List ℕ) {k : Fixed} {g : Going} {s x : List ℕ} (b : Blocks (length text) k g s x) {p : Result Value Fault} (right : p ≡ pop_of (vals g.sp s)) where
  pub equal_none : (t : Bool → Bool) (u : World) {n : Fault} → p ≡ Err n → BlockPost (equal_step t u) k g s x (Stopped g f.TooFewValues) s x
  unfolding equal_step
  equal_none t u e = arm_block b.cells (refused b.stack (λ x ar h. no_top g.sp s right _ _ e))

  module _ {y : Value} (ey : p ≡ Ok y) {q : Result Value Fault} (left : q ≡ pop_of (vals (g.sp - 1) s)) where
    pub equal_one : (t : Bool → Bool) (u : World) {n : Fault} → q ≡ Err n → BlockPost (equal_step t u) k g s x (Stopped g f.TooFewValues) s x
    unfolding equal_step
    equal_one t u e = arm_block b.cells (refused b.stack (λ x ar h. top g.sp s right _ _ ey ∙ no_top (g.sp - 1) s left _ _ e))

    module _ {z : Value} (ez : q ≡ Ok z) where
      pub equal_pre : EqualPre text x g.used z y
      equal_pre = record {
        room = cells_room b;
        good = b.good;
        left = popped_placed b (g.sp - 1) (omega arith) left ez;
        right = popped_placed b g.sp (omega arith) right ey;
      }

      module _ {d : Option (Bool × ℕ)} (e : d ≡ verdict (k.given - g.spent) (same_of text (heap_of g.used x) z y)) (t : Bool → Bool) (u : World) (h : u.text ≡ text) where
        judged : (ar : Around) → equal_step t u (state_of k g s x ar) ≡ by_verdict t (vals (g.sp - 1 - 1) s) (state_of k g s x ar) d
        unfolding equal_step
        judged ar = top g.sp s right _ _ ey ∙ top (g.sp - 1) s left _ _ ez ∙ rw (h, e) (on_verdict t _ _ _)

        -- the answer, where the run has then spent e units
        spends : {other : State → Outcome} (e : ℕ) {r : Answer} {w : List ℕ}
            → ((ar : Around) → by_verdict t (vals (g.sp - 1 - 1) s) (state_of k g s x ar) d ≡ other (state_of k (with_spent e g) s x ar))
            → ArmPost other k (with_spent e g) s r w → BlockPost (equal_step t u) k g s x r w x
        spends e o a =
            goes_on_lem (λ ar. judged ar ∙ o ar) (record { callers = refl; mark = refl; returns = refl }) (record { count = b.cells.count; exact = b.cells.exact })
            (λ n i. refl) a

        still : (e : ℕ) → Within k (with_spent e g) s
        still e = fewer b.stack (omega arith) refl

        pub equal_out : d ≡ None → BlockPost (equal_step t u) k g s x (Short g) s x
        equal_out o = record {
          means = λ ar h. sym (judged ar ∙ rw o);
          within = b.stack;
          kept = record { callers = refl; mark = refl; returns = refl };
          cells = b.cells;
          before = λ n i. refl;
          caller = tt;
          unwritten = (refl, refl);
        }

        pub equal_done : {a c : Bool} {l : ℕ} {w : List ℕ} → d ≡ Some (a, l) → c ≡ t a → Written s (g.sp - 1 - 1) (item (v.Boolean c)) w
            → BlockPost (equal_step t u) k g s x (Went (with_count (g.sp - 1) (with_spent (k.given - l) g))) w x
        equal_done {c = c} {l = l} o i q =
            let some = got_some (g.sp - 1) s left ez in
            let h : l ≤ k.given - g.spent = left_of_lem _ (same_of text (heap_of g.used x) z y) e o in
            let spent : g.spent + (k.given - g.spent - l) ≡ k.given - l = omega (arith, b.spent) in
            let units : k.given - g.spent - (k.given - g.spent - l) ≡ k.given - (k.given - l) = omega (arith, b.spent) in
            spends {other = λ st. went (with_stack (v.Boolean c ∷ vals (g.sp - 1 - 1) s) st)} (k.given - l) (λ ar. rw (o, i, spent, units))
            (settled (still _) q (omega arith) (omega (arith, b.stack.count)) (omega arith) (λ x ar. refl))

-- ---- a field

is_struct_lem : {A : Type 0} {y : Value} {p : ℕ} → y ≡ v.StructInstance p → (j : ℕ → A) (d : A) → if_struct y j d ≡ j p
unfolding if_struct
is_struct_lem e j d = rw e

reads : (a : ℕ) → One (field_step a) if_struct (λ p r u. on_found (field_of u.heap p a) u (λ y. went (with_stack (y ∷ r) u)))
unfolding field_step
reads a = record { is = λ t. refl }

module _ {m : ℕ} {k : Fixed} {g : Going} {s x : List ℕ} (b : Blocks m k g s x) {p : Result Value Fault} (popped : p ≡ pop_of (vals g.sp s)) (a : ℕ) where
  pub field_none : {n : Fault} → p ≡ Err n → BlockPost (field_step a) k g s x (Stopped g f.TooFewValues) s x
  field_none e = arm_block b.cells (one_none b.stack popped (reads a) e)

  module _ {y : Value} (e : p ≡ Ok y) where
    pub field_wrong : ((j : ℕ → Outcome) (d : Outcome) → if_struct y j d ≡ d) → BlockPost (field_step a) k g s x (Stopped g (f.WrongKind y)) s x
    field_wrong h = arm_block b.cells (one_wrong b.stack popped (reads a) e h)

    module _ {i : ℕ} (h : y ≡ v.StructInstance i) where
      pub field_pre : FieldPre x g.used i
      field_pre = record { texts = m; room = cells_room b; good = b.good; placed = rw h at (popped_placed b g.sp (omega arith) popped e) }

      module _ {d : Result Value Fault} (o : d ≡ field_of (heap_of g.used x) i a) where
        looked : (ar : Around)
            → field_step a (state_of k g s x ar) ≡ on_found d (state_of k g s x ar) (λ y. went (with_stack (y ∷ vals (g.sp - 1) s) (state_of k g s x ar)))
        looked ar = (reads a).is _ ∙ top g.sp s popped _ _ e ∙ is_struct_lem h _ _ ∙ rw o

        pub field_bad : {n : Fault} → d ≡ Err n → BlockPost (field_step a) k g s x (Stopped g n) s x
        unfolding on_found
        field_bad {n} c = stands b.cells (λ ar. looked ar ∙ rw c) (refused b.stack {rule = faulted n} (λ x ar h. refl))

        pub field_got : {u : Value} {w : List ℕ} → d ≡ Ok u → Written s (g.sp - 1) (item u) w → BlockPost (field_step a) k g s x (Went g) w x
        unfolding on_found
        field_got {u} c q =
            let z = got_some g.sp s popped e in
            stands {other = λ st. went (with_stack (u ∷ vals (g.sp - 1) s) st)} b.cells (λ ar. looked ar ∙ rw c)
            (settled b.stack q (omega arith) (omega (arith, b.stack.count)) (omega arith) (λ x ar. refl))

-- ---- a list or a struct is built

-- the two builds of the rules
module _ (u : World) (j n : ℕ) {k : Fixed} {g : Going} {s x : List ℕ} {r : Answer} {w y : List ℕ} where
  pub builds_list : BlockPost (build_step u (built_by true) (elements_of true) j n) k g s x r w y → BlockPost (build_step u v.List list_elements j n) k g s x r w y
  unfolding built_by elements_of
  builds_list p = p

  pub builds_struct : Suits k u → j < k.structs → BlockPost (build_step u (built_by false) (elements_of false) j n) k g s x r w y
      → BlockPost (struct_step u j n) k g s x r w y
  unfolding struct_step built_by elements_of
  builds_struct c h p = same_block (λ ar. rw (lt-ltb j u.structs (let e = c.structs in omega arith))) p

module _ {m : ℕ} {k : Fixed} {g : Going} {s x : List ℕ} (b : Blocks m k g s x) (u : World) (j n : ℕ) where
  pub unknown_struct : Suits k u → k.structs ≤ j → BlockPost (struct_step u j n) k g s x (Stopped g f.OutOfRange) s x
  unfolding struct_step
  unknown_struct c h = arm_block b.cells (refused b.stack (λ x ar d. rw (c.structs, le-ltb j k.structs h)))

  pub build_few : (list : Bool) → g.sp < n → BlockPost (build_step u (built_by list) (elements_of list) j n) k g s x (Stopped g f.TooFewValues) s x
  unfolding build_step
  build_few list h = arm_block b.cells (refused b.stack (λ x ar d. rw (length_vals g.sp s, lt-ltb g.sp n h)))

module _ {m : ℕ} {k : Fixed} {g : Going} {s x : List ℕ} (b : Blocks m k g s x) {n : ℕ} (enough : n ≤ g.sp) where
  pub build_pre : n < 0x1_0000 → TopPre s g.sp n x g.used
  build_pre c = record {
    enough = enough;
    stack = let z = b.stack in omega arith;
    count = c;
    cells = cells_room b;
    held = λ i h. record { texts = m; placed = b.placed i h };
  }

  module _ {list : Bool} {j : ℕ} {d : Result ℕ Fault} {y : List ℕ} (post : BuildPost list s g.sp n j x g.used d y) where
    pub build_bad : (u : World) → u.cell_room ≡ places 2 x → {t : Fault} → d ≡ Err t
        → BlockPost (build_step u (built_by list) (elements_of list) j n) k g s x (Stopped g t) s y
    unfolding build_step on_built
    build_bad u room {t} e =
        let q : BuildPost list s g.sp n j x g.used (Err t) y = rw e at post in
        rw q.after
        (stands b.cells (λ ar. rw (length_vals g.sp s, le-ltb g.sp n enough, room, ← q.means))
        (refused b.stack {rule = faulted t} (λ x ar h. refl)))

    module _ {c : ℕ} (e : d ≡ Ok c) where
      new : BuildPost list s g.sp n j x g.used (Ok c) y
      new = rw e at post

      took : Took g.used n c x y
      took = new.after

      stay : (i : ℕ) → i ≤ g.used → heap_of i y ≡ heap_of i x
      stay i h =
          let z = took in
          heap_cut c i y (omega arith)
          ∙ rw ((grown_of _ _ _ _ _ (sym new.means)).is, take-append-le i (heap_of g.used x) _ (let l = length_heap g.used x in omega arith))
          (sym (heap_cut g.used i x h))

      pub built : (u : World) → u.cell_room ≡ places 2 x → {a : Value} → a ≡ built_by list g.used → {r : Answer} {w : List ℕ}
          → ArmPost (pushing u a) k (with_count (g.sp - n) (with_used c g)) s r w
          → BlockPost (build_step u (built_by list) (elements_of list) j n) k g s x r w y
      unfolding build_step on_built places
      built u room h p =
          let z = took in
          goes_on_lem
          (λ ar. rw (length_vals g.sp s, le-ltb g.sp n enough, room, ← new.means, length_heap g.used x, vals_drop n g.sp s, h))
          (record { callers = refl; mark = refl; returns = refl })
          (record { count = omega arith; exact = z.exact b.cells.exact })
          stay
          p
