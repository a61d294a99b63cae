-- What an arm ensures, for each way out of an arm.
use Rattle.std.specs.Prelude.{if◌then◌else◌, Err, Ok, Result}
use mathlib.Core.Path.{◌≡◌, refl, sym, ap, ◌∙◌}
use mathlib.Core.Option.{Option, none, some}
use mathlib.Core.Bool.{Bool, true, false, not, ◌&&◌}
use mathlib.Core.List.{List, [], ◌∷◌}
use Prim.Native.Nat.{ℕ, zero, suc, ◌+◌, ◌-◌, ◌≤◌, ◌<◌, min}
use native.Mathlib.Omega.{arith}
use borrow.Author.Tests.{lt-ltb, le-ltb, le-leb, lt-leb}
use lib.Ieee as Ieee
use lib.Ieee.{Float}
use lib.ListN.{length}
use Rattle.model.specs.declared.Arith.{Arith}
use Rattle.model.specs.declared.Order.{Order}
use Rattle.model.specs.declared.Value.{Value}
use Rattle.model.specs.declared.Value.TheVariants.{Scalar, Boolean, FunctionReference}
use Rattle.model.specs.declared.Fault.{Fault}
use Rattle.model.specs.declared.Fault.TheVariants as f
use Rattle.model.specs.declared.Frame.{Frame}
use Rattle.model.specs.Values.{kind, vals, popping, popping_scalar, popping_boolean, if_scalar, if_boolean, if_reference, text_at}
use Rattle.model.specs.Scalars.{arith_of, finite, result_of, zero_divisor, order_of}
use Rattle.model.specs.Heap.{item}
use Rattle.model.specs.Programs.{function_named}
use Rattle.model.specs.Emission.{told_name}
use Rattle.model.specs.Steps.{World, State, Outcome, went, faulted, with_stack, at, position, pushing, on_found, constant_of, slot_of, last_of, load_step, slot_step, last_step, negate_step, arithmetic_step, ordering_step, logic_step, not_step, jump_step, jump_if_false_step, enter, call_step, enter_named, call_callable_step, return_to, return_step}
use Rattle.value.specs.Links.{Written, booleans_of, pop_of, scalars_of}
use Rattle.value.proofs.Stores.{length_vals, pushed}
use Rattle.value.proofs.Operands.{got_some, is_boolean_lem}
use Rattle.run_arms.specs.declared.Fixed.{Fixed}
use Rattle.run_arms.specs.declared.Going.{Going}
use Rattle.run_arms.specs.declared.Answer.{Answer}
use Rattle.run_arms.specs.declared.Answer.TheVariants.{Went, Returned, Call, Back, Stopped}
use Rattle.run_arms.specs.Links.{Around, around, state_of, outcome_of, Within, Suits, ArmPost}
use Rattle.run_arms.proofs.Keeping.{place, fewer, topped}
use Rattle.run_arms.proofs.Rules.{no_top, top, no_scalars, scalars, two_scalars, no_booleans, booleans, two_booleans, cut_vals, is_reference_lem}
use Rattle.model.specs.declared.Refusal.{Refusal}

-- the machine with n values on its stack, at position i, and with the last result in the words a and b
abbrev pub with_words : ℕ → ℕ → ℕ → ℕ → Going → Going
with_words n i a b g = record {
  sp = n;
  function = g.function;
  position = i;
  base = g.base;
  callers = g.callers;
  used = g.used;
  spent = g.spent;
  kind = a;
  payload = b;
  mark = g.mark;
  returns = g.returns;
}

abbrev pub with_count : ℕ → Going → Going
with_count n g = with_words n g.position g.kind g.payload g

-- the rule goes another way to the same outcome
pub same_rule : {rule other : State → Outcome} {k : Fixed} {g : Going} {s : List ℕ} {r : Answer} {t : List ℕ}
    → ((x : List ℕ) (ar : Around) → other (state_of k g s x ar) ≡ rule (state_of k g s x ar)) → ArmPost rule k g s r t → ArmPost other k g s r t
same_rule e p = record { means = λ x ar h. p.means x ar h ∙ sym (e x ar); within = p.within; kept = p.kept; used = p.used; caller = p.caller; paid = p.paid }

module _ {k : Fixed} {g : Going} {s : List ℕ} (w : Within k g s) where
  -- a fault, and nothing is changed
  pub refused : {rule : State → Outcome} {n : Fault}
      → ((x : List ℕ) (ar : Around) → length ar.callers ≡ g.callers → rule (state_of k g s x ar) ≡ faulted n (state_of k g s x ar))
      → ArmPost rule k g s (Stopped g n) s
  refused e = record {
    means = λ x ar h. sym (e x ar h);
    within = w;
    kept = record { callers = refl; mark = refl; returns = refl };
    used = refl;
    caller = tt;
    paid = tt;
  }

  -- values are dropped, and the position is another
  pub moved : {rule : State → Outcome} {n i : ℕ} → n ≤ g.sp
      → ((x : List ℕ) (ar : Around) → rule (state_of k g s x ar) ≡ went (state_of k (with_words n i g.kind g.payload g) s x ar))
      → ArmPost rule k g s (Went (with_words n i g.kind g.payload g)) s
  moved l e = record {
    means = λ x ar h. sym (e x ar);
    within = fewer w l refl;
    kept = record { callers = refl; mark = refl; returns = refl };
    used = refl;
    caller = tt;
    paid = tt;
  }

  -- a value is written on top of the i values that are left
  module _ {i : ℕ} {v : Value} {t : List ℕ} (p : Written s i (item v) t) (l : i ≤ g.sp) (h : i < k.slots) {n : ℕ} (e : n ≡ suc i) where
    pub values : vals n t ≡ v ∷ vals i s
    values = rw e (pushed p (place w h))

    pub settled : {rule : State → Outcome}
        → ((x : List ℕ) (ar : Around) → rule (state_of k g s x ar) ≡ went (with_stack (v ∷ vals i s) (state_of k g s x ar)))
        → ArmPost rule k g s (Went (with_count n g)) t
    settled q = record {
      means = λ x ar h. rw values (sym (q x ar));
      within = topped w p l h e refl;
      kept = record { callers = refl; mark = refl; returns = refl };
      used = refl;
      caller = tt;
      paid = tt;
    }

-- ---- pushes

-- the rule pushes what it looks up
pub record Looks (u : World) (rule : State → Outcome) (look : State → Result Value Fault) : Type 0 where
  pub is : (t : State) → rule t ≡ on_found (look t) t (λ v. pushing u v t)

module _ (u : World) where
  pub loads : (a : ℕ) → Looks u (load_step u a) (λ t. constant_of u.constants a)
  unfolding load_step
  loads a = record { is = λ t. refl }

  pub gets_slot : (i : ℕ) → Looks u (slot_step u i) (λ t. slot_of t.stack i)
  unfolding slot_step
  gets_slot i = record { is = λ t. refl }

  pub gets_last : Looks u (last_step u) (λ t. last_of t.last)
  unfolding last_step
  gets_last = record { is = λ t. refl }

module _ {k : Fixed} {g : Going} {s : List ℕ} (w : Within k g s) {u : World} (c : Suits k u) where
  pub full : (v : Value) → k.slots ≤ g.sp → ArmPost (pushing u v) k g s (Stopped g f.StackFull) s
  unfolding pushing
  full v h = refused w (λ x ar d. rw (length_vals g.sp s, c.stack_room, le-ltb g.sp k.slots h))

  pub pushes : {v : Value} {t : List ℕ} {n : ℕ} → g.sp < k.slots → Written s g.sp (item v) t → n ≡ suc g.sp
      → ArmPost (pushing u v) k g s (Went (with_count n g)) t
  unfolding pushing
  pushes h p e = settled w p (omega arith) h e (λ x ar. rw (length_vals g.sp s, c.stack_room, lt-ltb g.sp k.slots h))

  -- what is looked up is pushed
  module _ {rule : State → Outcome} {look : State → (Result Value Fault)} (o : Looks u rule look) where
    pub missing : {n : Fault} → ((x : List ℕ) (ar : Around) → look (state_of k g s x ar) ≡ Err n) → ArmPost rule k g s (Stopped g n) s
    unfolding on_found
    missing e = refused w (λ x ar h. o.is _ ∙ rw (e x ar))

    pub found : {v : Value} {r : Answer} {t : List ℕ} → ((x : List ℕ) (ar : Around) → look (state_of k g s x ar) ≡ Ok v) → ArmPost (pushing u v) k g s r t
        → ArmPost rule k g s r t
    unfolding on_found
    found e p = same_rule (λ x ar. o.is _ ∙ rw (e x ar)) p

  -- ---- calls: the function i is entered with n of the first m values

  module _ (i n m : ℕ) (l : m ≤ g.sp) where
    pub few : m < n → ArmPost (enter u i n (vals m s)) k g s (Stopped g f.TooFewValues) s
    unfolding enter
    few h = refused w (λ x ar d. rw (length_vals m s, lt-ltb m n h))

    module _ (h : n ≤ m) where
      pub no_frame_lem : k.frames ≤ g.callers + 1 → ArmPost (enter u i n (vals m s)) k g s (Stopped g f.FramesFull) s
      unfolding enter
      no_frame_lem o = refused w (λ x ar d. rw (length_vals m s, le-ltb m n h, c.frame_room, d, le-leb k.frames (suc g.callers) (omega arith)))

      pub enters : g.callers + 1 < k.frames → ArmPost (enter u i n (vals m s)) k g s (Call (with_count m g) i (m - n)) s
      unfolding enter
      enters o = record {
        means = λ x ar d. sym (rw (length_vals m s, le-ltb m n h, c.frame_room, d, lt-leb k.frames (suc g.callers) (omega arith)));
        within = fewer w l refl;
        kept = record { callers = refl; mark = refl; returns = refl };
        used = refl;
        caller = tt;
        paid = tt;
      }

  module _ (i n : ℕ) where
    pub no_number_lem : k.functions ≤ i → ArmPost (call_step u i n) k g s (Stopped g f.OutOfRange) s
    unfolding call_step
    no_number_lem h = refused w (λ x ar d. rw (c.functions, le-ltb i k.functions h))

    pub calls : {r : Answer} → i < k.functions → ArmPost (enter u i n (vals g.sp s)) k g s r s → ArmPost (call_step u i n) k g s r s
    unfolding call_step
    calls h p = same_rule (λ x ar. rw (c.functions, lt-ltb i k.functions h)) p

-- ---- jumps

pub jumps : {k : Fixed} {g : Going} {s : List ℕ} → Within k g s → (a : ℕ) {i : ℕ} → i ≡ g.position + a
    → ArmPost (jump_step a) k g s (Went (with_words g.sp i g.kind g.payload g)) s
unfolding jump_step
jumps w a e = moved w (omega arith) (λ x ar. rw e)

-- ---- one operand: the rule pops a value, and acts on it if it is of a kind

pub record One {B : Type 0} (rule : State → Outcome) (pick : Value → (B → Outcome) → Outcome → Outcome) (act : B → List Value → State → Outcome) : Type 0 where
  pub is : (t : State) → rule t ≡ popping t.stack (λ n. faulted n t) (λ v r. pick v (λ x. act x r t) (faulted (f.WrongKind v) t))

-- a value in place of the one popped
abbrev in_place : {B : Type 0} → (B → Value) → B → List Value → State → Outcome
in_place new x r t = went (with_stack (new x ∷ r) t)

pub negates : One negate_step if_scalar (in_place (λ x. Scalar (Ieee.neg x)))
unfolding negate_step popping_scalar
negates = record { is = λ t. refl }

pub denies : One not_step if_boolean (in_place (λ x. Boolean (not x)))
unfolding not_step popping_boolean
denies = record { is = λ t. refl }

abbrev jump_unless : ℕ → Bool → List Value → State → Outcome
jump_unless a x r t = went (with_stack r (if x then t else at (position t + a) t))

pub jumps_if_false : (a : ℕ) → One (jump_if_false_step a) if_boolean (jump_unless a)
unfolding jump_if_false_step popping_boolean
jumps_if_false a = record { is = λ t. refl }

module _ {k : Fixed} {g : Going} {s : List ℕ} (w : Within k g s) {r : Result Value Fault} (p : r ≡ pop_of (vals g.sp s)) where
  module _ {B : Type 0} {rule : State → Outcome} {pick : Value → (B → Outcome) → Outcome → Outcome} {act : B → List Value → State → Outcome} (o : One rule pick act) where
    pub one_none : {n : Fault} → r ≡ Err n → ArmPost rule k g s (Stopped g f.TooFewValues) s
    one_none e = refused w (λ x ar h. o.is _ ∙ no_top g.sp s p _ _ e)

    module _ {v : Value} (e : r ≡ Ok v) where
      pub one_wrong : ((j : B → Outcome) (d : Outcome) → pick v j d ≡ d) → ArmPost rule k g s (Stopped g (f.WrongKind v)) s
      one_wrong h = refused w (λ x ar d. o.is _ ∙ top g.sp s p _ _ e ∙ h _ _)

      acts : {y : B} → ((j : B → Outcome) (d : Outcome) → pick v j d ≡ j y) → (x : List ℕ) (ar : Around)
          → rule (state_of k g s x ar) ≡ act y (vals (g.sp - 1) s) (state_of k g s x ar)
      acts h x ar = o.is _ ∙ top g.sp s p _ _ e ∙ h _ _

  module _ {v : Value} (e : r ≡ Ok v) where
    pub one_replaced : {B : Type 0} {rule : State → Outcome} {pick : Value → (B → Outcome) → Outcome → Outcome} {new : B → Value} {y : B} {u : Value} {t : List ℕ}
        → One rule pick (in_place new) → ((j : B → Outcome) (d : Outcome) → pick v j d ≡ j y) → u ≡ new y → Written s (g.sp - 1) (item u) t
        → ArmPost rule k g s (Went g) t
    one_replaced o h d q =
        let l : 1 ≤ g.sp = got_some g.sp s p e in
        settled w q (omega arith) (omega (arith, w.count)) (omega arith) (λ x ar. rw d (acts o e h x ar))

    -- JumpIfFalse: the position stays, or is moved on
    module _ (a : ℕ) {b : Bool} (h : v ≡ Boolean b) {n : ℕ} (c : n ≡ g.sp - 1) where
      pub stays : b ≡ true → ArmPost (jump_if_false_step a) k g s (Went (with_count n g)) s
      stays d = moved w (omega arith) (λ x ar. acts (jumps_if_false a) e (is_boolean_lem h) x ar ∙ rw (c, d))

      pub jumps_on : {i : ℕ} → b ≡ false → i ≡ g.position + a
          → ArmPost (jump_if_false_step a) k g s (Went (with_words n i g.kind g.payload g)) s
      jumps_on d o = moved w (omega arith) (λ x ar. acts (jumps_if_false a) e (is_boolean_lem h) x ar ∙ rw (c, d, o))

-- ---- a function by its name

pub calls_named : (u : World) (n : ℕ)
    → One {B = ℕ × ℕ} (call_callable_step u n) (λ v j d. if_reference v (λ o m. j (o, m)) d)
    (λ y r t. enter_named u n r t (function_named (text_at u.text y.0 y.1) u.functions))
unfolding call_callable_step
calls_named u n = record { is = λ t. refl }

-- what a search for a name tells
told_some : (o : Option ℕ) (r : Result ℕ Refusal) (k : ℕ) → r ≡ told_name o → r ≡ Ok k → o ≡ some k
unfolding told_name
told_some none r k e f = absurd (let z : ◌≡◌ {A = ℕ} 0 1 = cc in let y : ⊥ = omega arith in y)
told_some (some i) r k e f = let z : i ≡ k = cc in ap some z

told_none : (o : Option ℕ) (r : Result ℕ Refusal) (k : Refusal) → r ≡ told_name o → r ≡ Err k → o ≡ none
unfolding told_name
told_none none r k e f = refl
told_none (some i) r k e f = absurd (let z : ◌≡◌ {A = ℕ} 0 1 = cc in let y : ⊥ = omega arith in y)

module _ {k : Fixed} {g : Going} {s : List ℕ} (w : Within k g s) {r : Result Value Fault} (p : r ≡ pop_of (vals g.sp s)) {v : Value} (e : r ≡ Ok v) {o m : ℕ} (h : v ≡ FunctionReference o m)
    (u : World) (n : ℕ) {q : Result ℕ Refusal} (d : q ≡ told_name (function_named (text_at u.text o m) u.functions)) where
  by_name : (x : List ℕ) (ar : Around)
      → call_callable_step u n (state_of k g s x ar) ≡ enter_named u n (vals (g.sp - 1) s) (state_of k g s x ar) (function_named (text_at u.text o m) u.functions)
  by_name x ar = acts w p (calls_named u n) e (λ j d. is_reference_lem h (λ o m. j (o, m)) d) x ar

  pub no_name : {t : Refusal} → q ≡ Err t → ArmPost (call_callable_step u n) k g s (Stopped g f.NoFunction) s
  unfolding enter_named
  no_name z = refused w (λ x ar c. by_name x ar ∙ rw (told_none _ _ _ d z))

  pub calls_name : {i : ℕ} {a : Answer} → q ≡ Ok i → ArmPost (enter u i n (vals (g.sp - 1) s)) k g s a s → ArmPost (call_callable_step u n) k g s a s
  unfolding enter_named
  calls_name z b = same_rule (λ x ar. by_name x ar ∙ rw (told_some _ _ _ d z)) b

-- ---- two operands

module _ {k : Fixed} {g : Going} {s : List ℕ} (w : Within k g s) where
  -- a value in place of two
  two_replaced : {rule : State → Outcome} {i n : ℕ} {u : Value} {t : List ℕ} → 2 ≤ g.sp → i ≡ g.sp - 2 → n ≡ g.sp - 1 → Written s i (item u) t
      → ((x : List ℕ) (ar : Around) → rule (state_of k g s x ar) ≡ went (with_stack (u ∷ vals (g.sp - 2) s) (state_of k g s x ar)))
      → ArmPost rule k g s (Went (with_count n g)) t
  two_replaced l d e q h = settled w q (omega arith) (omega (arith, w.count)) (omega arith) (λ x ar. rw d (h x ar))

  module _ {r : Result (Float × Float) Fault} (p : r ≡ scalars_of (vals g.sp s)) where
    module _ {n : Fault} (e : r ≡ Err n) where
      pub arithmetic_bad : (u : World) (a : Arith) → ArmPost (arithmetic_step u a) k g s (Stopped g n) s
      unfolding arithmetic_step
      arithmetic_bad u a = refused w (λ x ar h. no_scalars g.sp s p _ _ e)

      pub ordering_bad : (c : Order) → ArmPost (ordering_step c) k g s (Stopped g n) s
      unfolding ordering_step
      ordering_bad c = refused w (λ x ar h. no_scalars g.sp s p _ _ e)

    module _ {x y : Float} (e : r ≡ Ok (x, y)) where
      pub zero_divided : (u : World) (a : Arith) {b : Bool} → b ≡ zero_divisor a y → b ≡ true → ArmPost (arithmetic_step u a) k g s (Stopped g f.ZeroDivisor) s
      unfolding arithmetic_step
      zero_divided u a d z = refused w (λ x ar h. scalars g.sp s p _ _ e ∙ rw (← d, z))

      -- what the strict machine asks of the result z
      strictly : {u : World} → Suits k u → (a : Arith) {z : Float} → z ≡ arith_of a x y → {b : Bool} → b ≡ (k.strict && (finite x && finite y && not (finite z)))
          → (u.strict && (result_of a x y).escaped) ≡ b
      unfolding result_of
      strictly c a h q = rw (c.strict, q, h)

      pub not_finite : {u : World} → Suits k u → (a : Arith) {b j : Bool} {z : Float} → b ≡ zero_divisor a y → b ≡ false → z ≡ arith_of a x y
          → j ≡ (k.strict && (finite x && finite y && not (finite z))) → j ≡ true → ArmPost (arithmetic_step u a) k g s (Stopped g f.NotFinite) s
      unfolding arithmetic_step
      not_finite c a o b h q l = refused w (λ x ar i. scalars g.sp s p _ _ e ∙ rw (← o, b, strictly c a h q, l))

      module _ {i n : ℕ} (c : i ≡ g.sp - 2) (d : n ≡ g.sp - 1) {t : List ℕ} where
        pub computed : {u : World} → Suits k u → (a : Arith) {b j : Bool} {z : Float} → b ≡ zero_divisor a y → b ≡ false → z ≡ arith_of a x y
            → j ≡ (k.strict && (finite x && finite y && not (finite z))) → j ≡ false → Written s i (item (Scalar z)) t
            → ArmPost (arithmetic_step u a) k g s (Went (with_count n g)) t
        unfolding arithmetic_step
        computed m a o b h f l q =
            two_replaced (two_scalars g.sp s p e) c d q (λ x ar. scalars g.sp s p _ _ e ∙ rw (← o, b, strictly m a h f, l) (unfold result_of in rw h))

        pub ordered : (o : Order) {z : Bool} → z ≡ order_of o x y → Written s i (item (Boolean z)) t
            → ArmPost (ordering_step o) k g s (Went (with_count n g)) t
        unfolding ordering_step
        ordered o h q = two_replaced (two_scalars g.sp s p e) c d q (λ x ar. scalars g.sp s p _ _ e ∙ rw h)

  module _ {r : Result (Bool × Bool) Fault} (p : r ≡ booleans_of (vals g.sp s)) (j : Bool → Bool → Bool) where
    pub logic_bad : {n : Fault} → r ≡ Err n → ArmPost (logic_step j) k g s (Stopped g n) s
    unfolding logic_step
    logic_bad e = refused w (λ x ar h. no_booleans g.sp s p _ _ e)

    pub joined : {x y z : Bool} {i n : ℕ} {t : List ℕ} → r ≡ Ok (x, y) → i ≡ g.sp - 2 → n ≡ g.sp - 1 → z ≡ j x y → Written s i (item (Boolean z)) t
        → ArmPost (logic_step j) k g s (Went (with_count n g)) t
    unfolding logic_step
    joined e c d h q = two_replaced (two_booleans g.sp s p e) c d q (λ x ar. booleans g.sp s p _ _ e ∙ rw h)

-- ---- returns

some_caller : (n : ℕ) → (n ≡ 0 → ⊥) → 0 < n
some_caller zero z = absurd (z refl)
some_caller (suc n) z = omega arith

module _ {k : Fixed} {g : Going} {s : List ℕ} (w : Within k g s) {r : Result Value Fault} (p : r ≡ pop_of (vals g.sp s)) where
  pub returns_none : {t : Fault} → r ≡ Err t → ArmPost return_step k g s (Stopped g f.TooFewValues) s
  unfolding return_step
  returns_none e = refused w (λ x ar d. no_top g.sp s p _ _ e)

  module _ {v : Value} (e : r ≡ Ok v) where
    -- with one frame
    module _ {n : ℕ} (z : g.callers ≡ 0) (c : n ≡ g.sp - 1) where
      abbrev at_root : Answer
      at_root = Returned (record { going = with_count n g; value = v })

      root_means : (x : List ℕ) (i : ℕ) (cs : List Frame) → length cs ≡ g.callers
          → outcome_of k (around i cs) at_root s x ≡ return_step (state_of k g s x (around i cs))
      unfolding return_step return_to
      root_means x i [] h = rw c (sym (top g.sp s p _ _ e))
      root_means x i (f ∷ cs) h = absurd (let z : ⊥ = omega arith in z)

      pub returns_last : ArmPost return_step k g s at_root s
      returns_last = record {
        means = λ x ar h. root_means x ar.entered ar.callers h;
        within = fewer w (omega arith) refl;
        kept = record { callers = refl; mark = refl; returns = refl };
        used = refl;
        caller = tt;
        paid = tt;
      }

    -- with a caller
    module _ {i n : ℕ} {t : List ℕ} (z : g.callers ≡ 0 → ⊥) (c : i ≡ min g.base (g.sp - 1)) (d : n ≡ suc i) (q : Written s i (item v) t) where
      inside : i < k.slots
      inside = let y = got_some g.sp s p e in omega (arith, w.count)

      back_means : (x : List ℕ) (j : ℕ) (cs : List Frame) → length cs ≡ g.callers
          → outcome_of k (around j cs) (Back (with_count n g)) t x ≡ return_step (state_of k g s x (around j cs))
      unfolding return_step return_to
      back_means x j [] h = absurd (z (sym h))
      back_means x j (f ∷ cs) h =
          rw (values w q (omega arith) inside d) (sym (top g.sp s p _ _ e ∙ rw (cut_vals g.base (g.sp - 1) s, ← c)))

      pub returns_back : ArmPost return_step k g s (Back (with_count n g)) t
      returns_back = record {
        means = λ x ar h. back_means x ar.entered ar.callers h;
        within = topped w q (omega arith) inside d refl;
        kept = record { callers = refl; mark = refl; returns = refl };
        used = refl;
        caller = some_caller g.callers z;
        paid = tt;
      }
