-- All that an instruction can do, and that each does one of these: the one induction over the rules.
use Rattle.std.specs.Prelude.{if◌then◌else◌, None, Ok, Option, Result, Some}
use mathlib.Core.Path.{◌≡◌, refl, sym, ap, ◌∙◌}
use mathlib.Core.Bool.{Bool, true, false, ◌&&◌}
use mathlib.Core.List.{List, [], ◌∷◌, map}
use mathlib.Core.Option.{Option as Maybe, none, some}
use Prim.Native.Nat.{ℕ, suc, ◌+◌, ◌-◌, ◌*◌, ◌≤◌, ◌<◌}
use native.Mathlib.Omega.{arith}
use borrow.Author.Tests.{ltb-true, ltb-false, leb-true, eqb-true, eqb-false, ne_eqb}
use lib.Dec.{ltb, leb, eqb}
use lib.ListN.{length, get_or, drop, length-map}
use lib.Ieee.{Float}
use Rattle.model.specs.declared.Op.{Op}
use Rattle.model.specs.declared.Op.TheVariants as o
use Rattle.model.specs.declared.Decoded.{Decoded}
use Rattle.model.specs.declared.Decoded.TheVariants as d
use Rattle.model.specs.declared.Value.{Value}
use Rattle.model.specs.declared.Value.TheVariants as v
use Rattle.model.specs.declared.Fault.{Fault}
use Rattle.model.specs.declared.Fault.TheVariants as f
use Rattle.model.specs.declared.Frame.{Frame}
use Rattle.model.specs.Scalars.{zero_divisor, result_of}
use Rattle.model.specs.Heap.{Cell, built, build_of, list_elements, struct_fields, field_of}
use Rattle.model.specs.Equality.{Same, same_bytes}
use Rattle.model.specs.Programs.{Function, function_named, newest_from, or_else, word_at}
use Rattle.model.specs.Steps.{World, State, Outcome, went, returned, faulted, short, with_stack, with_heap, with_last, with_units, paid, with_frames, at, position, code_of, pushing, on_found, constant_of, slot_of, last_of, load_step, slot_step, last_step, negate_step, arithmetic_step, ordering_step, on_same, equal_step, logic_step, not_step, jump_step, jump_if_false_step, enter, call_step, enter_named, call_callable_step, build_step, struct_step, field_step, cut, return_to, return_step, exec_of, operands_then, decoded_then, fetched, step_of}
use Rattle.cells.proofs.Meaning.{got}
use Rattle.laws_runs.proofs.Combinators.{if_each, if_left, popping_each, if_reference_each, if_struct_each, popping_scalar_each, popping_boolean_each, on_found_each, pushing_each, on_same_each, on_built_each, enter_each}

-- ---- the words of the table

-- the values q are the stack vs, or what pops leave of it
pub data Below (q : List Value) : List Value → Type 0 where
  here : Below q q
  under : {u : Value} {vs : List Value} → Below q vs → Below q (u ∷ vs)

-- a value that names no text and no cell
pub data Plain : Value → Type 0 where
  number : (x : Float) → Plain (v.Scalar x)
  truth : (x : Bool) → Plain (v.Boolean x)

-- a value that the machine holds already
pub data Held (w : World) (s : State) : Value → Type 0 where
  constant : (i : ℕ) → i < length w.constants → Held w s (get_or w.constants i (v.Boolean false))
  slot : (i : ℕ) → i < length s.stack → Held w s (get_or s.stack i (v.Boolean false))
  last : {u : Value} → s.last ≡ Some u → Held w s u

-- the two builds: the value that names a cell, the elements taken from the stack, the struct number
pub data Makes : (ℕ → Value) → (ℕ → List Value → List Value) → ℕ → Type 0 where
  list : Makes v.List list_elements 0
  struct : (k : ℕ) → Makes v.StructInstance struct_fields k

-- a build of the top n values that gives the heap H
pub record Builds (w : World) (s : State) (c : ℕ → Value) (elements : ℕ → List Value → List Value) (k n : ℕ) (H : List Cell) : Type 0 where
  pub makes : Makes c elements k
  pub enough : n ≤ length s.stack
  pub gives : build_of w.cell_room s.heap k (elements n s.stack) ≡ built H

-- ---- THE TABLE: what an instruction with the operand a does from s; and, beside it, from t, which is s with as many units or more
pub data Does (w : World) (a : ℕ) (s t : State) : Outcome → Outcome → Type 0 where
  fault : (n : Fault) → Does w a s t (faulted n s) (faulted n t)
  -- a comparison for which s has too few units
  spent : (x : Outcome) → Does w a s t short x
  -- a build with no room for its value
  full : {c : ℕ → Value} {elements : ℕ → List Value → List Value} {k n : ℕ} {H : List Cell} → Builds w s c elements k n H
      → Does w a s t (faulted f.StackFull (with_stack (drop n s.stack) (with_heap H s))) (faulted f.StackFull (with_stack (drop n s.stack) (with_heap H t)))
  push : {y : Value} → Held w s y → length s.stack < w.stack_room → Does w a s t (went (with_stack (y ∷ s.stack) s)) (went (with_stack (y ∷ s.stack) t))
  -- the value x and those above it become y
  answer : {x y : Value} {r : List Value} → Below (x ∷ r) s.stack → Plain y → Does w a s t (went (with_stack (y ∷ r) s)) (went (with_stack (y ∷ r) t))
  compare : {x : Value} {r : List Value} (b : Bool) (k : ℕ) → Below (x ∷ r) s.stack → k ≤ s.units
      → Does w a s t (went (with_stack (v.Boolean b ∷ r) (paid k s))) (went (with_stack (v.Boolean b ∷ r) (paid k t)))
  fall : {r : List Value} → Below r s.stack → Does w a s t (went (with_stack r s)) (went (with_stack r t))
  leap : {r : List Value} → Below r s.stack → Does w a s t (went (with_stack r (at (position s + a) s))) (went (with_stack r (at (position s + a) t)))
  call : {r : List Value} (i n : ℕ) → Below r s.stack → i < length w.functions → n ≤ length r → suc (length s.callers) < w.frame_room
      → Does w a s t (went (with_stack r (with_frames (record { function = i; position = 0; base = length r - n; entered = s.spent }) (s.frame ∷ s.callers) s)))
      (went (with_stack r (with_frames (record { function = i; position = 0; base = length r - n; entered = s.spent }) (s.frame ∷ s.callers) t)))
  build : {c : ℕ → Value} {elements : ℕ → List Value → List Value} {k n : ℕ} {H : List Cell} → Builds w s c elements k n H → length (drop n s.stack) < w.stack_room
      → Does w a s t (went (with_stack (c (length s.heap) ∷ drop n s.stack) (with_heap H s))) (went (with_stack (c (length s.heap) ∷ drop n s.stack) (with_heap H t)))
  field : {x : Value} {r : List Value} (p i : ℕ) → Below (v.StructInstance p ∷ r) s.stack → field_of s.heap p i ≡ Ok x
      → Does w a s t (went (with_stack (x ∷ r) s)) (went (with_stack (x ∷ r) t))
  back : {x : Value} {r : List Value} {c : Frame} {cs : List Frame} → Below (x ∷ r) s.stack → s.callers ≡ c ∷ cs
      → Does w a s t (went (with_stack (x ∷ cut s.frame.base r) (with_frames c cs s))) (went (with_stack (x ∷ cut s.frame.base r) (with_frames c cs t)))
  home : {x : Value} {r : List Value} → Below (x ∷ r) s.stack → s.callers ≡ [] → Does w a s t (returned x (with_last x (with_stack r s))) (returned x (with_last x (with_stack r t)))

-- one unit is paid, and the position is i
abbrev pub fetched_at : ℕ → State → State
fetched_at i s = at i (paid 1 s)

-- what a step does from s; and, beside it, from t
pub data Stepped (w : World) (s t : State) : Outcome → Outcome → Type 0 where
  -- no unit is left
  unpaid : s.units ≡ 0 → (x : Outcome) → Stepped w s t short x
  -- no instruction, or not all of it
  unread : 1 ≤ s.units → (n : Fault) → Stepped w s t (faulted n (fetched_at (suc (position s)) s)) (faulted n (fetched_at (suc (position s)) t))
  -- an instruction whose operands end at i, the first of them a
  ran : {x y : Outcome} (i a : ℕ) → 1 ≤ s.units → suc (position s) ≤ i → i ≤ length (code_of w s) → a ≡ word_at (code_of w s) (suc (position s))
      → Does w a (fetched_at i s) (fetched_at i t) x y → Stepped w s t x y

-- ---- pops

top : {x : Value} {r vs : List Value} → vs ≡ x ∷ r → Below (x ∷ r) vs
top e = rw e here

pub below_rest : {x : Value} {q vs : List Value} → Below (x ∷ q) vs → Below q vs
below_rest here = under here
below_rest (under b) = under (below_rest b)

second : {x y : Value} {r q vs : List Value} → vs ≡ y ∷ r → r ≡ x ∷ q → Below (x ∷ q) vs
second e h = rw (e, h) (under here)

-- ---- a name that is found is a function's

choose_less : (i n : ℕ) (x : Maybe ℕ) (b : Bool) (j : ℕ) → ((k : ℕ) → x ≡ some k → k < n) → i < n → or_else x (if b then some i else none) ≡ some j → j < n
unfolding or_else
choose_less i n none true j h l e = let z : i ≡ j = cc in omega arith
choose_less i n none false j h l e = absurd (let z : ◌≡◌ {A = ℕ} 0 1 = cc in let y : ⊥ = omega arith in y)
choose_less i n (some k) b j h l e = h j e

newest_less : (i : ℕ) (t : List ℕ) (ns : List (List ℕ)) (j : ℕ) → newest_from i t ns ≡ some j → j < i + length ns
unfolding newest_from
newest_less i t [] j e = absurd (let z : ◌≡◌ {A = ℕ} 0 1 = cc in let y : ⊥ = omega arith in y)
newest_less i t (n ∷ ns) j e =
    choose_less i (i + suc (length ns)) (newest_from (suc i) t ns) (same_bytes t n) j (λ k h. let z = newest_less (suc i) t ns k h in omega arith) (omega arith) e

named_less : (t : List ℕ) (fs : List Function) (i : ℕ) → function_named t fs ≡ some i → i < length fs
unfolding function_named
named_less t fs i e = let z = newest_less 0 t (map (λ (x : Function). x.name) fs) i e in let y = length-map fs (λ (x : Function). x.name) in omega arith

-- ---- each instruction does one of these

module _ (w : World) (a : ℕ) (s : State) (u : ℕ) (h : s.units ≤ u) where
  abbrev D : Outcome → Outcome → Type 0
  D = Does w a s (with_units u s)

  found_does : (x : Result Value Fault) → ((y : Value) → x ≡ Ok y → Held w s y) → D (on_found x s (λ y. pushing w y s)) (on_found x (with_units u s) (λ y. pushing w y (with_units u s)))
  found_does x g = on_found_each D x fault (λ y e. pushing_each D w s u y (fault f.StackFull) (push (g y e)))

  same_does : {x : Value} {r : List Value} (t : Bool → Bool) (z : Same) → Below (x ∷ r) s.stack → D (on_same t r s z) (on_same t r (with_units u s) z)
  same_does t z l = on_same_each D w s u t _ z h spent (λ b k e m. compare (t b) k l m)

  enter_does : {r : List Value} (i n : ℕ) → Below r s.stack → i < length w.functions → D (enter w i n r s) (enter w i n r (with_units u s))
  enter_does i n b l = enter_each D w s u i n _ fault (λ m g. call i n b l m g)

  named_does : {r : List Value} (n : ℕ) (x : Maybe ℕ) → Below r s.stack → ((i : ℕ) → x ≡ some i → i < length w.functions) → D (enter_named w n r s x) (enter_named w n r (with_units u s) x)
  unfolding enter_named
  named_does n none b l = fault f.NoFunction
  named_does n (some i) b l = enter_does i n b (l i refl)

  build_does : {t : ℕ → Value} {elements : ℕ → List Value → List Value} (k n : ℕ) → Makes t elements k → D (build_step w t elements k n s) (build_step w t elements k n (with_units u s))
  unfolding build_step
  build_does {t} {elements} k n m =
      if_each D (ltb (length s.stack) n) (λ e. fault f.TooFewValues)
      (λ e. on_built_each D w s u t (drop n s.stack) (build_of w.cell_room s.heap k (elements n s.stack)) fault
      (λ H q. let b : Builds w s t elements k n H = record { makes = m; enough = ltb-false _ _ e; gives = q } in
      pushing_each D w (with_stack (drop n s.stack) (with_heap H s)) u (t (length s.heap)) (full b) (build b)))

  return_does : {x : Value} {r : List Value} (cs : List Frame) → Below (x ∷ r) s.stack → s.callers ≡ cs → D (return_to cs x r s) (return_to cs x r (with_units u s))
  unfolding return_to
  return_does [] b e = home b e
  return_does (c ∷ cs) b e = back b e

  unless_does : {r : List Value} (x : Bool) → Below r s.stack
      → D (went (with_stack r (if x then s else at (position s + a) s))) (went (with_stack r (if x then with_units u s else at (position s + a) (with_units u s))))
  unless_does true b = fall b
  unless_does false b = leap b

  constant_held : (i : ℕ) (y : Value) → constant_of w.constants i ≡ Ok y → Held w s y
  unfolding constant_of
  constant_held i y e = let (b, z) = got _ _ _ _ e in rw (sym z) (constant i (ltb-true _ _ b))

  slot_held : (i : ℕ) (y : Value) → slot_of s.stack i ≡ Ok y → Held w s y
  unfolding slot_of
  slot_held i y e = let (b, z) = got _ _ _ _ e in let l : i < length s.stack = ltb-true _ _ b in rw (sym z) (slot (length s.stack - suc i) (omega arith))

  last_held : (x : Option Value) → s.last ≡ x → (y : Value) → last_of x ≡ Ok y → Held w s y
  unfolding last_of
  last_held None q y e = absurd (let z : ◌≡◌ {A = ℕ} 0 1 = cc in let y : ⊥ = omega arith in y)
  last_held (Some x) q y e = last (let z : x ≡ y = cc in q ∙ ap Some z)

  -- a line for each opcode
  pub exec_does : (p : Op) (b : ℕ) → D (exec_of w p a b s) (exec_of w p a b (with_units u s))
  unfolding exec_of load_step slot_step last_step negate_step arithmetic_step ordering_step equal_step logic_step not_step jump_step jump_if_false_step call_step call_callable_step struct_step field_step return_step
  exec_does o.LoadConstant b = found_does _ (constant_held a)
  exec_does o.GetLocal b = found_does _ (slot_held (s.frame.base + a))
  exec_does o.GetUpvalue b = found_does _ (slot_held a)
  exec_does o.GetLastResult b = found_does _ (last_held s.last refl)
  exec_does o.Negate b = popping_scalar_each D _ fault (λ x r e. answer (top e) (number _))
  exec_does (o.Arithmetic x) b = popping_scalar_each D _ fault (λ j r e. popping_scalar_each D _ fault
      (λ i q e'. if_each D (zero_divisor x j) (λ z. fault f.ZeroDivisor)
      (λ z. if_each D (w.strict && (result_of x i j).escaped) (λ y. fault f.NotFinite) (λ y. answer (second e e') (number _)))))
  exec_does (o.Ordering x) b = popping_scalar_each D _ fault (λ j r e. popping_scalar_each D _ fault (λ i q e'. answer (second e e') (truth _)))
  exec_does o.Equal b = popping_each D _ fault (λ y r e. popping_each D _ fault (λ x q e'. same_does _ _ (second e e')))
  exec_does o.NotEqual b = popping_each D _ fault (λ y r e. popping_each D _ fault (λ x q e'. same_does _ _ (second e e')))
  exec_does o.LogicalAnd b = popping_boolean_each D _ fault (λ y r e. popping_boolean_each D _ fault (λ x q e'. answer (second e e') (truth _)))
  exec_does o.LogicalOr b = popping_boolean_each D _ fault (λ y r e. popping_boolean_each D _ fault (λ x q e'. answer (second e e') (truth _)))
  exec_does o.LogicalNeg b = popping_boolean_each D _ fault (λ x r e. answer (top e) (truth _))
  exec_does o.JumpIfFalse b = popping_boolean_each D _ fault (λ x r e. unless_does x (below_rest (top e)))
  exec_does o.Jump b = leap here
  exec_does o.Call b = if_each D _ (λ e. enter_does a b here (ltb-true _ _ e)) (λ e. fault f.OutOfRange)
  exec_does o.CallCallable b = popping_each D _ fault (λ x r e. if_reference_each D x (λ i k q. named_does a _ (below_rest (top e)) (named_less _ _)) (fault _))
  exec_does o.BuildStructInstance b = if_each D (ltb a w.structs) (λ e. build_does a b (struct a)) (λ e. fault f.OutOfRange)
  exec_does o.AccessStructField b = popping_each D _ fault (λ x r e. if_struct_each D x (λ p q. on_found_each D _ fault (λ y e'. field p a (top (e ∙ ap (λ (i : Value). i ∷ r) q)) e')) (fault _))
  exec_does o.BuildList b = build_does 0 a list
  exec_does o.Return b = popping_each D _ fault (λ x r e. return_does s.callers (top e) refl)

module _ (w : World) (s : State) (u : ℕ) (h : s.units ≤ u) where
  abbrev S : Outcome → Outcome → Type 0
  S = Stepped w s (with_units u s)

  operands_stepped : 1 ≤ s.units → (p : Op) (n : ℕ) → S (operands_then w p n (fetched_at (suc (position s)) s)) (operands_then w p n (fetched_at (suc (position s)) (with_units u s)))
  unfolding operands_then code_of
  operands_stepped l p n =
      let i = suc (position s) + 2 * n in
      let code = code_of w s in
      if_each S (leb i (length code))
      (λ e. ran i (word_at code (suc (position s))) l (omega arith) (leb-true _ _ e) refl (exec_does w _ (fetched_at i s) (u - 1) (omega arith) p _))
      (λ e. unread l f.CodeEnds)

  decoded_stepped : 1 ≤ s.units → (x : Decoded) (n : ℕ) → S (decoded_then w x n (fetched_at (suc (position s)) s)) (decoded_then w x n (fetched_at (suc (position s)) (with_units u s)))
  unfolding decoded_then
  decoded_stepped l (d.Carried p) n = operands_stepped l p n
  decoded_stepped l d.NotCarried n = unread l f.NotCarried
  decoded_stepped l d.Unknown n = unread l f.UnknownOpcode

  pub step_does : S (step_of w s) (step_of w (with_units u s))
  unfolding step_of fetched code_of
  step_does =
      if_left S (eqb s.units 0)
      (λ e. unpaid (eqb-true _ _ e) _)
      (λ e. let z = eqb-false s.units 0 e in rw (ne_eqb u 0 (λ q. z (omega arith))) (decoded_stepped (omega arith) _ _))

-- the same, where one outcome is all that is asked for
pub step_one : (w : World) (s : State) → Stepped w s s (step_of w s) (step_of w s)
step_one w s = step_does w s s.units (omega arith)
