-- Calls and returns: the Rust's frames are the rules', and a call of a function that is not there is a panic behind it.
use Rattle.std.specs.Prelude.{if◌then◌else◌}
use mathlib.Core.Path.{◌≡◌, refl, sym, ap, subst, ◌∙◌}
use mathlib.Core.Bool.{Bool, true, false}
use mathlib.Core.List.{List, [], ◌∷◌, map}
use mathlib.Core.Logic.{⊎_elim}
use mathlib.Core.Option.{Option, none, some}
use Prim.Native.Nat.{ℕ, suc, ◌-◌, ◌≤◌, ◌<◌}
use native.Mathlib.Omega.{arith}
use borrow.Author.Tests.{ltb-true, ltb-false}
use lib.Dec.{ltb, leb}
use lib.ListN.{length, length-map}
use Rattle.model.specs.declared.Value.{Value}
use Rattle.model.specs.declared.Fault.TheVariants as f
use Rattle.model.specs.declared.Frame.{Frame}
use Rattle.model.specs.Values.{popping}
use Rattle.model.specs.Programs.{function_named}
use Rattle.model.specs.Trees.{Tree, meaning}
use Rattle.model.specs.Steps.{World, State, went, faulted, with_stack, with_frames, enter, call_step, enter_named, call_callable_step, cut, return_to, return_step}
use Rattle.cells.proofs.Order.{by_less}
use Rattle.laws_rust.specs.Vm as rust
use Rattle.laws_rust.specs.Vm.{panic}
use Rattle.laws_rust.specs.Same.{frame_of, rust_of, rust_at, Panics, FaultsAs, Agrees}
use Rattle.laws_rust.proofs.Reading.{agrees_as, past_none}
use Rattle.laws_rust.proofs.Pops.{pop_agrees, reference_agrees}
use Rattle.laws_rust.proofs.Stacks.{truncated}
use Rattle.laws_rust.proofs.Names.{sub_there, sub_short, name_known, name_unknown}

module _ (w : World) (s : State) where
  -- what a value of s means
  abbrev tree : Value → Tree
  tree x = meaning w.text s.heap x

  -- ---- calls

  -- the base is the stack length less the count; of room for frames the Rust knows nothing
  framed : (i n : ℕ) (vs : List Value) → n ≤ length vs
      → rust.push_frame i n (rust_at w (with_stack vs s))
      ≡ rust.went (rust_at w (with_stack vs (with_frames (record { function = i; position = 0; base = length vs - n; entered = s.spent }) (s.frame ∷ s.callers) s)))
  unfolding rust.push_frame rust_of
  framed i n vs h =
      let z : length (map tree vs) ≡ length vs = length-map vs tree in
      sub_there (length (map tree vs)) n _ (omega arith)
      ∙ ap (λ (l : ℕ). rust.went (rust_at w (with_stack vs (with_frames (record { function = i; position = 0; base = l - n; entered = s.spent }) (s.frame ∷ s.callers) s)))) z

  unframed : (i n : ℕ) (vs : List Value) → length vs < n → rust.push_frame i n (rust_at w (with_stack vs s)) ≡ panic
  unfolding rust.push_frame rust_of
  unframed i n vs h = let z : length (map tree vs) ≡ length vs = length-map vs tree in sub_short (length (map tree vs)) n _ (omega arith)

  enters : (i n : ℕ) (vs : List Value) → Agrees w (enter w i n vs s) (rust.push_frame i n (rust_at w (with_stack vs s)))
  unfolding enter Agrees FaultsAs Panics
  enters i n vs = on (ltb (length vs) n) refl (leb w.frame_room (suc (length s.callers)))
    where
      on : (few : Bool) → ltb (length vs) n ≡ few → (full : Bool)
          → Agrees w (if few then faulted f.TooFewValues s else (if full then faulted f.FramesFull s else
          went (with_stack vs (with_frames (record { function = i; position = 0; base = length vs - n; entered = s.spent }) (s.frame ∷ s.callers) s)))) (rust.push_frame i n (rust_at w (with_stack vs s)))
      on true e full = agrees_as w (faulted f.TooFewValues s) (unframed i n vs (ltb-true _ _ e)) tt
      on false e true = tt
      on false e false = framed i n vs (ltb-false _ _ e)

  -- a function that is not there: the frame stands, and the loop's test panics
  lost : (i n : ℕ) → length w.functions ≤ i → Panics (rust.push_frame i n (rust_at w s))
  unfolding Panics
  lost i n h =
      ⊎_elim
      (λ l. subst Panics (sym (unframed i n s.stack l)) tt)
      (λ l. subst Panics (sym (framed i n s.stack l)) (unfold rust_of rust.is_at_the_end rust.at_end_of in past_none w.functions i 0 h))
      (by_less (length s.stack) n)

  pub calls : (i n : ℕ) → Agrees w (call_step w i n s) (rust.push_frame i n (rust_at w s))
  unfolding call_step Agrees FaultsAs
  calls i n = on (ltb i (length w.functions)) refl
    where
      on : (b : Bool) → ltb i (length w.functions) ≡ b → Agrees w (if b then enter w i n s.stack s else faulted f.OutOfRange s) (rust.push_frame i n (rust_at w s))
      on true e = enters i n s.stack
      on false e = lost i n (ltb-false _ _ e)

  named : (n : ℕ) (r : List Value) (t : List ℕ) → length w.functions ≤ 65536 → (x : Option ℕ) → function_named t w.functions ≡ x
      → Agrees w (enter_named w n r s x) (rust.get_function_idx (rust_at w (with_stack r s)) t (λ i. rust.push_frame i n (rust_at w (with_stack r s))))
  unfolding enter_named Agrees FaultsAs Panics
  named n r t few none e = agrees_as w (faulted f.NoFunction s) (name_unknown t w.functions (rust_at w (with_stack r s)) (unfold rust_of in refl) _ e) tt
  named n r t few (some i) e =
      agrees_as w (enter w i n r s)
      (name_known t w.functions (rust_at w (with_stack r s)) (unfold rust_of in refl) (λ j. rust.push_frame j n (rust_at w (with_stack r s))) i few e) (enters i n r)

  pub calls_named : (n : ℕ) → length w.functions ≤ 65536
      → Agrees w (call_callable_step w n s)
      (rust.pop (rust_at w s) (λ m vm. rust.if_function_reference m (λ t. rust.get_function_idx vm t (λ i. rust.push_frame i n vm)) panic))
  unfolding call_callable_step
  calls_named n few = pop_agrees w s s _ _ (λ x r e. reference_agrees w s s.heap x _ _ (λ o k ex. named n r _ few _ refl))

  -- ---- return

  returns_to : (cs : List Frame) → Agrees w (popping s.stack (λ n. faulted n s) (λ x r. return_to cs x r s)) (rust.return (map frame_of (s.frame ∷ cs)) (rust_at w s))
  unfolding return_to rust.return rust_of Agrees cut
  returns_to [] = pop_agrees w s s _ _ (λ x r e. refl)
  returns_to (c ∷ cs) =
      pop_agrees w s (with_frames c cs s) _ _
      (λ x r e. ap (λ (vs : List Tree). rust.went (rust.with_stack_lem (tree x ∷ vs) (rust_at w (with_frames c cs s)))) (truncated tree s.frame.base r))

  pub returns : Agrees w (return_step s) (rust.return (rust_at w s).frames (rust_at w s))
  unfolding return_step rust_of
  returns = returns_to s.callers
