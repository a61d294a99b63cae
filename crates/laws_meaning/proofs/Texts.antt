-- Text added behind a program's text changes no meaning, so machines that mean the same still do where their program has grown.
use mathlib.Core.Path.{◌≡◌, refl, sym, ap, ◌∙◌}
use mathlib.Core.Bool.{true}
use mathlib.Core.List.{List, ◌++◌}
use Prim.Native.Nat.{ℕ, zero, suc, ◌+◌, ◌≤◌}
use native.Mathlib.Omega.{arith}
use borrow.Author.Tests.{leb-true}
use lib.ListN.{length, drop, length-drop}
use lib.Seq.{take-append-le, drop-append-le}
use Rattle.model.specs.declared.Value.{Value}
use Rattle.model.specs.declared.Value.TheVariants as v
use Rattle.model.specs.Values.{text_at}
use Rattle.model.specs.Heap.{Cell, head_in, placed_below, heap_ok}
use Rattle.model.specs.Trees.{Tree, list, struct, none, tree_of, meaning_to, meaning}
use Rattle.model.specs.Steps.{World}
use Rattle.model.specs.Runs.{Machine, begin}
use Rattle.cells.proofs.Order.{every_map, Placed, list_of, struct_of, Good, good_of}
use Rattle.cells.proofs.Meaning.{within, trees_agree}
use Rattle.laws_runs.specs.Sane.{Sane}
use Rattle.laws_meaning.specs.Alike.{AlikeValue, Layout, laid_out, AlikeMachine, Both}
use Rattle.laws_meaning.specs.Answers.{Begins}
use Rattle.laws_meaning.proofs.Values.{boths_of, last_of_lem, values_on, last_on}

module _ (t y : List ℕ) where
  pub text_kept : (o n : ℕ) → o + n ≤ length t → text_at (t ++ y) o n ≡ text_at t o n
  unfolding text_at
  text_kept o n l = rw (drop-append-le o t y (omega arith)) (take-append-le n (drop o t) y (let z = length-drop o t in omega arith))

  module _ (H : List Cell) (g : Good (length t) H) where
    tree_text : (r r' : Value → Tree) → ((x : Value) → Placed (length t) H (length H) x → r x ≡ r' x)
        → (x : Value) → Placed (length t) H (length H) x → tree_of r (t ++ y) H x ≡ tree_of r' t H x
    unfolding tree_of placed_below
    tree_text r r' e (v.Scalar x) f = refl
    tree_text r r' e (v.Boolean x) f = refl
    tree_text r r' e (v.String o n) f = rw (text_kept o n (leb-true _ _ f))
    tree_text r r' e (v.FunctionReference o n) f = rw (text_kept o n (leb-true _ _ f))
    tree_text r r' e (v.List p) f = ap list (trees_agree r r' (every_map e (within (length t) H g p (list_of (length t) H (length H) p f))))
    tree_text r r' e (v.StructInstance p) f = ap (struct (head_in H p).number) (trees_agree r r' (every_map e (within (length t) H g p (struct_of (length t) H (length H) p f))))

    meaning_to_lem : (d : ℕ) (x : Value) → Placed (length t) H (length H) x → meaning_to d (t ++ y) H x ≡ meaning_to d t H x
    unfolding meaning_to
    meaning_to_lem zero x f = tree_text (λ u. list none) (λ u. list none) (λ u h. refl) x f
    meaning_to_lem (suc d) x f = tree_text (λ u. meaning_to d (t ++ y) H u) (λ u. meaning_to d t H u) (λ u h. meaning_to_lem d u h) x f

meaning_text : (t y : List ℕ) (H : List Cell) → heap_ok (length t) H ≡ true → (x : Value) → Placed (length t) H (length H) x → meaning (t ++ y) H x ≡ meaning t H x
unfolding meaning
meaning_text t y H e x f = meaning_to_lem t y H (good_of (length t) H e) 64 x f

text_alike : {t t' u u' : List ℕ} {H H' : List Cell} → heap_ok (length t) H ≡ true → heap_ok (length t') H' ≡ true → Begins t u → Begins t' u' → (x x' : Value)
    → Both t t' H H' x x' → AlikeValue u u' H H' x x'
text_alike {t} {t'} {H = H} {H' = H'} e e' g g' x x' b =
    rw (g.is, g'.is) (meaning_text t g.more H e x b.left ∙ b.alike ∙ sym (meaning_text t' g'.more H' e' x' b.right))

pub later_alike : {w v : World} {o p : Layout} {m m' : Machine} → Sane w (begin m 0) → Sane (laid_out o w) (begin m' 0) → Begins w.text v.text → Begins o.text p.text
    → v.cell_room ≡ w.cell_room → p.cell_room ≡ o.cell_room → AlikeMachine w o m m' → AlikeMachine v p m m'
later_alike h h' b b' e e' a =
    let on = text_alike h.heap h'.heap b b' in
    record {
      stack = values_on on (boths_of a.stack h.placed h'.placed);
      last = last_on on (last_of_lem a.last h.last h'.last);
      frame = a.frame;
      callers = a.callers;
      free = rw (e, e') a.free;
    }
