-- In good order the values of a state are trees.
use mathlib.Core.Path.{refl, ap, subst, ◌∙◌}
use mathlib.Core.List.{List, ◌∷◌}
use Prim.Native.Nat.{ℕ}
use lib.ListN.{length}
use Rattle.model.specs.Heap.{Cell}
use Rattle.model.specs.Trees.{meaning}
use Rattle.model.specs.Steps.{World, State, went, returned}
use Rattle.model.specs.Runs.{Progress}
use Rattle.cells.proofs.Meaning.{equal_is_trees, new_list, new_struct, field_is, meaning_kept}
use Rattle.laws_runs.specs.Sane.{AllPlaced, Sane}
use Rattle.laws_runs.specs.Paths.{Grows, Adds, Steps, none, on, ret}
use Rattle.laws_runs.proofs.Does.{list, struct}
use Rattle.laws_runs.proofs.Adds.{grows_none, grows_on, step_adds}
use Rattle.laws_runs.proofs.Placed.{every_made}
use Rattle.demands.specs.Trees.{means, AsTrees}

-- the cells of a state stay, with more behind them
path_grows : {w : World} {n : ℕ} {m k : Progress} {s t : State} → Steps w n m s k t → Grows s.heap t.heap
path_grows {s = s} none = grows_none s.heap
path_grows {w} (on {s = s} {s' = s'} o q p) =
    let z : Adds s.heap s.last (went s') = subst (Adds s.heap s.last) q (step_adds w s) in grows_on z.0 (path_grows p)
path_grows {w} (ret {s = s} {s' = s'} {t = t} {v = x} o q p) =
    let z : Adds s.heap s.last (returned x s') = subst (Adds s.heap s.last) q (step_adds w s) in subst (λ (H : List Cell). Grows H t.heap) z.0 (path_grows p)

pub as_trees : (w : World) (s : State) → Sane w s → AsTrees w s
unfolding means AllPlaced
as_trees w s h = record {
  equal = λ y x r e. let a : AllPlaced (length w.text) s.heap (y ∷ x ∷ r) = rw e at h.placed in equal_is_trees w.text s.heap h.heap x y a.1.0 a.0;
  list_built = λ n H q. new_list w.text w.cell_room s.heap 0 _ H h.heap (every_made (length w.text) s.heap list n s.stack h.placed) q refl;
  struct_built = λ k n H q. new_struct w.text w.cell_room s.heap k _ H h.heap (every_made (length w.text) s.heap (struct k) n s.stack h.placed) q;
  field = λ p i r x e q k us z. let a : AllPlaced (length w.text) s.heap (_ ∷ r) = rw e at h.placed in field_is w.text s.heap h.heap p i a.0 x q k us z;
  later = λ p x e. let g = path_grows p in ap (λ (H : List Cell). meaning w.text H x) g.is ∙ meaning_kept w.text s.heap g.more h.heap x e;
}
