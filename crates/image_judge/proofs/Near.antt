-- A number takes five bytes at most.
use mathlib.Core.Path.{◌≡◌, ap}
use mathlib.Core.List.{List, [], ◌∷◌}
use Prim.Native.Nat.{ℕ, zero, suc, ◌+◌, ◌≤◌}
use native.Mathlib.Omega.{arith}
use lib.Dec.{ltb}
use lib.ListN.{length, drop, length-drop}
use Rattle.model.specs.Numbers.{Step, got, bad, item, more, groups, number}
use Rattle.image_judge.specs.Links.{Good}
use Rattle.layout.proofs.Bools.{either_way}
use Rattle.number.proofs.Codes.{never}
use Rattle.laws_images.proofs.Codecs.{got_rest}

more_only : (d : ℕ) (x : Step ℕ) (v : ℕ) (r : List ℕ) → more d x ≡ got v r → (q : ℕ) × (x ≡ got q r)
unfolding more
more_only d (got zero r') v r e = absurd (never e)
more_only d (got (suc q) r') v r e = (suc q, ap (got (suc q)) (got_rest e))
more_only d (bad n) v r e = absurd (never e)

groups_near : (f : ℕ) (b : List ℕ) (v : ℕ) (r : List ℕ) → groups f b ≡ got v r → length b ≤ length r + suc f
unfolding groups
groups_near zero [] v r e = absurd (never e)
groups_near (suc f) [] v r e = absurd (never e)
groups_near zero (x ∷ b) v r e = either_way (ltb x 16)
    (λ t. let z : length b ≡ length r = ap length (got_rest (rw t at e)) in omega arith)
    (λ t. absurd (never (rw t at e)))
groups_near (suc f) (x ∷ b) v r e = either_way (ltb x 128)
    (λ t. let z : length b ≡ length r = ap length (got_rest (rw t at e)) in omega arith)
    (λ t.
    let q = more_only _ (groups f b) v r (rw t at e) in
    let z : length b ≤ length r + suc f = groups_near f b q.0 r q.1 in
    omega arith)

item_only : (b : List ℕ) (x : Step ℕ) (v : ℕ) (r : List ℕ) → item b x ≡ got v r → x ≡ got v r
unfolding item
item_only b (got a q) v r e = e
item_only b (bad n) v r e = absurd (never e)

pub number_near : (s : List ℕ) (at next v : ℕ) → Good number s at next v → next ≤ at + 5
unfolding number
number_near s at next v g =
    let h = groups_near 4 (drop at s) v (drop next s) (item_only (drop at s) (groups 4 (drop at s)) v (drop next s) g.means) in
    let a = length-drop at s in let b = length-drop next s in let c = g.within in
    omega arith
