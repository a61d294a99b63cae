-- The groups that begin at place i of s, and what each way through `read_groups` answers.
use mathlib.Core.Path.{◌≡◌, refl, ap, ◌∙◌}
use mathlib.Core.List.{List, ◌∷◌}
use Prim.Native.Nat.{ℕ, zero, suc, ◌+◌, ◌-◌, ◌*◌, ◌≤◌, ◌<◌, ◌^◌}
use native.Mathlib.Omega.{arith}
use native.Mathlib.Nat.{zero-add, suc-add, le_refl, pos_of_ne-zero}
use native.Mathlib.Numerals.{add-one}
use lib.ListN.{length, drop, get_or, length-drop, drop_of_length-le}
use lib.Seq.{drop-cons}
use Rattle.model.specs.Numbers.{got, bad, item, more, groups, number}
use Rattle.number.specs.Links.{limit, step_of, GroupsPost, NumPost}
use Rattle.number.proofs.Digits.{limit_4}
use Rattle.number.proofs.Codes.{last_group, front_group, end_group, no_group, below}
use Rattle.std.specs.Prelude.{None, Option, Some}

-- a group in front of others that are not 0
more_some : (d q : ℕ) (r : List ℕ) → 0 < q → more d (got q r) ≡ got (d + 128 * q) r
unfolding more
more_some d zero r h = absurd (let z : ⊥ = omega arith in z)
more_some d (suc q) r h = refl

grows : (k f : ℕ) → limit f ≤ limit (k + f)
unfolding limit
grows zero f = rw zero-add (le_refl (limit f))
grows (suc k) f = rw suc-add (let z : limit f ≤ limit (k + f) = grows k f in omega arith)

-- four groups and a last one below 16 stay below 2 ^ 32
pub fits : (s : List ℕ) (i f v next : ℕ) → f ≤ 4 → GroupsPost f s i (Some (v, next)) → v < 2 ^ 32
fits s i f v next h p =
    let e : 4 - f + f ≡ 4 = omega arith in
    let g : limit f ≤ limit 4 = rw e at (grows (4 - f) f) in
    let z : limit 4 ≡ 2 ^ 32 = limit_4 in
    let l : v < limit f = p.ahead.2 in
    omega arith

module _ (s : List ℕ) (i f : ℕ) where
  -- no byte is left
  pub no_byte : length s ≤ i → GroupsPost f s i None
  unfolding groups
  no_byte h = record { means = rw (drop_of_length-le s h); ahead = tt }

  -- x is the byte there
  module _ (h : i < length s) (x : ℕ) (ex : x ≡ get_or s i 0) where
    byte : drop i s ≡ x ∷ drop (i + 1) s
    byte = rw (add-one, ex) (drop-cons s i 0 h)

    -- the last group that can be
    pub end_small : f ≡ 0 → x < 16 → GroupsPost f s i (Some (x, (i + 1)))
    unfolding limit
    end_small e l = record { means = rw (byte, e) (end_group _ _ l); ahead = (omega arith, omega arith, rw e l) }

    pub end_large : f ≡ 0 → 16 ≤ x → GroupsPost f s i None
    end_large e g = record { means = rw (byte, e) (no_group _ _ g); ahead = tt }

    module _ (n : f ≡ 0 → ⊥) where
      one_more : f ≡ suc (f - 1)
      one_more = let p : 0 < f = pos_of_ne-zero n in omega arith

      pub last : x < 128 → GroupsPost f s i (Some (x, (i + 1)))
      last l = record {
        means = rw (byte, one_more) (last_group _ _ _ l);
        ahead = (omega arith, omega arith, rw one_more (below (f - 1) x l));
      }

      -- others follow, and were read as r
      module _ (g : 128 ≤ x) (r : Option (ℕ × ℕ)) (p : GroupsPost (f - 1) s (i + 1) r) where
        front : groups f (drop i s) ≡ more (x - 128) (step_of 0 s r)
        front = rw (byte, one_more) (front_group _ _ _ g ∙ ap (more (x - 128)) p.means)

        pub broken : r ≡ None → GroupsPost f s i None
        unfolding more
        broken e = record { means = front ∙ rw e; ahead = tt }

        module _ (q next : ℕ) (e : r ≡ Some (q, next)) where
          -- they are 0: a shorter form would do
          pub padded : q ≤ 0 → GroupsPost f s i None
          unfolding more
          padded z = record { means = front ∙ rw (e, (let w : q ≡ 0 = omega arith in w)); ahead = tt }

          pub joined : x < 256 → 0 < q → GroupsPost f s i (Some ((x - 128 + 128 * q), next))
          unfolding limit
          joined b z =
              let a : (i + 1 < next) × (next ≤ length s) × (q < limit (f - 1)) = rw e at p.ahead in
              record {
                means = front ∙ rw e (more_some _ q _ z);
                ahead = (omega arith, omega arith, rw one_more (omega arith));
              }

-- what five groups at most stand for
pub whole : (s : List ℕ) (i : ℕ) (r : Option (ℕ × ℕ)) → GroupsPost 4 s i r → NumPost s i r
unfolding number item
whole s i (Some (v, next)) p = record {
  means = rw p.means;
  ahead = (p.ahead.0, p.ahead.1, rw limit_4 at p.ahead.2);
}
whole s i None p = record { means = rw p.means (ap bad (length-drop i s)); ahead = tt }
