-- Texts put into a store, one behind the other.
use mathlib.Core.Path.{◌≡◌, refl, sym, ap, ◌∙◌}
use mathlib.Core.List.{List, [], ◌∷◌, ◌++◌}
use Prim.Native.Nat.{ℕ, suc, ◌+◌, ◌≤◌, ◌<◌}
use native.Mathlib.Omega.{arith}
use native.Mathlib.Numerals.{add-one}
use lib.ListN.{length, get_or, set, take, length-append}
use lib.Seq.{set_out, take-suc, take_all}
use Rattle.model.specs.Emission.{written}
use Rattle.layout.proofs.Writing.{length_written}
use Rattle.printing.specs.Links.{Put}

-- a and then b is a ++ b
pub written_both : (s : List ℕ) (i : ℕ) (a b : List ℕ) → written (written s i a) (i + length a) b ≡ written s i (a ++ b)
unfolding written
written_both s i [] b = let z : i + 0 ≡ i = omega arith in rw z
written_both s i (x ∷ a) b = let z : i + suc (length a) ≡ suc i + length a = omega arith in rw z (written_both (set s i x) (suc i) a b)

module _ {k : ℕ} {a s : List ℕ} {i : ℕ} {s' : List ℕ} {j : ℕ} (p : Put k a s i s' j) where
  pub kept : length s' ≡ length s
  kept = ap length p.stored ∙ length_written s i a

  pub within : (m : ℕ) → k ≤ m → Put m a s i s' j
  within m h = let n = p.near in record { stored = p.stored; next = p.next; near = omega arith }

  pub is : {b : List ℕ} → a ≡ b → Put k b s i s' j
  is e = rw e at p

  pub both : {m : ℕ} {b t : List ℕ} {r : ℕ} → Put m b s' j t r → Put (k + m) (a ++ b) s i t r
  both {m} {b} q =
      let n = p.near in
      let o = q.near in
      let e = p.next in
      let f = q.next in
      let l : length (a ++ b) ≡ length a + length b = length-append a b in
      record {
        stored = q.stored ∙ rw (p.stored, e) (written_both s i a b);
        next = omega arith;
        near = omega arith;
      }

-- ---- a byte, where the store has room for it and where not

pub nothing : (s : List ℕ) (i : ℕ) → Put 0 [] s i s i
unfolding written
nothing s i = record { stored = refl; next = omega arith; near = omega arith }

pub byte_inside : (b : ℕ) (s : List ℕ) (i : ℕ) → Put 1 (b ∷ []) s i (set s i b) (i + 1)
unfolding written
byte_inside b s i = record { stored = refl; next = omega arith; near = omega arith }

pub byte_past : (b : ℕ) (s : List ℕ) (i : ℕ) → length s ≤ i → Put 1 (b ∷ []) s i s (i + 1)
unfolding written
byte_past b s i h = record { stored = sym (set_out s i b h); next = omega arith; near = omega arith }

-- ---- a text, byte by byte

-- the first i bytes of l were put
pub record Along (l s : List ℕ) (at : ℕ) (s' : List ℕ) (i r : ℕ) : Type 0 where
  pub so_far : i ≤ length l
  pub put : Put i (take i l) s at s' r

pub at_first : (l s : List ℕ) (at : ℕ) → Along l s at s 0 at
at_first l s at = record { so_far = omega arith; put = nothing s at }

module _ {l s : List ℕ} {at : ℕ} {s' : List ℕ} {i r : ℕ} (h : Along l s at s' i r) where
  pub another : (x d : ℕ) → x ≡ get_or l i d → i < length l → {t : List ℕ} {r' : ℕ} → Put 1 (x ∷ []) s' r t r' → Along l s at t (i + 1) r'
  another x d e g p = record {
    so_far = omega arith;
    put = is (both h.put p) (sym (rw (add-one, take-suc l i d g, ← e)));
  }

  pub whole : length l ≤ i → Put (length l) l s at s' r
  whole g = within (is h.put (take_all i l g)) (length l) h.so_far
