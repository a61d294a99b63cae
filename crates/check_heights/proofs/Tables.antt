-- The table of heights: an entry is put, and the table is cleared.
use mathlib.Core.Path.{◌≡◌, refl, sym, subst, ◌∙◌}
use mathlib.Core.Bool.{Bool, true, false}
use mathlib.Core.List.{List}
use Prim.Native.Nat.{ℕ, zero, suc, ◌+◌, ◌-◌, ◌<◌}
use native.Mathlib.Omega.{arith}
use native.Mathlib.Decide.{ℕ_discrete}
use lib.ListN.{length, get_or, set, replicate, length-set, length-replicate}
use lib.Seq.{get_or-set_same, get_or-set_other}
use Rattle.check_heights.specs.declared.Flaw.{Flaw}
use Rattle.check_heights.specs.declared.Flaw.TheVariants as w
use Rattle.check_heights.specs.Links.{Known, Unknown, From, old, new, clash, SendPost, prepared}
use Rattle.check_heights.proofs.Walks.{not_both}
use Rattle.std.specs.Prelude.{Err, Ok, Result}

pub known_one : {t : List ℕ} {k x y : ℕ} → Known t k x → Known t k y → x ≡ y
known_one a b = omega (arith, a.is, b.is)

pub known_or_not : {t : List ℕ} {k x : ℕ} → Known t k x → Unknown t k → ⊥
known_or_not a b = omega (arith, a.is, b.is)

pub known_at : (t : List ℕ) (i : ℕ) → (get_or t i 0 ≡ 0 → ⊥) → Known t i (get_or t i 0 - 1)
known_at t i n = record { is = omega arith }

-- ---- a height is put

module _ (j g : ℕ) (t : List ℕ) where
  module _ (u : get_or t j 0 ≡ 0) (l : j < length t) where
    put_made : {k x : ℕ} → Known (set t j (g + 1)) k x → Dec (k ≡ j) → From true j g t k x
    put_made {k} {x} z (yes e) =
        let w = get_or-set_same t j (g + 1) 0 l in
        let y : get_or (set t j (g + 1)) j 0 ≡ x + 1 = subst (λ (n : ℕ). get_or (set t j (g + 1)) n 0 ≡ x + 1) e z.is in
        let q : x ≡ g = omega arith in
        rw (e, q) (new refl)
    put_made {k} z (no e) = old (record { is = sym (get_or-set_other t j k (g + 1) 0 e) ∙ z.is })

    put_keeps : {k x : ℕ} → Known t k x → Dec (k ≡ j) → Known (set t j (g + 1)) k x
    put_keeps {x = x} z (yes e) = let y : get_or t j 0 ≡ x + 1 = subst (λ (n : ℕ). get_or t n 0 ≡ x + 1) e z.is in absurd (omega arith)
    put_keeps {k} z (no e) = record { is = get_or-set_other t j k (g + 1) 0 e ∙ z.is }

    -- where no height is known
    pub put_new : SendPost true j g t (Ok tt) (set t j (g + 1))
    put_new = record {
      means = record {
        done = λ q. record { is = get_or-set_same t j (g + 1) 0 l };
        keeps = λ {k} {x} z. put_keeps z (ℕ_discrete k j);
        made = λ {k} {x} z. put_made z (ℕ_discrete k j);
      };
    }

  -- where it is this one
  pub put_old : get_or t j 0 ≡ g + 1 → SendPost true j g t (Ok tt) t
  put_old e = record {
    means = record {
      done = λ q. record { is = e };
      keeps = λ {k} {x} z. z;
      made = λ {k} {x} z. old z;
    };
  }

  -- where it is another
  pub put_other : (get_or t j 0 ≡ 0 → ⊥) → (get_or t j 0 ≡ g + 1 → ⊥) → SendPost true j g t (Err (w.Differs j (get_or t j 0 - 1) g)) t
  put_other u n = record { means = clash refl (known_at t j u) (λ q. n (omega arith)) }

  -- ---- a height is sent, if go

  pub not_sent : {go : Bool} → go ≡ false → SendPost go j g t (Ok tt) t
  not_sent e = record {
    means = record {
      done = λ q. absurd (not_both q e);
      keeps = λ {k} {x} z. z;
      made = λ {k} {x} z. old z;
    };
  }

  pub is_sent : {go : Bool} {x : Result Unit Flaw} {t' : List ℕ} → go ≡ true → SendPost true j g t x t' → SendPost go j g t x t'
  is_sent e p = rw e p

-- ---- the table is cleared, and then the start is put

pub prepared_is : (t t₁ : List ℕ) (count : ℕ) → t₁ ≡ replicate (length t) 0 → set t₁ 0 (count + 1) ≡ prepared count (length t)
unfolding prepared
prepared_is t t₁ count e = rw e

-- ---- only the start is known

pub prepared_length : (count n : ℕ) → length (prepared count n) ≡ n
unfolding prepared
prepared_length count n = length-set (replicate n 0) 0 (count + 1) ∙ length-replicate n 0

pub prepared_start : (count n : ℕ) → 0 < n → Known (prepared count n) 0 count
unfolding prepared
prepared_start count n l =
    let z = length-replicate {A = ℕ} n 0 in
    record { is = get_or-set_same (replicate n 0) 0 (count + 1) 0 (omega arith) }

zeros : (n k : ℕ) → ◌≡◌ {A = ℕ} (get_or (replicate n 0) k 0) 0
zeros zero k = refl
zeros (suc n) zero = refl
zeros (suc n) (suc k) = zeros n k

pub prepared_rest : (count n k : ℕ) → Unknown (prepared count n) (suc k)
unfolding prepared
prepared_rest count n k =
    record { is = get_or-set_other (replicate n 0) 0 (suc k) (count + 1) 0 (λ e. omega arith) ∙ zeros n (suc k) }
