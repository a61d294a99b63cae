-- What is listed, part by part: the text so far was put, and what is left decides the whole.
use mathlib.Core.Path.{◌≡◌, refl, sym, ap, ◌∙◌}
use mathlib.Core.List.{List, [], ◌++◌, append_assoc, append-nil}
use Prim.Native.Nat.{ℕ, ◌+◌, ◌≤◌}
use native.Mathlib.Omega.{arith}
use Rattle.model.specs.Listings.{Listed, text, unlisted, in_front, and_listed}
use Rattle.model.specs.Emission.{written}
use Rattle.listing.specs.Links.{Listing}
use Rattle.printing.specs.Links.{Put}
use Rattle.printing.proofs.Puts.{written_both, within, both, nothing}
use Rattle.std.specs.Prelude.{Err, Ok, Result}
use Rattle.model.specs.declared.Refusal.{Refusal}

-- ---- the model's joints

front_none : (x : Listed) → in_front [] x ≡ x
unfolding in_front
front_none (text l) = refl
front_none (unlisted l n) = refl

front_front : (a b : List ℕ) (x : Listed) → in_front a (in_front b x) ≡ in_front (a ++ b) x
unfolding in_front
front_front a b (text l) = ap text (sym (append_assoc a b l))
front_front a b (unlisted l n) = ap (λ (x : List ℕ). unlisted x n) (sym (append_assoc a b l))

pub front_and : (a : List ℕ) (x y : Listed) → in_front a (and_listed x y) ≡ and_listed (in_front a x) y
unfolding in_front and_listed
front_and a (text l) y = front_front a l y
front_and a (unlisted l n) y = refl

-- ---- an answer taken apart, and put together

-- the whole is a text, and it was put
pub record Wrote (k : ℕ) (w : Listed) (s : List ℕ) (i : ℕ) (s' : List ℕ) (r : ℕ) : Type 0 where
  pub l : List ℕ
  pub is_text : w ≡ text l
  pub put : Put k l s i s' r

pub wrote : {k : ℕ} (w : Listed) {s : List ℕ} {i : ℕ} {s' : List ℕ} {r : ℕ} → Listing k w s i s' (Ok r) → Wrote k w s i s' r
wrote (text l) h = record { l = l; is_text = refl; put = record { stored = h.stored; next = let e = h.means in cc; near = h.near } }
wrote (unlisted l n) h = absurd (let e = h.means in let z : ◌≡◌ {A = ℕ} 0 1 = cc in let y : ⊥ = omega arith in y)

-- the whole is refused, behind a text that was put
pub record NotWrote (w : Listed) (s : List ℕ) (i : ℕ) (s' : List ℕ) (e : Refusal) : Type 0 where
  pub l : List ℕ
  pub is_refused : w ≡ unlisted l e
  pub stored : s' ≡ written s i l

pub not_wrote : {k : ℕ} (w : Listed) {s : List ℕ} {i : ℕ} {s' : List ℕ} {e : Refusal} → Listing k w s i s' (Err e) → NotWrote w s i s' e
not_wrote (text l) h = absurd (let e = h.means in let z : ◌≡◌ {A = ℕ} 0 1 = cc in let y : ⊥ = omega arith in y)
not_wrote (unlisted l n) h = record { l = l; is_refused = let e = h.means in cc; stored = h.stored }

pub listed : {k : ℕ} {w : Listed} {l s : List ℕ} {i : ℕ} {s' : List ℕ} {r : ℕ} → w ≡ text l → Put k l s i s' r → Listing k w s i s' (Ok r)
listed e p = record { means = rw e (ap Ok p.next); stored = rw e p.stored; near = p.near }

-- a text that was put, and a refusal behind it
not_listed : (l : List ℕ) {k m : ℕ} {w : Listed} {a : List ℕ} {n : Refusal} {s : List ℕ} {i : ℕ} {s' : List ℕ} {j : ℕ} {t : List ℕ}
    → w ≡ unlisted (a ++ l) n → Put k a s i s' j → t ≡ written s' j l → Listing m w s i t (Err n)
not_listed l {a = a} {s = s} {i} e p q = record {
  means = rw e;
  stored = rw (e, q, p.stored, p.next) (written_both s i a l);
  near = tt;
}

-- a text, and a listing behind it
pub then : {k m : ℕ} {a : List ℕ} {w : Listed} {s : List ℕ} {i : ℕ} {s' : List ℕ} {j : ℕ} {t : List ℕ} (r : Result ℕ Refusal) → Put k a s i s' j → Listing m w s' j t r → Listing (k + m) (in_front a w) s i t r
unfolding in_front
then (Ok r) p h = let q = wrote _ h in listed (ap (in_front _) q.is_text) (both p q.put)
then (Err n) p h = let q = not_wrote _ h in not_listed q.l (ap (in_front _) q.is_refused) p q.stored

-- ---- a loop

-- the text so far is done, and x is left of the whole
pub record Sofar (k : ℕ) (whole x : Listed) (s : List ℕ) (at : ℕ) (s' : List ℕ) (r : ℕ) : Type 0 where
  pub done : List ℕ
  pub put : Put k done s at s' r
  pub splits : whole ≡ in_front done x

pub at_start : (w : Listed) (s : List ℕ) (at : ℕ) → Sofar 0 w w s at s at
at_start w s at = record { done = []; put = nothing s at; splits = sym (front_none w) }

module _ {k : ℕ} {w x : Listed} {s : List ℕ} {at : ℕ} {s' : List ℕ} {r : ℕ} (h : Sofar k w x s at s' r) where
  pub onward : {m : ℕ} {l : List ℕ} {y : Listed} {t : List ℕ} {q : ℕ} → x ≡ in_front l y → Put m l s' r t q → (n : ℕ) → k + m ≤ n → Sofar n w y s at t q
  onward {l = l} {y} e p n g = record {
    done = h.done ++ l;
    put = within (both h.put p) n g;
    splits = h.splits ∙ ap (in_front h.done) e ∙ front_front h.done l y;
  }

  -- what is left is refused, behind a text that was put
  pub stops : {l t : List ℕ} {n : Refusal} → x ≡ unlisted l n → t ≡ written s' r l → {m : ℕ} → Listing m w s at t (Err n)
  unfolding in_front
  stops {l} e q = not_listed l (h.splits ∙ ap (in_front h.done) e) h.put q

  pub completes : x ≡ text [] → (n : ℕ) → k ≤ n → Listing n w s at s' (Ok r)
  unfolding in_front
  completes e n g = listed (h.splits ∙ ap (in_front h.done) e ∙ ap text (append-nil h.done)) (within h.put n g)
