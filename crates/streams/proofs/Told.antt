-- What a reading tells, what answers it, and what is said of it.
use mathlib.Core.Path.{◌≡◌, refl, sym, subst}
use mathlib.Core.List.{List}
use Prim.Native.Nat.{ℕ, ◌≤◌}
use lib.ListN.{length, take}
use Rattle.streams.specs.Answers.{Answered, Shown}
use Rattle.std.specs.Prelude.{None, Option, Some}
use Rattle.std.specs.Borrow.{Bor, MutBor}
use Rattle.std.specs.Fn.{Once}
use Rattle.streams.specs.Saying.{Fits, SaidBy}

-- what was read is answered by what is said of it
pub read_answered :
    (says : List ℕ → List ℕ → List ℕ → Type 0) (r : Option ℕ) (n : ℕ) (store out out' : List ℕ) → r ≡ Some n → says (take n store) out out' → Answered says r store out out'
unfolding Answered
read_answered says r n store out out' e h = subst (λ q. Answered says q store out out') (sym e) h

-- what could not be read is answered by nothing
pub failed_answered : (says : List ℕ → List ℕ → List ℕ → Type 0) (r : Option ℕ) (store out : List ℕ) → r ≡ None → Answered says r store out out
unfolding Answered
failed_answered says r store out e = subst (λ q. Answered says q store out out) (sym e) refl

-- what is answered by what is said of it is answered by all that this tells
module _ {says tells : List ℕ → List ℕ → List ℕ → Type 0} (so : (bytes out out' : List ℕ) → says bytes out out' → tells bytes out out') where
  answered_so : (r : Option ℕ) (store out out' : List ℕ) → Answered says r store out out' → Answered tells r store out out'
  unfolding Answered
  answered_so (Some n) store out out' h = so _ _ _ h
  answered_so None store out out' h = h

-- what holds of each call of a function holds of what it says of what was read
module _ {F : Type 0} (g : Once F (Bor (List ℕ) × (MutBor (List ℕ) × Unit {0})) (ℕ × (MutBor (List ℕ) × Unit {0}))) (f : F) where
  pub answered_by : (tells : List ℕ → List ℕ → List ℕ → Type 0)
      → ((bytes : Bor (List ℕ)) (out out' : MutBor (List ℕ)) (n : ℕ) → g.post f (bytes, (out, tt)) (n, (out', tt)) → tells bytes.now out.now out'.now)
      → (r : Option ℕ) (store out out' : List ℕ) → Answered (SaidBy g f) r store out out' → Answered tells r store out out'
  answered_by tells h = answered_so (λ bytes out out' k. rw (← k.1.shows, ← k.1.holds, ← k.1.leaves) (h _ _ _ _ k.1.met))

-- what holds of each call of a function holds of what it says
module _ {F : Type 0} {g : Once F (Bor (List ℕ) × (MutBor (List ℕ) × Unit {0})) (ℕ × (MutBor (List ℕ) × Unit {0}))} {f : F} where
  pub fits_so : ((bytes : Bor (List ℕ)) (out out' : MutBor (List ℕ)) (n : ℕ) → length out'.now ≡ length out.now → g.post f (bytes, (out, tt)) (n, (out', tt)) → n ≤ length out'.now)
      → Fits g f
  fits_so h bytes out out' n k s =
      subst (λ (o : List ℕ). n ≤ length o) s.leaves (h _ _ _ _ (rw (s.holds, s.leaves) k) s.met)

  pub shown_so : (tells : List ℕ → List ℕ → List ℕ → Type 0)
      → ((bytes : Bor (List ℕ)) (out out' : MutBor (List ℕ)) (n : ℕ) → g.post f (bytes, (out, tt)) (n, (out', tt)) → tells bytes.now out.now out'.now)
      → {store out out' : List ℕ} → Shown (SaidBy g f) store out out' → Shown tells store out out'
  shown_so tells h s = record { input = s.input; read = s.read; answered = answered_by g f tells h _ _ _ _ s.answered }
