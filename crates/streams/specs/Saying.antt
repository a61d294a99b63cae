-- What a function that is called once, at bytes and at a store, says of the bytes: it puts a text at the store's front and answers how many bytes that has.
use Rattle.std.specs.Prelude.{◌≡◌, List, ℕ, ◌≤◌, length}
use Rattle.std.specs.Borrow.{Bor, MutBor}
use Rattle.std.specs.Fn.{Once}

module _ {F : Type 0} (g : Once F (Bor (List ℕ) × (MutBor (List ℕ) × Unit {0})) (ℕ × (MutBor (List ℕ) × Unit {0}))) (f : F) where
  -- at these bytes and a store `out` it may answer n, and leave out'
  pub record Said (bytes out : List ℕ) (n : ℕ) (out' : List ℕ) : Type 0 where
    pub shown : Bor (List ℕ)
    pub shows : shown.now ≡ bytes
    pub store : MutBor (List ℕ)
    pub holds : store.now ≡ out
    pub left : MutBor (List ℕ)
    pub met : g.post f (shown, (store, tt)) (n, (left, tt))
    pub leaves : left.now ≡ out'

  -- the text lies in the store
  abbrev pub Fits : Type 0
  Fits = (bytes out out' : List ℕ) (n : ℕ) → length out' ≡ length out → Said bytes out n out' → n ≤ length out'

  -- what may be left of a store once something was said
  abbrev pub SaidBy : List ℕ → List ℕ → List ℕ → Type 0
  SaidBy bytes out out' = (n : ℕ) × Said bytes out n out'
