-- What an answer stands for, and the stores that the listing is lent.
use Rattle.std.specs.Prelude.{◌≡◌, List, ℕ, ◌+◌, ◌≤◌, length, Err, Ok, Result}
use Rattle.model.specs.Listings.{Listed, text, unlisted}
use Rattle.model.specs.Stores.{Stores}
use Rattle.model.specs.Emission.{written}
use Rattle.model.specs.declared.Refusal.{Refusal}

-- the answer where a listing begins at place i: the place behind it, or its refusal
abbrev pub told_of : ℕ → Listed → Result ℕ Refusal
told_of i (text l) = Ok (i + length l)
told_of i (unlisted l n) = Err n

-- the text that is put: all of it, or what stands before the refusal
abbrev pub text_of : Listed → List ℕ
text_of (text l) = l
text_of (unlisted l n) = l

-- a place that is told is at most m
abbrev pub Near : ℕ → Result ℕ Refusal → Type 0
Near m (Ok n) = n ≤ m
Near m (Err n) = Unit

-- a listing was put into s from place i on, as far as s reaches and up to what is refused; r answers, at most k further
pub record Listing (k : ℕ) (w : Listed) (s : List ℕ) (i : ℕ) (s' : List ℕ) (r : Result ℕ Refusal) : Type 0 where
  pub means : r ≡ told_of i w
  pub stored : s' ≡ written s i (text_of w)
  pub near : Near (i + k) r

-- functions, text and the code of main and of the others, over any rest
unfoldable pub lent : Stores → List ℕ → List ℕ → List ℕ → List ℕ → Stores
lent rest fs t m o = record {
  constants = rest.constants;
  structs = rest.structs;
  functions = fs;
  text = t;
  main = m;
  main_places = rest.main_places;
  other = o;
  other_places = rest.other_places;
}
