-- A listing is refused by 1 or 3 and by no other number.
use Rattle.std.specs.Prelude.{if◌then◌else◌}
use mathlib.Core.Path.{◌≡◌, refl}
use mathlib.Core.Bool.{Bool, true, false, ◌||◌}
use mathlib.Core.List.{List, [], ◌∷◌}
use Prim.Native.Nat.{ℕ, zero, suc}
use lib.Dec.{eqb, leb, ltb}
use lib.ListN.{length}
use Rattle.model.specs.declared.Decoded.{Decoded}
use Rattle.model.specs.declared.Decoded.TheVariants as d
use Rattle.model.specs.declared.Refusal.{Refusal}
use Rattle.model.specs.declared.Refusal.TheVariants as why
use Rattle.model.specs.Answers.{refusal_number}
use Rattle.model.specs.Programs.{Function, Program, next_in}
use Rattle.model.specs.Listings.{line_of, Listed, text, unlisted, in_front, known_then, opcode_then, line_then, lines_for, and_listed, listing_from, listing_of}

unfoldable OneOrThree : Listed → Type 0
OneOrThree (text bytes) = Unit
OneOrThree (unlisted l e) = (eqb (refusal_number e) 1 || eqb (refusal_number e) 3) ≡ true

front_so : (l : List ℕ) (x : Listed) → OneOrThree x → OneOrThree (in_front l x)
unfolding in_front OneOrThree
front_so l (text r) h = tt
front_so l (unlisted r e) h = h

and_so : (x y : Listed) → OneOrThree x → OneOrThree y → OneOrThree (and_listed x y)
unfolding and_listed OneOrThree
and_so (text l) y h k = front_so l y k
and_so (unlisted l e) y h k = h

if_so : (b : Bool) (x : Listed) → OneOrThree x → OneOrThree (if b then x else unlisted [] why.CodeEnds)
unfolding OneOrThree
if_so true x h = h
if_so false x h = refl

module _ (line : ℕ → List ℕ) (code : List ℕ) where
  module _ (k : ℕ → Listed) (so : (i : ℕ) → OneOrThree (k i)) (i : ℕ) where
    known_so : OneOrThree (known_then k line code i)
    unfolding known_then
    known_so = if_so (leb (next_in code i) (length code)) (in_front (line i) (k (next_in code i))) (front_so _ _ (so _))

    opcode_so : (x : Decoded) → OneOrThree (opcode_then k line code i x)
    unfolding opcode_then OneOrThree
    opcode_so (d.Carried p) = known_so
    opcode_so d.NotCarried = known_so
    opcode_so d.Unknown = refl

    line_so : (b : Bool) → OneOrThree (line_then k line code i b)
    unfolding line_then OneOrThree
    line_so true = opcode_so _
    line_so false = tt

  lines_so : (n i : ℕ) → OneOrThree (lines_for line n code i)
  unfolding lines_for OneOrThree
  lines_so zero i = tt
  lines_so (suc n) i = line_so (lines_for line n code) (lines_so n) i (ltb i (length code))

listing_so : (i : ℕ) (fs : List Function) → OneOrThree (listing_from i fs)
unfolding listing_from OneOrThree
listing_so i [] = tt
listing_so i (f ∷ fs) = front_so _ _ (and_so _ _ (lines_so (line_of f.code) f.code (length f.code) 0) (listing_so (suc i) fs))

pub listing_numbers : (p : Program) (l : List ℕ) (e : Refusal) → listing_of p ≡ unlisted l e → (eqb (refusal_number e) 1 || eqb (refusal_number e) 3) ≡ true
unfolding listing_of OneOrThree
listing_numbers p l e is = let h : OneOrThree (unlisted l e) = rw is at (listing_so 0 p.functions) in h
