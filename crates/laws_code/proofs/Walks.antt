-- A listing shows one line for each position where the walk stands, and a step takes the same walk.
use Rattle.std.specs.Prelude.{if◌then◌else◌}
use mathlib.Core.Path.{◌≡◌, refl}
use mathlib.Core.Bool.{Bool, true, false}
use mathlib.Core.List.{List, [], ◌∷◌, ◌++◌}
use Prim.Native.Nat.{ℕ, zero, suc, ◌≤◌}
use lib.Dec.{leb, ltb}
use lib.ListN.{length}
use borrow.Author.Tests.{le-leb, ne_eqb}
use Rattle.model.specs.declared.Op.{Op}
use Rattle.model.specs.declared.Decoded.{Decoded}
use Rattle.model.specs.declared.Decoded.TheVariants as d
use Rattle.model.specs.declared.Refusal.TheVariants as why
use Rattle.model.specs.Opcodes.{operands}
use Rattle.model.specs.Images.{joined}
use Rattle.model.specs.Programs.{Function, Program, behind, opcode_in, next_in, stands_for, stands}
use Rattle.model.specs.Listings.{Listed, text, unlisted, line_of, header_line, in_front, known_then, opcode_then, line_then, lines_for, code_lines, and_listed, listing_from, listing_of}
use Rattle.model.specs.Steps.{World, State, position, code_of, operands_then, decoded_then, fetched, step_of}
use Rattle.laws_code.specs.Walk.{shown_code, shown_from, walked}

-- if there is a text, it is t
unfoldable pub Shows : List ℕ → Listed → Type 0
Shows t (text l) = l ≡ t
Shows t (unlisted l e) = Unit

pub front_shows : (a t : List ℕ) (x : Listed) → Shows t x → Shows (a ++ t) (in_front a x)
unfolding in_front Shows
front_shows a t (text l) h = rw h
front_shows a t (unlisted l e) h = tt

pub and_shows : (a t : List ℕ) (x y : Listed) → Shows a x → Shows t y → Shows (a ++ t) (and_listed x y)
unfolding and_listed Shows
and_shows a t (text l) y h k = rw h (front_shows a t y k)
and_shows a t (unlisted l e) y h k = tt

-- ---- the lines of a code

module _ (line : ℕ → List ℕ) (code : List ℕ) where
  module _ (n : ℕ) (k : ℕ → Listed) (so : (i : ℕ) → Shows (joined line (stands_for n code i)) (k i)) (i : ℕ) where
    abbrev onward : List ℕ
    onward = line i ++ joined line (stands_for n code (next_in code i))

    if_shows : (b : Bool) (x : Listed) → Shows onward x → Shows onward (if b then x else unlisted [] why.CodeEnds)
    unfolding Shows
    if_shows true x h = h
    if_shows false x h = tt

    known_shows : Shows onward (known_then k line code i)
    unfolding known_then
    known_shows = if_shows (leb (next_in code i) (length code)) _ (front_shows (line i) _ _ (so (next_in code i)))

    opcode_shows : (x : Decoded) → Shows onward (opcode_then k line code i x)
    unfolding opcode_then Shows
    opcode_shows (d.Carried p) = known_shows
    opcode_shows d.NotCarried = known_shows
    opcode_shows d.Unknown = tt

    line_shows : (b : Bool) → Shows (joined line (if b then i ∷ stands_for n code (next_in code i) else [])) (line_then k line code i b)
    unfolding line_then joined Shows
    line_shows true = opcode_shows (opcode_in code i).what
    line_shows false = refl

  pub lines_show : (n i : ℕ) → Shows (joined line (stands_for n code i)) (lines_for line n code i)
  unfolding lines_for stands_for joined Shows
  lines_show zero i = refl
  lines_show (suc n) i = line_shows n (lines_for line n code) (lines_show n) i (ltb i (length code))

functions_show : (i : ℕ) (fs : List Function) → Shows (shown_from i fs) (listing_from i fs)
unfolding listing_from shown_from shown_code stands Shows
functions_show i [] = refl
functions_show i (f ∷ fs) =
    front_shows (header_line i f.name) _ _
    (and_shows _ _ (code_lines f.code) (listing_from (suc i) fs) (lines_show (line_of f.code) f.code (length f.code) 0) (functions_show (suc i) fs))

-- THE LAW: what a listing shows is, function by function, one line for each position where the walk stands, in that order and no other
pub listing_shows_the_walk : (p : Program) (t : List ℕ) → listing_of p ≡ text t → t ≡ shown_from 0 p.functions
unfolding listing_of Shows
listing_shows_the_walk p t e = let h : Shows (shown_from 0 p.functions) (text t) = rw e at (functions_show 0 p.functions) in h

-- ---- a step

-- THE LAW: a step of a carried opcode that is all there goes on from where the walk stands next
pub step_takes_the_walk : (w : World) (s : State) (p : Op) → (s.units ≡ 0 → ⊥) → (opcode_in (code_of w s) (position s)).what ≡ d.Carried p
    → next_in (code_of w s) (position s) ≤ length (code_of w s) → step_of w s ≡ walked w p s
unfolding step_of fetched decoded_then operands_then walked code_of behind operands
step_takes_the_walk w s p paid e h = rw (ne_eqb _ _ paid, e, le-leb _ _ h)
