-- The listing with notes shows one line for each position where the walk stands.
use mathlib.Core.Path.{◌≡◌, refl}
use mathlib.Core.List.{List, [], ◌∷◌}
use Prim.Native.Nat.{ℕ, suc}
use lib.ListN.{length}
use Rattle.model.specs.Programs.{Function, Program, stands}
use Rattle.model.specs.Listings.{text, header_line}
use Rattle.laws_code.proofs.Walks.{Shows, front_shows, and_shows, lines_show}
use Rattle.notes.specs.Notes.{Known, known_of, noted_line, noted_code, noted_from, noted_listing}
use Rattle.noted_listing.specs.Walk.{noted_walk}

functions_show : (known : Known) (i : ℕ) (fs : List Function) → Shows (noted_walk known i fs) (noted_from known i fs)
unfolding noted_from noted_walk stands Shows
functions_show known i [] = refl
functions_show known i (f ∷ fs) =
    let own = lines_show (noted_line known f.code f.places) f.code (length f.code) 0 in
    front_shows (header_line i f.name) _ _ (and_shows _ _ (noted_code known f.code f.places) (noted_from known (suc i) fs) own (functions_show known (suc i) fs))

-- THE LAW: the sibling of listing-shows-the-walk
pub notes_show_the_walk : (p : Program) (t : List ℕ) → noted_listing p ≡ text t → t ≡ noted_walk (known_of p) 0 p.functions
unfolding noted_listing Shows
notes_show_the_walk p t e = let h : Shows (noted_walk (known_of p) 0 p.functions) (text t) = rw e at (functions_show (known_of p) 0 p.functions) in h
