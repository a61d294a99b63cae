-- What the notes are lent: a function's places, and what a program's operands can name.
use mathlib.Core.Path.{◌≡◌, refl, ap}
use mathlib.Core.List.{List, ◌∷◌, map}
use Prim.Native.Nat.{ℕ, zero, suc, ◌+◌, ◌*◌, ◌≤◌, ◌<◌, ◌^◌}
use native.Mathlib.Omega.{arith}
use lib.ListN.{length}
use borrow.Author.Tests.{eq-eqb, ne_eqb}
use Rattle.model.specs.declared.Counts.{Counts}
use Rattle.model.specs.Values.{kind_at, payload_at}
use Rattle.model.specs.Listings.{Listed, header_line, in_front}
use Rattle.model.specs.Stores.{Stores, stores_of, part, struct_word, name_word, code_word, structs_from, function_in, functions_from, program_in}
use Rattle.listing.specs.Links as l
use Rattle.listing.proofs.Judging.{then}
use Rattle.printing.specs.Links.{Put}
use Rattle.notes.specs.Notes.{Known, known_of, noted_code}
use Rattle.layout.specs.Lent.{program_lent, stores_in}
use Rattle.layout.specs.declared.lent.ProgramStores.{ProgramStores}
use Rattle.notes.specs.Links.{known_in}
use Rattle.noted_listing.specs.Links.{noted_function, places_in}
use Rattle.std.specs.Prelude.{Err, Ok, Result}
use Rattle.model.specs.declared.Refusal.{Refusal}

-- a line takes 256 bytes at most for each byte of its instruction
pub line_takes : (n : ℕ) → 256 ≤ 256 * (1 + 2 * n)
line_takes n = omega arith

-- ---- a function's places

module _ (fs mp op : List ℕ) (i w : ℕ) (e : w ≡ payload_at fs i) (p : List ℕ) where
  pub main_places_lem : i ≡ 0 → p ≡ part mp w → p ≡ places_in fs mp op i
  unfolding places_in code_word
  main_places_lem h f = rw (eq-eqb i 0 h, ← e) f

  pub other_places_lem : (i ≡ 0 → ⊥) → p ≡ part op w → p ≡ places_in fs mp op i
  unfolding places_in code_word
  other_places_lem h f = rw (ne_eqb i 0 h, ← e) f

-- ---- what can be named: a function's name lies in its store as a struct's does

names_of : (n i : ℕ) (s : Stores) → map (λ f. f.name) (functions_from n i s) ≡ structs_from n i s.functions s.text
unfolding functions_from function_in name_word structs_from struct_word
names_of zero i s = refl
names_of (suc n) i s = ap (λ (l : List (List ℕ)). part s.text (kind_at s.functions i) ∷ l) (names_of n (suc i) s)

pub known_is : (c : Counts) (cs ss fs t m mp o op : List ℕ) → known_of (program_in c (stores_of cs ss fs t m mp o op)) ≡ known_in c cs ss fs t
unfolding known_of known_in program_in
known_is c cs ss fs t m mp o op = rw (names_of c.functions 0 (stores_of cs ss fs t m mp o op))

-- ---- a function: its header, and its lines behind it

roomier : {k : ℕ} {w : Listed} {s : List ℕ} {i : ℕ} {s' : List ℕ} (r : Result ℕ Refusal) → l.Listing k w s i s' r → (m : ℕ) → k ≤ m → l.Listing m w s i s' r
roomier (Ok r) h m g = let n = h.near in record { means = h.means; stored = h.stored; near = omega arith }
roomier (Err r) h m g = record { means = h.means; stored = h.stored; near = tt }

module _ (known : Known) (s : ProgramStores) (i w : ℕ) (e : w ≡ kind_at s.functions.now i) (name code places : List ℕ) (a : name ≡ part s.text.now w)
    (b : (rest : Stores) (u : List ℕ) → code ≡ (function_in (l.lent rest s.functions.now u s.main.now s.other.now) i).code)
    (d : places ≡ places_in s.functions.now s.main_places.now s.other_places.now i) where
  abbrev all : Stores
  all = stores_in s

  name_is : name ≡ (function_in all i).name
  unfolding function_in name_word program_lent
  name_is = rw (← e) a

  code_is : code ≡ (function_in all i).code
  unfolding function_in program_lent l.lent
  code_is = b all s.text.now

  places_are : places ≡ (function_in all i).places
  unfolding function_in program_lent places_in
  places_are = d

  pub function_is : length name < 2 ^ 32 → length code < 2 ^ 32 → {s₀ : List ℕ} {at : ℕ} {s₁ : List ℕ} {j : ℕ} {u : List ℕ} (r : Result ℕ Refusal)
      → Put (32 + length name) (header_line i name) s₀ at s₁ j → l.Listing (256 * length code) (noted_code known code places) s₁ j u r
      → l.Listing (2 ^ 41) (noted_function known i (function_in all i)) s₀ at u r
  function_is h k {s₀} {at} {u = u} r p q =
      let whole : l.Listing (2 ^ 41) (in_front (header_line i name) (noted_code known code places)) s₀ at u r = roomier r (then r p q) (2 ^ 41) (omega arith) in
      rw (name_is, code_is, places_are) at whole
