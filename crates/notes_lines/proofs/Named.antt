-- The notes of an instruction's operands, put one behind the other.
use mathlib.Core.Path.{◌≡◌, refl, sym}
use mathlib.Core.Bool.{Bool, true, false}
use mathlib.Core.List.{List, [], ◌∷◌, ◌++◌, append-nil}
use Prim.Native.Nat.{ℕ, suc, ◌+◌, ◌*◌, ◌≤◌, ◌<◌}
use native.Mathlib.Omega.{arith}
use native.Mathlib.Numerals.{add-one}
use lib.Dec.{T}
use lib.ListN.{length, get_or}
use denote.Enum.Declared.{tag_of}
use mir.Val.{has_key}
use types.Run.{OneOf, hit, miss}
use Rattle.model.specs.contracts.Names.{the_type}
use Rattle.model.specs.declared.Counts.{Counts}
use Rattle.model.specs.declared.Names.{Names}
use Rattle.model.specs.declared.Names.TheVariants as v
use Rattle.model.specs.Basics.{ascii}
use Rattle.model.specs.Opcodes.{operands, opcodes, opcode_at}
use Rattle.model.specs.Programs.{word_at, behind, opcode_in, next_in}
use Rattle.model.specs.Listings.{digits_or_more}
use Rattle.model.specs.Stores.{constants_from, structs_from}
use Rattle.opcode.proofs.Arms as arms
use Rattle.printing.specs.Links.{Put}
use Rattle.printing.proofs.Puts.{is, within, both, nothing}
use Rattle.printing.proofs.Digits.{like, four}
use Rattle.listing.proofs.Turns.{behind_is}
use Rattle.notes.specs.Notes.{Known, constant_at, name_at, note, operand_note, operand_notes}
use Rattle.notes.specs.Links.{known_in}

-- ---- one note

module _ {s₀ s₁ s₂ : List ℕ} {i₀ i₁ i₂ : ℕ} where
  pub constant_noted : (t : List ℕ) → Put 4 (ascii "  ; ") s₀ i₀ s₁ i₁ → Put 35 t s₁ i₁ s₂ i₂ → Put 39 (note t) s₀ i₀ s₂ i₂
  unfolding note
  constant_noted t p q = both p q

  pub name_noted : (none t : List ℕ) → Put 4 (ascii "  ; ") s₀ i₀ s₁ i₁ → Put (26 + length none) t s₁ i₁ s₂ i₂ → Put (30 + length none) (note t) s₀ i₀ s₂ i₂
  unfolding note
  name_noted none t p q = within (both p q) (30 + length none) (omega arith)

  pub target_noted : (target : ℕ) → Put 7 (ascii "  ; to ") s₀ i₀ s₁ i₁ → Put 20 (like 1000 target) s₁ i₁ s₂ i₂ → Put 27 (note (ascii "to " ++ digits_or_more 4 target)) s₀ i₀ s₂ i₂
  unfolding note ascii
  target_noted target p q = both p (is q (four target))

-- ---- the note of one operand, by what it names

module _ (c : Counts) (cs ss fs t : List ℕ) (end k : ℕ) {s : List ℕ} {i : ℕ} {s' : List ℕ} {j : ℕ} {x : Names} where
  pub names_constant : x ≡ v.Constant → Put 39 (note (constant_at (constants_from c.constants 0 cs t) k)) s i s' j → Put 48 (operand_note (known_in c cs ss fs t) end x k) s i s' j
  unfolding operand_note known_in
  names_constant e p = rw e (within p 48 (omega arith))

  pub names_function : x ≡ v.Function → Put 41 (note (name_at (structs_from c.functions 0 fs t) k (ascii "no function"))) s i s' j
      → Put 48 (operand_note (known_in c cs ss fs t) end x k) s i s' j
  unfolding operand_note known_in
  names_function e p = rw e (within p 48 (omega arith))

  pub names_struct : x ≡ v.Struct → Put 39 (note (name_at (structs_from c.structs 0 ss t) k (ascii "no struct"))) s i s' j
      → Put 48 (operand_note (known_in c cs ss fs t) end x k) s i s' j
  unfolding operand_note known_in
  names_struct e p = rw e (within p 48 (omega arith))

  pub names_offset : x ≡ v.Offset → Put 27 (note (ascii "to " ++ digits_or_more 4 (end + k))) s i s' j → Put 48 (operand_note (known_in c cs ss fs t) end x k) s i s' j
  unfolding operand_note
  names_offset e p = rw e (within p 48 (omega arith))

-- a slot, a field, a count or nothing
abbrev Silent : Names → Type 0
Silent x = OneOf (1 ∷ 4 ∷ 5 ∷ 7 ∷ []) (tag_of the_type x)

module _ (known : Known) (end : ℕ) where
  silent : (x : Names) → Silent x → (k : ℕ) → operand_note known end x k ≡ []
  unfolding operand_note
  silent v.Constant h k = absurd (miss (1 ∷ 4 ∷ 5 ∷ 7 ∷ []) 0 tt h)
  silent v.Slot h k = refl
  silent v.Function h k = absurd (miss (1 ∷ 4 ∷ 5 ∷ 7 ∷ []) 2 tt h)
  silent v.Struct h k = absurd (miss (1 ∷ 4 ∷ 5 ∷ 7 ∷ []) 3 tt h)
  silent v.Field h k = refl
  silent v.Count h k = refl
  silent v.Offset h k = absurd (miss (1 ∷ 4 ∷ 5 ∷ 7 ∷ []) 6 tt h)
  silent v.Nothing h k = refl

  pub names_none : (x : Names) → Silent x → (k : ℕ) (s : List ℕ) (i : ℕ) → Put 48 (operand_note known end x k) s i s i
  names_none x h k s i = is (within (nothing s i) 48 (omega arith)) (sym (silent x h k))

-- ---- the notes of all operands: a third one names nothing

-- at most three operands, and the third says nothing
abbrev few_named : List Names → Bool
few_named [] = true
few_named (x ∷ []) = true
few_named (x ∷ (y ∷ [])) = true
few_named (x ∷ (y ∷ (z ∷ []))) = has_key (1 ∷ 4 ∷ 5 ∷ 7 ∷ []) (tag_of the_type z)
few_named (x ∷ (y ∷ (z ∷ (w ∷ others)))) = false

few_named_lem : (b : ℕ) → b < 256 → T (few_named (opcode_at b).names)
unfolding ascii opcodes opcode_at
few_named_lem b h = arms.within (λ x. few_named (opcode_at x).names) 0 256 tt b (omega arith) h

few : (ns : List Names) → T (few_named ns) → length ns ≤ 3
few [] h = omega arith
few (x ∷ []) h = omega arith
few (x ∷ (y ∷ [])) h = omega arith
few (x ∷ (y ∷ (z ∷ []))) h = omega arith
few (x ∷ (y ∷ (z ∷ (w ∷ others)))) h = absurd h

pub at_most_3 : (b : ℕ) → b < 256 → operands (opcode_at b) ≤ 3
unfolding operands
at_most_3 b h = few (opcode_at b).names (few_named_lem b h)

module _ (known : Known) (end : ℕ) (code : List ℕ) (i : ℕ) where
  -- the first two operands say all
  two_notes : (ns : List Names) → T (few_named ns)
      → operand_note known end (get_or ns 0 v.Nothing) (word_at code i) ++ operand_note known end (get_or ns 1 v.Nothing) (word_at code (i + 2)) ≡ operand_notes known end ns code i
  unfolding operand_note operand_notes
  two_notes [] h = refl
  two_notes (x ∷ []) h = refl
  two_notes (x ∷ (y ∷ [])) h = rw append-nil
  two_notes (x ∷ (y ∷ (z ∷ []))) h = rw (silent known end z (hit (1 ∷ 4 ∷ 5 ∷ 7 ∷ []) (tag_of the_type z) h) (word_at code (i + 2 + 2)), append-nil)
  two_notes (x ∷ (y ∷ (z ∷ (w ∷ others)))) h = absurd h

-- ---- as the code reads them

pub end_is : (b : ℕ) → b < 256 → (i n : ℕ) → n ≡ operands (opcode_at b) → (i + 1 + 2 * n ≡ behind i (operands (opcode_at b))) × (i + 1 + 2 * n ≤ i + 7)
end_is b h i n e = let few = at_most_3 b h in (rw (← e) (sym (behind_is i n)), omega arith)

module _ (known : Known) (code : List ℕ) (i end : ℕ) (e : end ≡ next_in code i) {s : List ℕ} {at : ℕ} (x : Names) (k : ℕ) (ex : x ≡ get_or (opcode_in code i).names 0 v.Nothing)
    (ek : k ≡ word_at code (i + 1)) {s' : List ℕ} {j : ℕ} (p : Put 48 (operand_note known end x k) s at s' j) (y : Names) (l : ℕ)
    (ey : y ≡ get_or (opcode_in code i).names 1 v.Nothing) (el : l ≡ word_at code (i + 3)) {u : List ℕ} {r : ℕ} (q : Put 48 (operand_note known end y l) s' j u r) where
  pub all_notes : get_or code i 0 < 256 → Put 96 (operand_notes known (next_in code i) (opcode_in code i).names code (suc i)) s at u r
  all_notes h =
      let first : Put 48 (operand_note known (next_in code i) (get_or (opcode_in code i).names 0 v.Nothing) (word_at code (suc i))) s at s' j = rw (← e, ← ex, ← (add-one i), ← ek) p in
      let z : suc i + 2 ≡ i + 3 = omega arith in
      let second : Put 48 (operand_note known (next_in code i) (get_or (opcode_in code i).names 1 v.Nothing) (word_at code (suc i + 2))) s' j u r = rw (← e, ← ey, z, ← el) q in
      is (both first second) (two_notes known (next_in code i) code (suc i) (opcode_in code i).names (few_named_lem (get_or code i 0) h))
