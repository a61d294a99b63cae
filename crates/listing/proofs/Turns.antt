-- The loop over the instructions of a code, whatever is shown as the line of an instruction.
use mathlib.Core.Path.{◌≡◌, refl, ap, ◌∙◌}
use mathlib.Core.List.{List, []}
use Prim.Native.Nat.{ℕ, zero, suc, ◌+◌, ◌-◌, ◌*◌, ◌/◌, ◌≤◌, ◌<◌}
use native.Mathlib.Omega.{arith}
use native.Mathlib.Nat.{mul-zero, mul-add}
use lib.ListN.{length}
use borrow.Author.Tests.{lt-ltb, le-ltb, le-leb, lt-leb}
use Rattle.model.specs.declared.Decoded.{Decoded}
use Rattle.model.specs.declared.Decoded.TheVariants.{Carried, NotCarried, Unknown}
use Rattle.model.specs.Opcodes.{operands}
use Rattle.model.specs.Programs.{behind, opcode_in, next_in}
use Rattle.model.specs.Listings.{Listed, text, known_then, opcode_then, line_then, lines_for}
use Rattle.model.specs.Emission.{written}
use Rattle.listing.specs.Links.{Listing}
use Rattle.printing.specs.Links.{Put}
use Rattle.listing.proofs.Judging.{Sofar, at_start, onward, stops, completes}
use Rattle.std.specs.Prelude.{Err, Ok}
use Rattle.model.specs.declared.Refusal.TheVariants as why

pub behind_is : (i n : ℕ) → behind i n ≡ i + 1 + 2 * n
unfolding behind
behind_is i n = omega arith

-- the operands of the instruction at i are read behind its opcode
pub whole_instruction : (code : List ℕ) (i : ℕ) {n : ℕ} → n ≡ operands (opcode_in code i) → next_in code i ≡ i + 1 + 2 * n
whole_instruction code i e = behind_is i _ ∙ rw e

-- a line of the listing takes 64 bytes at most for each byte of its instruction
pub line_takes : (k n : ℕ) → n ≡ k → 64 + 21 * k ≤ 64 * (1 + 2 * n)
line_takes k n e = omega arith

-- the lines before position i were put, w bytes at most for each byte of code; the instructions left are enough
pub record Turn (line : ℕ → List ℕ) (w : ℕ) (code s : List ℕ) (at : ℕ) (s' : List ℕ) (i r : ℕ) : Type 0 where
  pub left : ℕ
  pub enough : length code ≤ i + left
  pub inside : i ≤ length code
  pub near : r ≤ at + w * i
  pub so_far : Sofar (w * i) (lines_for line (length code) code 0) (lines_for line left code i) s at s' r

pub first_turn : (line : ℕ → List ℕ) (w : ℕ) (code s : List ℕ) (at : ℕ) → Turn line w code s at s 0 at
first_turn line w code s at =
    let z = mul-zero w in
    record { left = length code; enough = omega arith; inside = omega arith; near = omega arith; so_far = rw z (at_start _ s at) }

-- known, whether carried or not
abbrev Known : Decoded → Type 0
Known d = d ≡ Unknown → ⊥

module _ (line : ℕ → List ℕ) (code : List ℕ) (i : ℕ) where
  -- nothing is left at the end
  none_left : (f : ℕ) → length code ≤ i → lines_for line f code i ≡ text []
  unfolding lines_for line_then
  none_left zero h = refl
  none_left (suc f) h = rw (le-ltb _ _ h)

  -- an instruction is left before it
  one_left : (f : ℕ) → i < length code → lines_for line (suc f) code i ≡ opcode_then (lines_for line f code) line code i (opcode_in code i).what
  unfolding lines_for line_then
  one_left f h = rw (lt-ltb _ _ h)

  known_then_lem : (k : ℕ → Listed) (d : Decoded) → Known d → opcode_then k line code i d ≡ known_then k line code i
  unfolding opcode_then
  known_then_lem k (Carried o) h = refl
  known_then_lem k NotCarried h = refl
  known_then_lem k Unknown h = absurd (h refl)

module _ {line : ℕ → List ℕ} {w : ℕ} {code s : List ℕ} {at : ℕ} {s' : List ℕ} {i r : ℕ} (h : Turn line w code s at s' i r) where
  pub last_turn : length code ≤ i → Listing (w * length code) (lines_for line (length code) code 0) s at s' (Ok r)
  last_turn g =
      let z : i ≡ length code = (let y = h.inside in omega arith) in
      let m : w * i ≤ w * length code = rw z (omega arith) in
      completes h.so_far (none_left line code i h.left g) _ m

  module _ (g : i < length code) (d : Decoded) (e : d ≡ (opcode_in code i).what) where
    one_fewer : {f : ℕ} → h.left ≡ suc f → lines_for line h.left code i ≡ opcode_then (lines_for line f code) line code i d
    one_fewer {f} z = ap (λ (n : ℕ). lines_for line n code i) z ∙ one_left line code i f g ∙ rw e

    some_left : h.left ≡ suc (h.left - 1)
    some_left = let z = h.enough in omega arith

    pub unknown : d ≡ Unknown → Listing (w * length code) (lines_for line (length code) code 0) s at s' (Err why.UnknownOpcode)
    unfolding opcode_then written
    unknown f = stops h.so_far {l = []} (one_fewer some_left ∙ rw f) refl

    module _ (k : Known d) (n : ℕ) (o : n ≡ operands (opcode_in code i)) where
      known : lines_for line h.left code i ≡ known_then (lines_for line (h.left - 1) code) line code i
      known = one_fewer some_left ∙ known_then_lem line code i (lines_for line (h.left - 1) code) d k

      pub cut_short : (length code - i - 1) / 2 < n → Listing (w * length code) (lines_for line (length code) code 0) s at s' (Err why.CodeEnds)
      unfolding known_then written
      cut_short f =
          let b = behind_is i n in
          let z : length code < behind i n = omega arith in
          stops h.so_far {l = []} (known ∙ rw (← o, lt-leb _ _ z)) refl

      pub next_turn : n ≤ (length code - i - 1) / 2 → {m : ℕ} {t : List ℕ} {q : ℕ} → Put m (line i) s' r t q → m ≤ w * (1 + 2 * n) → Turn line w code s at t (i + 1 + 2 * n) q
      unfolding known_then
      next_turn f p few =
          let b = behind_is i n in
          let z : behind i n ≤ length code = omega arith in
          let y = h.enough in
          let x = h.near in
          let v = p.near in
          let j : i + (1 + 2 * n) ≡ i + 1 + 2 * n = omega arith in
          let a : w * (i + 1 + 2 * n) ≡ w * i + w * (1 + 2 * n) = rw (← j) (mul-add w i (1 + 2 * n)) in
          record {
            left = h.left - 1;
            enough = omega arith;
            inside = omega arith;
            near = omega arith;
            so_far = onward h.so_far (known ∙ rw (← o, le-leb _ _ z, b)) p _ (omega arith);
          }
