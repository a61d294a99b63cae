-- The test of one instruction, rule by rule: what the code answers is what the rule says.
use mathlib.Core.Path.{◌≡◌, refl, ◌∙◌}
use mathlib.Core.Bool.{Bool, true, false, not, ◌||◌}
use mathlib.Core.List.{List, [], ◌∷◌}
use Prim.Native.Nat.{ℕ, ◌+◌}
use lib.Dec.{leb, ltb, eqb}
use lib.ListN.{length, get_or}
use borrow.Author.Tests.{eq-eqb, ne_eqb}
use denote.Enum.Declared.{tag_of}
use types.Run.{OneOf, miss}
use Rattle.model.specs.contracts.Names.{the_type}
use Rattle.model.specs.declared.Op.{Op}
use Rattle.model.specs.declared.Decoded.{Decoded}
use Rattle.model.specs.declared.Decoded.TheVariants as d
use Rattle.model.specs.declared.Names.{Names}
use Rattle.model.specs.declared.Names.TheVariants as n
use Rattle.model.specs.Opcodes.{first_names, second_names}
use Rattle.model.specs.Programs.{opcode_in, next_in}
use Rattle.check_rules.specs.Rules.{jump_if_false, jump, call, call_callable, first_at, second_at, is_carried, whole_at, in_range, numbers_at, call_at, is_jump, lands, jump_at}
use Rattle.check_code.specs.Links.{Ranges, NumbersOne}

-- ---- 1 whole carried instructions

module _ {x y : Decoded} (e : x ≡ y) where
  pub carried : {p : Op} → x ≡ d.Carried p → true ≡ is_carried y
  unfolding is_carried
  carried f = rw (← e, f)

  pub not_carried : x ≡ d.NotCarried → false ≡ is_carried y
  unfolding is_carried
  not_carried f = rw (← e, f)

  pub unknown : x ≡ d.Unknown → false ≡ is_carried y
  unfolding is_carried
  unknown f = rw (← e, f)

module _ (code : List ℕ) (i : ℕ) {b : Bool} (e : b ≡ is_carried (opcode_in code i).what) where
  pub whole_if_it_ends_inside : b ≡ true → {n : ℕ} → n ≡ next_in code i → leb n (length code) ≡ whole_at code i
  unfolding whole_at
  whole_if_it_ends_inside f g = rw (g, ← e, f)

  pub not_whole : b ≡ false → false ≡ whole_at code i
  unfolding whole_at
  not_whole f = rw (← e, f)

-- ---- 2 numbers in range

module _ {constants structs functions : ℕ} where
  module _ (kind : Names) (x : ℕ) where
    pub a_constant : kind ≡ n.Constant → Ranges constants structs functions kind x (ltb x constants)
    unfolding in_range
    a_constant e = record { means = λ p z. rw (e, z.of_constants) }

    pub a_struct : kind ≡ n.Struct → Ranges constants structs functions kind x (ltb x structs)
    unfolding in_range
    a_struct e = record { means = λ p z. rw (e, z.of_structs) }

    pub a_function : kind ≡ n.Function → Ranges constants structs functions kind x (ltb x functions)
    unfolding in_range
    a_function e = record { means = λ p z. rw (e, z.of_functions) }

  pub no_number_lem : (kind : Names) (x : ℕ) → OneOf (1 ∷ 4 ∷ 5 ∷ 6 ∷ 7 ∷ []) (tag_of the_type kind) → Ranges constants structs functions kind x true
  unfolding in_range
  no_number_lem n.Constant x h = absurd (miss (1 ∷ 4 ∷ 5 ∷ 6 ∷ 7 ∷ []) 0 tt h)
  no_number_lem n.Slot x h = record { means = λ p z. refl }
  no_number_lem n.Function x h = absurd (miss (1 ∷ 4 ∷ 5 ∷ 6 ∷ 7 ∷ []) 2 tt h)
  no_number_lem n.Struct x h = absurd (miss (1 ∷ 4 ∷ 5 ∷ 6 ∷ 7 ∷ []) 3 tt h)
  no_number_lem n.Field x h = record { means = λ p z. refl }
  no_number_lem n.Count x h = record { means = λ p z. refl }
  no_number_lem n.Offset x h = record { means = λ p z. refl }
  no_number_lem n.Nothing x h = record { means = λ p z. refl }

  -- the instruction at i, whose first operand names a thing of this kind, with number x
  module _ (code : List ℕ) (i : ℕ) {kind : Names} (e : kind ≡ first_names (opcode_in code i)) {x : ℕ} (f : x ≡ first_at code i) {r : Bool}
      (first : Ranges constants structs functions kind x r) where
    pub first_out_of_range : r ≡ false → NumbersOne constants structs functions code i false
    unfolding numbers_at
    first_out_of_range g = record { means = λ p z. rw (← e, ← f, ← first.means p z, g) }

    pub in_range_if_second_is : r ≡ true → {other : Names} → other ≡ second_names (opcode_in code i) → {y : ℕ} → y ≡ second_at code i → {s : Bool}
        → Ranges constants structs functions other y s → NumbersOne constants structs functions code i s
    unfolding numbers_at
    in_range_if_second_is g h j second = record { means = λ p z. rw (← e, ← f, ← first.means p z, g, ← h, ← j) (second.means p z) }

-- ---- 3 no CallCallable and no Call of function 0

module _ (code : List ℕ) (i : ℕ) where
  pub is_callable : get_or code i 0 ≡ call_callable → false ≡ call_at code i
  unfolding call_at
  is_callable e = rw (eq-eqb _ _ e)

  module _ (h : get_or code i 0 ≡ call_callable → ⊥) where
    pub is_call : get_or code i 0 ≡ call → {f : ℕ} → f ≡ first_at code i → not (eqb f 0) ≡ call_at code i
    unfolding call_at
    is_call e g = rw (ne_eqb _ _ h, eq-eqb _ _ e, g)

    pub is_no_call : (get_or code i 0 ≡ call → ⊥) → true ≡ call_at code i
    unfolding call_at
    is_no_call g = rw (ne_eqb _ _ h, ne_eqb _ _ g)

-- ---- 5 jumps land

module _ (b : ℕ) where
  pub is_conditional : b ≡ jump_if_false → true ≡ (eqb b jump_if_false || eqb b jump)
  is_conditional e = rw (eq-eqb b jump_if_false e)

  pub not_conditional : (b ≡ jump_if_false → ⊥) → eqb b jump ≡ (eqb b jump_if_false || eqb b jump)
  not_conditional h = rw (ne_eqb b jump_if_false h)

module _ (main : Bool) (code : List ℕ) (i : ℕ) {b : Bool} (e : b ≡ is_jump code i) where
  pub jump_lands_or_not : b ≡ true → {n : ℕ} → n ≡ next_in code i → {a : ℕ} → a ≡ first_at code i → {r : Bool} → r ≡ lands main code (n + a) → r ≡ jump_at main code i
  unfolding jump_at
  jump_lands_or_not f g h l = l ∙ rw (← e, f, g, h)

  pub no_jump : b ≡ false → true ≡ jump_at main code i
  unfolding jump_at
  no_jump f = rw (← e, f)
