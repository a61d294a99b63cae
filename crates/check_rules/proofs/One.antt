-- No second answer fits: of one image in one set of stores the check says one thing, and leaves one thing.
use Rattle.std.specs.Prelude.{Err, Ok, Result}
use mathlib.Core.Path.{◌≡◌, refl, sym, ap, subst, ◌∙◌}
use mathlib.Core.Bool.{Bool, true, false, true≢false}
use mathlib.Core.List.{List, [], ◌∷◌}
use Prim.Native.Nat.{ℕ, zero, suc, ◌≤◌, ◌<◌}
use native.Mathlib.Omega.{arith}
use lib.ListN.{length, get_or}
use lib.Seq.{ext_get_or}
use Rattle.model.specs.declared.Counts.{Counts}
use Rattle.model.specs.declared.Refusal.TheVariants as why
use Rattle.model.specs.Values.{places}
use Rattle.model.specs.Programs.{Program, within_limits}
use Rattle.model.specs.Images.{Judged, fine, broken, judge}
use Rattle.model.specs.Stores.{Stores}
use Rattle.model.specs.Emission.{written}
use Rattle.model.specs.Loading.{laid, counts_for, room_for}
use Rattle.check_rules.specs.declared.Rule.{Rule}
use Rattle.check_rules.specs.declared.Rule.TheVariants as r
use Rattle.check_rules.specs.declared.Rejected.{Rejected}
use Rattle.check_rules.specs.declared.Rejected.TheVariants as no
use Rattle.check_rules.specs.Rules.{Greatest, rule_number, Passed, Broken}
use Rattle.check_rules.specs.Checks.{HeightsOf, CheckAs, not_an_image, no_place_lem, past_a_limit, no_room, breaks, passes}

-- ---- what is judged is one

same_program : {p q : Program} {x : Judged} → x ≡ fine p → x ≡ fine q → p ≡ q
same_program e f = cc

same_offset : {i j : ℕ} {x : Judged} → x ≡ broken i → x ≡ broken j → i ≡ j
same_offset e f = cc

not_both : {i : ℕ} {p : Program} {x : Judged} → x ≡ broken i → x ≡ fine p → ⊥
not_both e f = let z : ◌≡◌ {A = ℕ} 0 1 = cc in omega arith

-- ---- a greatest height is one, and so are the heights of a program

one_greatest : {main : Bool} {count : ℕ} {code : List ℕ} {m k : ℕ} → Greatest main count code m → Greatest main count code k → m ≡ k
one_greatest g h = let a = h.most g.path in let b = g.most h.path in omega arith

one_row_of_heights : {p : Program} {hs ks : List ℕ} → HeightsOf p hs → HeightsOf p ks → hs ≡ ks
one_row_of_heights {p} {hs} {ks} a b =
    ext_get_or 0 hs ks (a.many ∙ sym b.many)
    (λ i l.
    let n = a.many in
    let known : i < length p.functions = omega arith in
    one_greatest (a.greatest i known) (b.greatest i known))

-- ---- a first broken rule is one, and so is the lowest function that breaks it

-- the rule of a number, so that a number tells its rule
abbrev rule_at : ℕ → Rule
rule_at k = get_or (r.Instructions ∷ r.Instructions ∷ r.Numbers ∷ r.Calls ∷ r.Counts ∷ r.Jumps ∷ []) k r.Heights

told_by_its_number : (q : Rule) → rule_at (rule_number q) ≡ q
unfolding rule_number
told_by_its_number r.Instructions = refl
told_by_its_number r.Numbers = refl
told_by_its_number r.Calls = refl
told_by_its_number r.Counts = refl
told_by_its_number r.Jumps = refl
told_by_its_number r.Heights = refl

pub one_number : (q e : Rule) → rule_number q ≡ rule_number e → q ≡ e
one_number q e n = sym (told_by_its_number q) ∙ ap rule_at n ∙ told_by_its_number e

neither_less : (m n : ℕ) → (m < n → ⊥) → (n < m → ⊥) → m ≡ n
neither_less zero zero a b = refl
neither_less zero (suc n) a b = absurd (a (omega arith))
neither_less (suc m) zero a b = absurd (b (omega arith))
neither_less (suc m) (suc n) a b = ap suc (neither_less m n (λ l. a (omega arith)) (λ l. b (omega arith)))

not_earlier : {p : Program} {q e : Rule} {f g : ℕ} → Broken p q f → Broken p e g → rule_number q < rule_number e → ⊥
not_earlier {p} {q} {e} {f} a b l = a.breaks (b.earlier q l f a.known)

one_rule : {p : Program} {q e : Rule} {f g : ℕ} → Broken p q f → Broken p e g → q ≡ e
one_rule {p} {q} {e} a b = one_number q e (neither_less _ _ (not_earlier a b) (not_earlier b a))

not_lower : {p : Program} {q : Rule} {f g : ℕ} → Broken p q f → Broken p q g → f < g → ⊥
not_lower {p} {q} {f} a b l = a.breaks (b.lower f l)

one_function_lem : {p : Program} {q : Rule} {f g : ℕ} → Broken p q f → Broken p q g → f ≡ g
one_function_lem a b = neither_less _ _ (not_lower a b) (not_lower b a)

none_broken : {p : Program} {q : Rule} {f : ℕ} → Passed p → Broken p q f → ⊥
none_broken {p} {q} {f} a b = b.breaks (a q f b.known)

-- ---- THE LAW

pub record SameCheck (x y : Result Counts Rejected) (hs ks : List ℕ) (s t : Stores) : Type 0 where
  pub answer : x ≡ y
  pub heights : hs ≡ ks
  pub stores : s ≡ t

module _ (image heights : List ℕ) (s : Stores) where
  not_placed : {p q : Program} → judge image ≡ fine p → judge image ≡ fine q → places 1 heights < length p.functions → length q.functions ≤ places 1 heights → ⊥
  not_placed e f l m = let n = ap (λ (x : Program). length x.functions) (same_program e f) in let z : ⊥ = omega arith in z

  not_within : {p q : Program} → judge image ≡ fine p → judge image ≡ fine q → within_limits p ≡ false → within_limits q ≡ true → ⊥
  not_within e f a b = true≢false (sym b ∙ ap within_limits (sym (same_program e f)) ∙ a)

  not_roomy : {p q : Program} → judge image ≡ fine p → judge image ≡ fine q → room_for p s ≡ false → room_for q s ≡ true → ⊥
  not_roomy e f a b = true≢false (sym b ∙ ap (λ (x : Program). room_for x s) (sym (same_program e f)) ∙ a)

  not_kept : {p q : Program} → judge image ≡ fine p → judge image ≡ fine q → {e : Rule} {f : ℕ} → Broken p e f → Passed q → ⊥
  not_kept {p} {q} j k {e} {f} b a = none_broken a (subst (λ (x : Program). Broken x e f) (same_program j k) b)

  broken_alike : {p q : Program} → judge image ≡ fine p → judge image ≡ fine q → {d e : Rule} {f g : ℕ} → Broken p d f → Broken q e g
      → SameCheck (Err (no.Breaks d f)) (Err (no.Breaks e g)) heights heights s s
  broken_alike {p} {q} j k {d} {e} {f} {g} a b =
      let here : Broken q d f = subst (λ (x : Program). Broken x d f) (same_program j k) a in
      let rule = one_rule here b in
      let function = one_function_lem (subst (λ (x : Rule). Broken q x f) rule here) b in
      record { answer = ap (λ (x : Rule). Err (no.Breaks x f)) rule ∙ ap (λ (g : ℕ). Err (no.Breaks e g)) function; heights = refl; stores = refl }

  passed_alike : {p q : Program} → judge image ≡ fine p → judge image ≡ fine q → {hs ks : List ℕ} → HeightsOf p hs → HeightsOf q ks
      → SameCheck (Ok (counts_for p)) (Ok (counts_for q)) (written heights 0 hs) (written heights 0 ks) (laid p s) (laid q s)
  passed_alike {p} {q} j k {hs} {ks} a b =
      let same = same_program j k in
      record {
        answer = ap (λ (x : Program). Ok (counts_for x)) same;
        heights = ap (written heights 0) (one_row_of_heights (subst (λ (x : Program). HeightsOf x hs) same a) b);
        stores = ap (λ (x : Program). laid x s) same;
      }

  -- two answers of one image, and what they leave
  pub check_one : {x y : Result Counts Rejected} {hs ks : List ℕ} {t u : Stores} → CheckAs image heights s x hs t → CheckAs image heights s y ks u → SameCheck x y hs ks t u
  check_one (not_an_image j₁) (not_an_image j₂) = record { answer = ap (λ (i : ℕ). Err (no.Refused (why.BrokenImage i))) (same_offset j₁ j₂); heights = refl; stores = refl }
  check_one (not_an_image j₁) (no_place_lem j₂ l₂) = absurd (not_both j₁ j₂)
  check_one (not_an_image j₁) (past_a_limit j₂ m₂ w₂) = absurd (not_both j₁ j₂)
  check_one (not_an_image j₁) (no_room j₂ m₂ w₂ r₂) = absurd (not_both j₁ j₂)
  check_one (not_an_image j₁) (breaks j₂ m₂ w₂ r₂ b₂) = absurd (not_both j₁ j₂)
  check_one (not_an_image j₁) (passes j₂ m₂ w₂ r₂ a₂ h₂) = absurd (not_both j₁ j₂)
  check_one (no_place_lem j₁ l₁) (not_an_image j₂) = absurd (not_both j₂ j₁)
  check_one (no_place_lem j₁ l₁) (no_place_lem j₂ l₂) = record { answer = refl; heights = refl; stores = refl }
  check_one (no_place_lem j₁ l₁) (past_a_limit j₂ m₂ w₂) = absurd (not_placed j₁ j₂ l₁ m₂)
  check_one (no_place_lem j₁ l₁) (no_room j₂ m₂ w₂ r₂) = absurd (not_placed j₁ j₂ l₁ m₂)
  check_one (no_place_lem j₁ l₁) (breaks j₂ m₂ w₂ r₂ b₂) = absurd (not_placed j₁ j₂ l₁ m₂)
  check_one (no_place_lem j₁ l₁) (passes j₂ m₂ w₂ r₂ a₂ h₂) = absurd (not_placed j₁ j₂ l₁ m₂)
  check_one (past_a_limit j₁ m₁ w₁) (not_an_image j₂) = absurd (not_both j₂ j₁)
  check_one (past_a_limit j₁ m₁ w₁) (no_place_lem j₂ l₂) = absurd (not_placed j₂ j₁ l₂ m₁)
  check_one (past_a_limit j₁ m₁ w₁) (past_a_limit j₂ m₂ w₂) = record { answer = refl; heights = refl; stores = refl }
  check_one (past_a_limit j₁ m₁ w₁) (no_room j₂ m₂ w₂ r₂) = absurd (not_within j₁ j₂ w₁ w₂)
  check_one (past_a_limit j₁ m₁ w₁) (breaks j₂ m₂ w₂ r₂ b₂) = absurd (not_within j₁ j₂ w₁ w₂)
  check_one (past_a_limit j₁ m₁ w₁) (passes j₂ m₂ w₂ r₂ a₂ h₂) = absurd (not_within j₁ j₂ w₁ w₂)
  check_one (no_room j₁ m₁ w₁ r₁) (not_an_image j₂) = absurd (not_both j₂ j₁)
  check_one (no_room j₁ m₁ w₁ r₁) (no_place_lem j₂ l₂) = absurd (not_placed j₂ j₁ l₂ m₁)
  check_one (no_room j₁ m₁ w₁ r₁) (past_a_limit j₂ m₂ w₂) = absurd (not_within j₂ j₁ w₂ w₁)
  check_one (no_room j₁ m₁ w₁ r₁) (no_room j₂ m₂ w₂ r₂) = record { answer = refl; heights = refl; stores = refl }
  check_one (no_room j₁ m₁ w₁ r₁) (breaks j₂ m₂ w₂ r₂ b₂) = absurd (not_roomy j₁ j₂ r₁ r₂)
  check_one (no_room j₁ m₁ w₁ r₁) (passes j₂ m₂ w₂ r₂ a₂ h₂) = absurd (not_roomy j₁ j₂ r₁ r₂)
  check_one (breaks j₁ m₁ w₁ r₁ b₁) (not_an_image j₂) = absurd (not_both j₂ j₁)
  check_one (breaks j₁ m₁ w₁ r₁ b₁) (no_place_lem j₂ l₂) = absurd (not_placed j₂ j₁ l₂ m₁)
  check_one (breaks j₁ m₁ w₁ r₁ b₁) (past_a_limit j₂ m₂ w₂) = absurd (not_within j₂ j₁ w₂ w₁)
  check_one (breaks j₁ m₁ w₁ r₁ b₁) (no_room j₂ m₂ w₂ r₂) = absurd (not_roomy j₂ j₁ r₂ r₁)
  check_one (breaks j₁ m₁ w₁ r₁ b₁) (breaks j₂ m₂ w₂ r₂ b₂) = broken_alike j₁ j₂ b₁ b₂
  check_one (breaks j₁ m₁ w₁ r₁ b₁) (passes j₂ m₂ w₂ r₂ a₂ h₂) = absurd (not_kept j₁ j₂ b₁ a₂)
  check_one (passes j₁ m₁ w₁ r₁ a₁ h₁) (not_an_image j₂) = absurd (not_both j₂ j₁)
  check_one (passes j₁ m₁ w₁ r₁ a₁ h₁) (no_place_lem j₂ l₂) = absurd (not_placed j₂ j₁ l₂ m₁)
  check_one (passes j₁ m₁ w₁ r₁ a₁ h₁) (past_a_limit j₂ m₂ w₂) = absurd (not_within j₂ j₁ w₂ w₁)
  check_one (passes j₁ m₁ w₁ r₁ a₁ h₁) (no_room j₂ m₂ w₂ r₂) = absurd (not_roomy j₂ j₁ r₂ r₁)
  check_one (passes j₁ m₁ w₁ r₁ a₁ h₁) (breaks j₂ m₂ w₂ r₂ b₂) = absurd (not_kept j₂ j₁ b₂ a₁)
  check_one (passes j₁ m₁ w₁ r₁ a₁ h₁) (passes j₂ m₂ w₂ r₂ a₂ h₂) = passed_alike j₁ j₂ h₁ h₂
