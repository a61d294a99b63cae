-- No second answer fits: of one image and one set of slices the entry says one thing, and leaves one thing. Each of its answers is one of the check
-- itself, of what it is lent: no place for a height where the record or the answer is too short, no function where no frame has a place.
use Rattle.std.specs.Prelude.{if◌then◌else◌, Result}
use mathlib.Core.Path.{◌≡◌, refl, sym, ap, ◌∙◌}
use mathlib.Core.Bool.{Bool, true, false, true≢false}
use mathlib.Core.List.{List, []}
use mathlib.Mathlib.Data.Bool.Basic.{and_elim_left as and_left, and_elim_right as and_right}
use Prim.Native.Nat.{ℕ, ◌≤◌, ◌<◌}
use lib.Dec.{leb}
use lib.ListN.{length}
use borrow.Author.Tests.{leb-true, leb-false}
use Rattle.model.specs.declared.Frame.{Frame}
use Rattle.model.specs.Values.{places}
use Rattle.model.specs.Programs.{Program}
use Rattle.model.specs.Images.{fine, judge}
use Rattle.model.specs.Stores.{Stores, with_functions}
use Rattle.model.specs.Loading.{room_for}
use Rattle.check_rules.specs.Checks as k
use Rattle.check_rules.specs.Checks.{CheckAs}
use Rattle.check_rules.proofs.One.{check_one}
use Rattle.embed_words.specs.Coding.{Coded}
use Rattle.check_words.specs.Words.{checked_coded, checked_told, rejected_told, has_places, has_room, CheckIdle, not_an_image, no_place_lem, past_a_limit, no_room, breaks, passes, CheckThrough, under_way_lem, idle, frames_after}
use Rattle.check_words.proofs.Judged.{an_image_has_main}
use Rattle.check_words.proofs.Crossing.{long, roomless}
use Rattle.model.specs.declared.Counts.{Counts}
use Rattle.check_rules.specs.declared.Rejected.{Rejected}

pub record SameThrough (c d : Coded) (hs ks : List ℕ) (s t : Stores) (fs gs : List Frame) : Type 0 where
  pub coded : c ≡ d
  pub heights : hs ≡ ks
  pub stores : s ≡ t
  pub frames : fs ≡ gs

module _ (image w a heights : List ℕ) (s : Stores) (fs : List Frame) where
  -- what is lent of the heights and of the stores
  abbrev places_lent : Bool → List ℕ
  places_lent b = if b then heights else []

  abbrev stores_lent : Bool → Stores
  stores_lent b = if b then s else with_functions [] s

  -- an answer of the check, as it crosses: b whether the record and the answer are long enough, f whether a frame has a place
  data Seen (b f : Bool) (c : Coded) (hs : List ℕ) (t : Stores) (gs : List Frame) : Type 0 where
    crosses : {x : Result Counts Rejected} {left : List ℕ} {over : Stores} → CheckAs image (places_lent b) (stores_lent f) x left over → c ≡ checked_coded x w a
        → hs ≡ (if b then left else heights) → t ≡ (if f then over else s) → gs ≡ frames_after c.number fs → Seen b f c hs t gs

  again : {A : Type 0} (b : Bool) (x y : A) → x ≡ (if b then (if b then x else y) else x)
  again true x y = refl
  again false x y = refl

  -- a refusal of the check leaves what it was lent
  refuses : {b f : Bool} {c : Coded} {gs : List Frame} {x : Result Counts Rejected} → CheckAs image (places_lent b) (stores_lent f) x (places_lent b) (stores_lent f) → c ≡ checked_coded x w a
      → gs ≡ frames_after c.number fs → Seen b f c heights s gs
  refuses {b} {f} h e g = crosses h e (again b heights []) (again f s (with_functions [] s)) g

  some_places : (p : Program) → has_places p w a heights ≡ true → length p.functions ≤ places 1 heights
  unfolding has_places
  some_places p m = leb-true _ _ (and_right (long w a) (leb (length p.functions) (places 1 heights)) m)

  too_short : (p : Program) → long w a ≡ false → has_places p w a heights ≡ true → ⊥
  unfolding has_places
  too_short p e m = true≢false (sym (and_left (long w a) (leb (length p.functions) (places 1 heights)) m) ∙ e)

  no_frame_lem : (p : Program) → leb 1 (length fs) ≡ false → has_room p s fs ≡ true → ⊥
  unfolding has_room
  no_frame_lem p e r = true≢false (sym (and_right (room_for p s) (leb 1 (length fs)) r) ∙ e)

  roomy : (p : Program) → has_room p s fs ≡ true → room_for p s ≡ true
  unfolding has_room
  roomy p r = and_left (room_for p s) (leb 1 (length fs)) r

  few : (p : Program) → long w a ≡ true → has_places p w a heights ≡ false → places 1 heights < length p.functions
  unfolding has_places
  few p e m = leb-false _ _ (rw e at m)

  none : (p : Program) → judge image ≡ fine p → places 1 [] < length p.functions
  unfolding places
  none p j = an_image_has_main image p j

  narrow : (p : Program) → leb 1 (length fs) ≡ true → has_room p s fs ≡ false → (y : Bool) → room_for p s ≡ y → room_for p s ≡ false
  unfolding has_room
  narrow p g r true q = absurd (true≢false (rw (q, g) at r))
  narrow p g r false q = q

  bare : (p : Program) (y : Bool) → room_for p (with_functions [] s) ≡ y → judge image ≡ fine p → room_for p (with_functions [] s) ≡ false
  bare p true q j = absurd (roomless image w a heights s fs j (with_functions [] s) refl q)
  bare p false q j = q

  seen : (b f : Bool) → long w a ≡ b → leb 1 (length fs) ≡ f → {c : Coded} {hs : List ℕ} {t : Stores} {gs : List Frame}
      → CheckIdle image w a heights s fs c hs t gs → Seen b f c hs t gs
  unfolding checked_told rejected_told frames_after
  seen b f e g (not_an_image j) = refuses (k.not_an_image j) refl refl
  seen true f e g (no_place_lem {p} j m) = refuses (k.no_place_lem j (few p e m)) refl refl
  seen false f e g (no_place_lem {p} j m) = refuses (k.no_place_lem j (none p j)) refl refl
  seen true f e g (past_a_limit {p} j m l) = refuses (k.past_a_limit j (some_places p m) l) refl refl
  seen false f e g (past_a_limit {p} j m l) = absurd (too_short p e m)
  seen true true e g (no_room {p} j m l r) = refuses (k.no_room j (some_places p m) l (narrow p g r (room_for p s) refl)) refl refl
  seen true false e g (no_room {p} j m l r) = refuses (k.no_room j (some_places p m) l (bare p (room_for p (with_functions [] s)) refl j)) refl refl
  seen false f e g (no_room {p} j m l r) = absurd (too_short p e m)
  seen true true e g (breaks {p} j m l r d) = refuses (k.breaks j (some_places p m) l (roomy p r) d) refl refl
  seen true false e g (breaks {p} j m l r d) = absurd (no_frame_lem p g r)
  seen false f e g (breaks {p} j m l r d) = absurd (too_short p e m)
  seen true true e g (passes {p} j m l r d h) = crosses (k.passes j (some_places p m) l (roomy p r) d h) refl refl refl refl
  seen true false e g (passes {p} j m l r d h) = absurd (no_frame_lem p g r)
  seen false f e g (passes {p} j m l r d h) = absurd (too_short p e m)

  as_one : (b f : Bool) {c d : Coded} {hs ks : List ℕ} {t u : Stores} {gs rs : List Frame} → Seen b f c hs t gs → Seen b f d ks u rs → SameThrough c d hs ks t u gs rs
  as_one b f (crosses h₁ c₁ l₁ s₁ g₁) (crosses h₂ c₂ l₂ s₂ g₂) =
      let same = check_one image (places_lent b) (stores_lent f) h₁ h₂ in
      let coded = c₁ ∙ ap (λ (x : Result Counts Rejected). checked_coded x w a) same.answer ∙ sym c₂ in
      record {
        coded = coded;
        heights = l₁ ∙ ap (λ (x : List ℕ). if b then x else heights) same.heights ∙ sym l₂;
        stores = s₁ ∙ ap (λ (x : Stores). if f then x else s) same.stores ∙ sym s₂;
        frames = g₁ ∙ ap (λ (x : Coded). frames_after x.number fs) coded ∙ sym g₂;
      }

  idle_one : {c d : Coded} {hs ks : List ℕ} {t u : Stores} {gs rs : List Frame} → CheckIdle image w a heights s fs c hs t gs
      → CheckIdle image w a heights s fs d ks u rs → SameThrough c d hs ks t u gs rs
  idle_one x y = as_one (long w a) (leb 1 (length fs)) (seen _ _ refl refl x) (seen _ _ refl refl y)

  -- two answers of one image, and what they leave
  pub check_through_one : {c d : Coded} {hs ks : List ℕ} {t u : Stores} {gs rs : List Frame} → CheckThrough image w a heights s fs c hs t gs
      → CheckThrough image w a heights s fs d ks u rs → SameThrough c d hs ks t u gs rs
  check_through_one (under_way_lem e) (under_way_lem f) = record { coded = refl; heights = refl; stores = refl; frames = refl }
  check_through_one (under_way_lem e) (idle f y) = absurd (true≢false (sym e ∙ f))
  check_through_one (idle e x) (under_way_lem f) = absurd (true≢false (sym f ∙ e))
  check_through_one (idle e x) (idle f y) = idle_one x y
