-- The check as an entry for a host in C, from the check itself: where the record or the answer is too short it is lent no place for a height, so that
-- it refuses 17; where no frame has a place it is lent no store of functions, so that it refuses 21.
--     whole                      everything is lent
--     placeless, frameless       nothing of the heights, nothing of the functions
--     check-waits                a run is under way
--     check-crosses              the entry, all but its frame
--     frame-placed, frame-laid, frame-not      and the frame
use Rattle.std.specs.Prelude.{if◌then◌else◌, Result}
use mathlib.Core.Path.{◌≡◌, refl, sym, ap, ◌∙◌}
use mathlib.Core.Bool.{Bool, true, false, ◌&&◌}
use mathlib.Core.List.{List, [], ◌++◌, append-nil}
use Prim.Native.Nat.{ℕ, zero, suc, ◌≤◌, ◌<◌}
use native.Mathlib.Omega.{arith}
use lib.Dec.{eqb, leb}
use lib.ListN.{length, set, take, drop, take-append-drop}
use lib.Seq.{take-length, drop-length, length-take-le}
use borrow.Author.Tests.{le-leb, lt-leb, leb-true, eq-eqb, ne_eqb}
use mathlib.Mathlib.Data.Bool.Basic.{and_elim_right as and_right}
use Rattle.model.specs.declared.Frame.{Frame}
use Rattle.model.specs.Values.{places}
use Rattle.model.specs.Programs.{Program}
use Rattle.model.specs.Images.{fine, judge}
use Rattle.model.specs.Stores.{Stores, with_functions}
use Rattle.model.specs.Loading.{room_for}
use Rattle.model.specs.Runs.{root}
use Rattle.image_load.proofs.Loads.{room_of_lem}
use Rattle.check_rules.specs.Checks as k
use Rattle.check_rules.specs.Checks.{CheckAs}
use Rattle.embed_words.specs.Coding.{Coded, under_way, out_refusal}
use Rattle.check_words.specs.Words.{checked_coded, checked_told, rejected_told, has_places, has_room, CheckIdle, not_an_image, no_place_lem, past_a_limit, no_room, breaks, passes}
use Rattle.check_words.specs.Words.{CheckThrough, under_way_lem, idle, frames_after, CheckBeside}
use Rattle.check_words.proofs.Judged.{an_image_has_main}
use Rattle.model.specs.declared.Counts.{Counts}
use Rattle.check_rules.specs.declared.Rejected.{Rejected}

-- the record and the answer are long enough
abbrev pub long : (w a : List ℕ) → Bool
long w a = leb 17 (length w) && leb 2 (length a)

module _ (p : Program) (w a heights : List ℕ) where
  has_places_lem : long w a ≡ true → length p.functions ≤ places 1 heights → has_places p w a heights ≡ true
  unfolding has_places
  has_places_lem e l = rw (e, le-leb (length p.functions) (places 1 heights) l)

  has_few : long w a ≡ true → places 1 heights < length p.functions → has_places p w a heights ≡ false
  unfolding has_places
  has_few e l = rw (e, lt-leb (length p.functions) (places 1 heights) l)

  has_none : long w a ≡ false → has_places p w a heights ≡ false
  unfolding has_places
  has_none e = rw e

module _ (p : Program) (s : Stores) (fs : List Frame) where
  has_room_lem : leb 1 (length fs) ≡ true → {b : Bool} → room_for p s ≡ b → has_room p s fs ≡ b
  unfolding has_room
  has_room_lem e f = and_true (room_for p s) e ∙ f
    where
      and_true : (x : Bool) {y : Bool} → y ≡ true → x && y ≡ x
      and_true true e = e
      and_true false e = refl

  has_no_frame : leb 1 (length fs) ≡ false → has_room p s fs ≡ false
  unfolding has_room
  has_no_frame e = and_false (room_for p s) e
    where
      and_false : (x : Bool) {y : Bool} → y ≡ false → x && y ≡ false
      and_false true e = e
      and_false false e = refl

module _ (image w a heights : List ℕ) (s : Stores) (fs : List Frame) where
  -- everything is lent
  whole : long w a ≡ true → leb 1 (length fs) ≡ true → {x : Result Counts Rejected} {hs : List ℕ} {t : Stores} → CheckAs image heights s x hs t
      → CheckIdle image w a heights s fs (checked_coded x w a) hs t (frames_after (checked_coded x w a).number fs)
  unfolding checked_told rejected_told frames_after
  whole e f (k.not_an_image j) = not_an_image j
  whole e f (k.no_place_lem {p} j l) = no_place_lem j (has_few p w a heights e l)
  whole e f (k.past_a_limit {p} j m b) = past_a_limit j (has_places_lem p w a heights e m) b
  whole e f (k.no_room {p} j m b r) = no_room j (has_places_lem p w a heights e m) b (has_room_lem p s fs f r)
  whole e f (k.breaks {p} j m b r d) = breaks j (has_places_lem p w a heights e m) b (has_room_lem p s fs f r) d
  whole e f (k.passes {p} j m b r d h) = passes j (has_places_lem p w a heights e m) b (has_room_lem p s fs f r) d h

  -- what a refusal leaves: the heights and stores that were lent, as they were
  record Refuses (lent : List ℕ) (t₀ : Stores) (x : Result Counts Rejected) (hs : List ℕ) (t : Stores) : Type 0 where
    through : CheckIdle image w a heights s fs (checked_coded x w a) heights s (frames_after (checked_coded x w a).number fs)
    heights_kept : hs ≡ lent
    stores_kept : t ≡ t₀

  main_of_lem : {p : Program} → judge image ≡ fine p → 0 < length p.functions
  main_of_lem {p} j = an_image_has_main image p j

  -- no place for a height is lent
  placeless : long w a ≡ false → {t₀ : Stores} {x : Result Counts Rejected} {hs : List ℕ} {t : Stores} → CheckAs image [] t₀ x hs t → Refuses [] t₀ x hs t
  unfolding checked_told rejected_told frames_after places
  placeless e (k.not_an_image j) = record { through = not_an_image j; heights_kept = refl; stores_kept = refl }
  placeless e (k.no_place_lem {p} j l) = record { through = no_place_lem j (has_none p w a heights e); heights_kept = refl; stores_kept = refl }
  placeless e (k.past_a_limit j m b) = absurd (let z : ⊥ = omega (arith, main_of_lem j, m) in z)
  placeless e (k.no_room j m b r) = absurd (let z : ⊥ = omega (arith, main_of_lem j, m) in z)
  placeless e (k.breaks j m b r d) = absurd (let z : ⊥ = omega (arith, main_of_lem j, m) in z)
  placeless e (k.passes j m b r d h) = absurd (let z : ⊥ = omega (arith, main_of_lem j, m) in z)

  -- nothing of the functions is lent
  pub roomless : {p : Program} → judge image ≡ fine p → (t : Stores) → t.functions ≡ [] → room_for p t ≡ true → ⊥
  unfolding places
  roomless {p} j t e r =
      let some = main_of_lem j in let room = (room_of_lem p t r).functions in let none = ap (places 2) e in
      let z : ⊥ = omega arith in z

  frameless : long w a ≡ true → leb 1 (length fs) ≡ false → {t₀ : Stores} → t₀.functions ≡ [] → {x : Result Counts Rejected} {hs : List ℕ} {t : Stores}
      → CheckAs image heights t₀ x hs t → Refuses heights t₀ x hs t
  unfolding checked_told rejected_told frames_after
  frameless e f n (k.not_an_image j) = record { through = not_an_image j; heights_kept = refl; stores_kept = refl }
  frameless e f n (k.no_place_lem {p} j l) = record { through = no_place_lem j (has_few p w a heights e l); heights_kept = refl; stores_kept = refl }
  frameless e f n (k.past_a_limit {p} j m b) = record { through = past_a_limit j (has_places_lem p w a heights e m) b; heights_kept = refl; stores_kept = refl }
  frameless e f n (k.no_room {p} j m b r) = record {
    through = no_room j (has_places_lem p w a heights e m) b (has_no_frame p s fs f);
    heights_kept = refl;
    stores_kept = refl;
  }
  frameless e f n (k.breaks j m b r d) = absurd (roomless j _ n r)
  frameless e f n (k.passes j m b r d h) = absurd (roomless j _ n r)

  -- what is left of the heights and of the stores is joined to what was not lent
  crosses_placeless : long w a ≡ false → (grow : Stores → Stores) (t₀ : Stores) → grow t₀ ≡ s → {x : Result Counts Rejected} {hs : List ℕ} {t : Stores} → CheckAs image [] t₀ x hs t
      → CheckIdle image w a heights s fs (checked_coded x w a) (hs ++ heights) (grow t) (frames_after (checked_coded x w a).number fs)
  crosses_placeless e grow t₀ g h = let r = placeless e h in rw (r.heights_kept, r.stores_kept, g) r.through

  crosses_frameless : long w a ≡ true → leb 1 (length fs) ≡ false → (grow : Stores → Stores) (t₀ : Stores) → t₀.functions ≡ [] → grow t₀ ≡ s
      → {x : Result Counts Rejected} {hs : List ℕ} {t : Stores} → CheckAs image heights t₀ x hs t
      → CheckIdle image w a heights s fs (checked_coded x w a) (hs ++ []) (grow t) (frames_after (checked_coded x w a).number fs)
  crosses_frameless e f grow t₀ n g h = let r = frameless e f n h in rw (r.heights_kept, append-nil heights, r.stores_kept, g) r.through

-- ---- where a run is under way

module _ (w a : List ℕ) where
  -- 25 is told where a run is under way, and nowhere else
  is_under_way : (y room : Bool) → under_way w ≡ y → long w a ≡ room → out_refusal w 2 a ≡ 25 → under_way w ≡ true
  unfolding out_refusal
  is_under_way true room e l f = e
  is_under_way false true e l f = absurd (let z : ⊥ = omega (arith, (rw (e, l) at f)) in z)
  is_under_way false false e l f = absurd (let z : ⊥ = omega (arith, (rw (e, l) at f)) in z)

  is_idle : (y : Bool) → under_way w ≡ y → {why : ℕ} → why ≡ out_refusal w 2 a → (why ≡ 25 → ⊥) → under_way w ≡ false
  unfolding out_refusal
  is_idle true f e not = absurd (not (e ∙ rw f))
  is_idle false f e not = f

  pub check_waits : (image heights : List ℕ) (s : Stores) (n : ℕ) {why : ℕ} → why ≡ out_refusal w 2 a → why ≡ 25
      → CheckBeside image w a heights s n (record { number = why; vm = w; answer = a }) heights s
  unfolding frames_after
  check_waits image heights s n e z = rw z (record { through = λ fs l. under_way_lem (is_under_way (under_way w) (long w a) refl refl (sym e ∙ z)) })

-- ---- the entry, all but its frame: of the heights k places are lent, of the functions j

-- what was lent of the functions, joined to what was not
abbrev grown : ℕ → Stores → Stores → Stores
grown j s t = with_functions (t.functions ++ drop j s.functions) t

module _ (image w a heights : List ℕ) (s : Stores) (x : Result Counts Rejected) (hs : List ℕ) (t : Stores) where
  abbrev Through : List Frame → ℕ → ℕ → Type 0
  Through fs k j =
      CheckIdle image w a heights s fs (checked_coded x w a) (hs ++ drop k heights) (grown j s t) (frames_after (checked_coded x w a).number fs)

  abbrev Lent : ℕ → ℕ → Type 0
  Lent k j = CheckAs image (take k heights) (with_functions (take j s.functions) s) x hs t

  grown_again : (j : ℕ) → grown j s (with_functions (take j s.functions) s) ≡ s
  grown_again j = ap (λ (l : List ℕ). with_functions l s) (take-append-drop j s.functions)

  no_places_lent : long w a ≡ false → (fs : List Frame) (j : ℕ) → Lent 0 j → Through fs 0 j
  no_places_lent e fs j h = crosses_placeless image w a heights s fs e (grown j s) (with_functions (take j s.functions) s) (grown_again j) h

  no_functions_lent : long w a ≡ true → (fs : List Frame) → leb 1 (length fs) ≡ false → Lent (length heights) 0 → Through fs (length heights) 0
  no_functions_lent e fs f h =
      let all : CheckAs image heights (with_functions [] s) x hs t = rw (take-length heights) at h in
      rw (drop-length heights) (crosses_frameless image w a heights s fs e f (grown 0 s) (with_functions [] s) refl refl all)

  all_are_lent : long w a ≡ true → (fs : List Frame) → leb 1 (length fs) ≡ true → Lent (length heights) (length s.functions) → Through fs (length heights) (length s.functions)
  all_are_lent e fs f h =
      let all : CheckAs image heights s x hs t = rw (take-length heights, take-length s.functions) at h in
      rw (drop-length heights, append-nil hs, drop-length s.functions, append-nil t.functions) (whole image w a heights s fs e f all)

  by_room : (b : Bool) → long w a ≡ b → (n : ℕ) (fs : List Frame) → length fs ≡ n → (k : ℕ) → k ≡ (if b then length heights else 0)
      → (j : ℕ) → j ≡ (if eqb n 0 then 0 else length s.functions) → Lent k j → Through fs k j
  by_room false e n fs l k ek j ej h = rw ek (no_places_lent e fs j (rw ek at h))
  by_room true e zero fs l k ek j ej h = rw (ek, ej) (no_functions_lent e fs (rw l) (rw (ek, ej) at h))
  by_room true e (suc n) fs l k ek j ej h =
      let more : eqb (suc n) 0 ≡ false = ne_eqb (suc n) 0 (λ z. omega (arith, z)) in
      let all : j ≡ length s.functions = rw more at ej in
      rw (ek, all) (all_are_lent e fs (le-leb 1 (length fs) (omega (arith, l))) (rw (ek, all) at h))

  -- the room that is asked for is that of the slices
  room_by : under_way w ≡ false → (b : Bool) → long w a ≡ b → {why : ℕ} → why ≡ out_refusal w 2 a → (if eqb why 0 then length heights else 0) ≡ (if b then length heights else 0)
  unfolding out_refusal
  room_by i true e f = rw (f, i, e)
  room_by i false e f = rw (f, i, e)

  pub check_crosses : (n : ℕ) {why : ℕ} → why ≡ out_refusal w 2 a → (why ≡ 25 → ⊥) → {k : ℕ} → k ≡ (if eqb why 0 then length heights else 0)
      → {j : ℕ} → j ≡ (if eqb n 0 then 0 else length s.functions) → Lent k j → {c : Coded} → c ≡ checked_coded x w a
      → CheckBeside image w a heights s n c (hs ++ drop k heights) (grown j s t)
  check_crosses n ew not {k} ek {j} ej h ec =
      let i = is_idle w a (under_way w) refl ew not in
      record { through = λ fs l. rw ec (idle i (by_room (long w a) refl n fs l k (ek ∙ room_by i (long w a) refl ew) j ej h)) }

-- how much of the functions is lent

rows_most : (b : Bool) (size : ℕ) → (if b then 0 else size) ≤ size
rows_most true size = omega arith
rows_most false size = omega arith

pub rows_fit : (n size : ℕ) {k : ℕ} → k ≡ (if eqb n 0 then 0 else size) → k ≤ size
rows_fit n size e = rw e (rows_most (eqb n 0) size)

pub rows_taken : (n : ℕ) (l : List ℕ) {k : ℕ} → k ≡ (if eqb n 0 then 0 else length l) → k ≡ length (take k l)
rows_taken n l e = sym (length-take-le _ l (rows_fit n (length l) e))

-- ---- and the frame

module _ {image w a heights : List ℕ} {s : Stores} {c : Coded} {hs : List ℕ} {t : Stores} (fs : List Frame) (h : CheckBeside image w a heights s (length fs) c hs t) where
  -- what passed has a place for its frame
  placed : {d : Coded} {ks : List ℕ} {u : Stores} {gs : List Frame} → CheckIdle image w a heights s fs d ks u gs → d.number ≡ 0 → 0 < length fs
  unfolding has_room
  placed (not_an_image j) z = absurd (let y : ⊥ = omega (arith, z) in y)
  placed (no_place_lem j m) z = absurd (let y : ⊥ = omega (arith, z) in y)
  placed (past_a_limit j m b) z = absurd (let y : ⊥ = omega (arith, z) in y)
  placed (no_room j m b r) z = absurd (let y : ⊥ = omega (arith, z) in y)
  placed (breaks j m b r d) z = absurd (let y : ⊥ = omega (arith, z) in y)
  placed (passes {p} j m b r d g) z = let l : 1 ≤ length fs = leb-true _ _ (and_right (room_for p s) (leb 1 (length fs)) r) in omega arith

  placed_through : {d : Coded} {ks : List ℕ} {u : Stores} {gs : List Frame} → CheckThrough image w a heights s fs d ks u gs → d.number ≡ 0 → 0 < length fs
  placed_through (under_way_lem e) z = absurd (let y : ⊥ = omega (arith, z) in y)
  placed_through (idle i g) z = placed g z

  pub frame_placed : c.number ≡ 0 → 0 < length fs
  frame_placed z = placed_through (h.through fs refl) z

  pub frame_laid : c.number ≡ 0 → {gs : List Frame} → gs ≡ set fs 0 (root 0) → CheckThrough image w a heights s fs c hs t gs
  unfolding frames_after
  frame_laid z e = rw e (rw (eq-eqb c.number 0 z) at (h.through fs refl))

  pub frame_not : (c.number ≡ 0 → ⊥) → CheckThrough image w a heights s fs c hs t fs
  unfolding frames_after
  frame_not z = rw (ne_eqb c.number 0 z) at (h.through fs refl)
