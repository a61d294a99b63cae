-- The first text that was there before: rows of texts, chunks of them in the order of names, and all chunks.
use mathlib.Core.Path.{◌≡◌, refl, sym, ap, ◌∙◌}
use mathlib.Core.Bool.{Bool, true, false, ◌&&◌}
use mathlib.Core.List.{List}
use Prim.Native.Nat.{ℕ, zero, suc, ◌+◌, ◌-◌, ◌*◌, ◌/◌, ◌≤◌, ◌<◌, ◌^◌, min}
use native.Mathlib.Omega.{arith}
use native.Mathlib.Nat.{min-le_left, min-le_right}
use native.Mathlib.Numerals.{lt_of_le_of_ne}
use lib.Dec.{eqb, ltb}
use lib.ListN.{length, take, drop, length-drop}
use lib.Seq.{take_all, drop-drop}
use borrow.Author.Tests.{ltb-true, ltb-false, eqb-true, eqb-false}
use Rattle.model.specs.Values.{text_at}
use Rattle.model.specs.Equality.{same_bytes}
use Rattle.model.specs.Stores.{pack, part, order_word}
use Rattle.model.specs.Orders.{name_in_order}
use Rattle.laws_names.specs.Sorted.{Edge, struct_put}
use Rattle.laws_names.proofs.Halves.{edge_spot, found_not, stands_yes, stands_no}
use Rattle.laws_names.proofs.Putting.{put_keeps_length, new_word, old_word}
use Rattle.laws_names.proofs.Standing.{names_differ, none_of_them, stays_in_order}
use Rattle.layout.proofs.Bools.{apart, either_way}
use Rattle.layout.proofs.Parts.{start_pack, size_pack}
use Rattle.image_judge.specs.Links.{part_of, TextAt, TextPost}
use Rattle.image_judge.specs.Repeats.{text_from, after_text, place_of, name_of, Stands, Rows, Again, RepeatPost, Holds, TakenPost, LookPost, ChunkPost}
use Rattle.image_judge.specs.declared.repeats.Taken.{Taken}
use Rattle.image_judge.specs.declared.repeats.Chunk.{Chunk}
use Rattle.image_judge.proofs.Items.{part_slice, text_is}
use Rattle.std.specs.Prelude.{Option, Some}

-- ---- a text and the place behind it

module _ (s : List ℕ) (p i n : ℕ) (g : TextAt s p i n) where
  pub text_there : text_from s p ≡ part_of s i n
  unfolding text_from
  text_there = rw g.good.means

  pub behind_there : after_text s p ≡ i + n
  unfolding after_text
  behind_there = rw g.good.means (let a = length-drop (i + n) s in let b = g.good.within in let z : length s - length (drop (i + n) s) ≡ i + n = omega arith in z)

  pub stands_there : Stands s p
  stands_there = record { good = rw (text_there, behind_there) g.good }

-- ---- places and names, from a later text on

pub place_add : (s : List ℕ) (at d i : ℕ) → place_of s (place_of s at d) i ≡ place_of s at (d + i)
unfolding place_of
place_add s at d zero = let z : d + 0 ≡ d = omega arith in rw z
place_add s at d (suc i) = let z : d + suc i ≡ suc (d + i) = omega arith in rw z (ap (after_text s) (place_add s at d i))

pub name_add : (s : List ℕ) (at d i : ℕ) → name_of s (place_of s at d) i ≡ name_of s at (d + i)
unfolding name_of
name_add s at d i = ap (text_from s) (place_add s at d i)

module _ (s : List ℕ) (at n : ℕ) (h : Rows s at n) where
  pub place_within : (d : ℕ) → d ≤ n → place_of s at d ≤ length s
  unfolding place_of
  place_within zero l = h.within
  place_within (suc d) l = (h.each d (omega arith)).good.within

  pub rows_ahead : (d : ℕ) → d ≤ n → at ≤ place_of s at d
  unfolding place_of
  rows_ahead zero l = omega arith
  rows_ahead (suc d) l = let a = rows_ahead d (omega arith) in let b = (h.each d (omega arith)).good.ahead in omega arith

  pub rows_later : (d m : ℕ) → d + m ≤ n → Rows s (place_of s at d) m
  rows_later d m l = record { within = place_within d (omega arith); each = λ i k. rw (place_add s at d i) (h.each (d + i) (omega arith)) }

-- ---- the rows, one by one

pub record Rowing (s : List ℕ) (at n next i : ℕ) : Type 0 where
  pub most : i ≤ n
  pub here : next ≡ place_of s at i
  pub rows : Rows s at i

pub rowing_start : (s : List ℕ) (at n : ℕ) → at ≤ length s → Rowing s at n at 0
unfolding place_of
rowing_start s at n h = record { most = omega arith; here = refl; rows = record { within = h; each = λ i l. absurd (let y : ⊥ = omega arith in y) } }

module _ (s : List ℕ) (at n next i : ℕ) (h : Rowing s at n next i) where
  pub rowing_within : next ≤ length s
  rowing_within = rw h.here (place_within s at i h.rows i (omega arith))

  module _ (r : Option (ℕ × ℕ)) (p : TextPost s next r) where
    module _ (l : i < n) (k m : ℕ) (e : r ≡ Some (k, m)) where
      pub rowing_next : Rowing s at n (k + m) (i + 1)
      unfolding place_of
      rowing_next =
          let g = text_is s next r p k m e in
          let z : i + 1 ≡ suc i = omega arith in
          record {
            most = omega arith;
            here = rw z (sym (rw h.here at (behind_there s next k m g)));
            rows = rw z (record {
              within = h.rows.within;
              each = λ j b. either_way (eqb j i) (λ x. let y : j ≡ i = eqb-true j i x in rw y (rw h.here at (stands_there s next k m g)))
                  (λ x. h.rows.each j (lt_of_le_of_ne (omega arith) (eqb-false j i x)));
            });
          }

-- ---- slices of the image

rest_slice : (s : List ℕ) (from : ℕ) → take (length s - from) (drop from s) ≡ drop from s
rest_slice s from = take_all (length s - from) (drop from s) (let z = length-drop from s in omega arith)

-- a word names the text k, over the image from a place on
word_names : (s : List ℕ) (from k m w : ℕ) → from ≤ k → k - from ≤ 0xFFFF_FFFF → w ≡ pack (k - from) m → part (drop from s) w ≡ part_of s k m
unfolding part text_at part_of
word_names s from k m w h l e =
    let a : k - from < 2 ^ 32 = omega arith in let z : from + (k - from) ≡ k = omega arith in
    rw (e, start_pack (k - from) m a, size_pack (k - from) m a, drop-drop (k - from) from s, z)

-- ---- a chunk takes texts in

module _ (s : List ℕ) (from n : ℕ) (rows : Rows s from n) where
  none_held : (ss : List ℕ) → Holds s from 0 ss
  none_held ss = record {
    names = λ k h. absurd (let y : ⊥ = omega arith in y);
    order = record { below = λ i h. absurd (let y : ⊥ = omega arith in y); ascending = record { next = λ i h. absurd (let y : ⊥ = omega arith in y) } };
  }

  -- text i is held against the chunk of the first k
  module _ (k : ℕ) (ss : List ℕ) (held : Holds s from k ss) (next i : ℕ) (here : next ≡ place_of s from i) (few : i < n) (r : Option (ℕ × ℕ)) (p : TextPost s next r) where
    module _ (y m : ℕ) (e : r ≡ Some (y, m)) where
      text : TextAt s next y m
      text = text_is s next r p y m e

      pub held_behind : y + m ≡ place_of s from (suc i)
      unfolding place_of
      held_behind = sym (rw here at (behind_there s next y m text))

      named : part_of s y m ≡ name_of s from i
      unfolding name_of
      named = sym (rw here at (text_there s next y m text))

      -- where the search by halves ended
      module _ (place : ℕ) (ed : Edge k (name_in_order ss (take (length s - from) (drop from s))) (take (y + m - y) (drop y s)) place) where
        edge : Edge k (name_in_order ss (drop from s)) (name_of s from i) place
        edge = rw (rest_slice s from) at (rw named at (rw (part_slice s y m) at ed))

        module _ (b : Bool) (eb : b ≡ (ltb place k && same_bytes (take (y + m - y) (drop y s)) (name_in_order ss (take (length s - from) (drop from s)) place))) where
          test : b ≡ (ltb place k && same_bytes (name_of s from i) (name_in_order ss (drop from s) place))
          test = rw (rest_slice s from) at (rw named at (rw (part_slice s y m) at eb))

          pub held_again : k ≤ i → b ≡ true → Again s from i
          unfolding name_in_order
          held_again l x =
              let v = stands_yes place k _ (sym test ∙ x) in let j = order_word ss place in
              let q : j < k = held.order.below place v.0 in
              record { first = j; earlier = omega arith; same = rw (← (held.names j q)) v.1 }

          pub held_none : b ≡ false → (j : ℕ) → j < k → same_bytes (name_of s from i) (name_of s from j) ≡ false
          held_none x j q =
              rw (← (held.names j q)) (none_of_them k ss (drop from s) held.order (name_of s from i) place edge (stands_no place k _ (sym test ∙ x)) j q)

          -- a new one is put in its place
          pub held_more : i ≡ k → b ≡ false → 2 * k + 2 ≤ length ss → from ≤ y → y - from ≤ 0xFFFF_FFFF → (w : ℕ) → w ≡ pack (y - from) m
              → (ss' : List ℕ) → ss' ≡ struct_put k place w ss → Holds s from (suc k) ss'
          held_more z x fits ah far w ew ss' es =
              let T = drop from s in
              let spot = edge_spot k (name_in_order ss T) held.order.ascending (name_of s from i) place edge in
              let here : part T w ≡ name_of s from i = word_names s from y m w ah far ew ∙ named in
              let new = found_not k (name_in_order ss T) held.order.ascending (name_of s from i) place edge (stands_no place k _ (sym test ∙ x)) in
              rw es (record {
                names = λ j q.
                    either_way (eqb j k)
                    (λ u. let v : j ≡ k = eqb-true j k u in rw (v, new_word k place w ss spot.most fits) (here ∙ rw z))
                    (λ u.
                    let v : j ≡ k → ⊥ = eqb-false j k u in
                    rw (old_word k place w ss spot.most fits j v) (held.names j (lt_of_le_of_ne (omega arith) v)));
                order = stays_in_order k ss T held.order (name_of s from i) place spot new w T fits (λ j q. refl) here;
              })

first_place : (s : List ℕ) (from i : ℕ) → i ≡ 0 → place_of s from i ≡ from
unfolding place_of
first_place s from zero e = refl
first_place s from (suc i) e = absurd (let y : ⊥ = omega arith in y)

not_first : (i : ℕ) → (i ≡ 0 → ⊥) → 0 < i
not_first zero d = absurd (d refl)
not_first (suc i) d = omega arith

pub record Taking (s : List ℕ) (from n : ℕ) (ss₀ ss : List ℕ) (next i : ℕ) : Type 0 where
  pub most : i ≤ n
  pub here : next ≡ place_of s from i
  pub same : length ss ≡ length ss₀
  pub holds : Holds s from i ss

module _ (s : List ℕ) (from n : ℕ) (rows : Rows s from n) (ss₀ : List ℕ) (room : ℕ) (er : room ≡ min n (length ss₀ / 2)) where
  in_room : (room ≤ n) × (2 * room ≤ length ss₀)
  in_room = let a = min-le_left n (length ss₀ / 2) in let b = min-le_right n (length ss₀ / 2) in (omega arith, omega arith)

  pub taking_start : Taking s from n ss₀ ss₀ from 0
  unfolding place_of
  taking_start = record { most = omega arith; here = refl; same = refl; holds = none_held s from n rows ss₀ }

  module _ (ss : List ℕ) (next i : ℕ) (h : Taking s from n ss₀ ss next i) where
    stops : (z : Taken) → z.count ≡ i → z.next ≡ next → (0 < n → 2 ≤ length ss₀ → 0 < i) → (z.again ≡ true → (i < n) × Again s from i) → TakenPost s from n z ss₀ ss
    stops z ec en some again = record {
      holds = rw ec h.holds;
      most = rw ec h.most;
      next = rw ec (en ∙ h.here);
      some = λ a b. rw ec (some a b);
      again = λ a. rw ec (again a);
    }

    module _ (l : i < room) (r : Option (ℕ × ℕ)) (p : TextPost s next r) where
      few : i < n
      few = let a = in_room in omega arith

      module _ (y m : ℕ) (e : r ≡ Some (y, m)) where
        -- a text stands behind the chunk's start, and a first one near it
        pub taking_ahead : from ≤ y
        taking_ahead =
            let a = (text_is s next r p y m e).ahead in
            let b : from ≤ next = rw h.here (rows_ahead s from n rows i h.most) in
            omega arith

        pub taking_far : 0xFFFF_FFFF < y - from → TakenPost s from n (record { count = i; next = next; again = false }) ss₀ ss
        taking_far f = stops _ refl refl (λ a b. not_first i (λ z. let a = (text_is s next r p y m e).near in let b : next ≡ from = h.here ∙ first_place s from i z in omega arith))
            (λ a. apart false a refl)

        module _ (place : ℕ) (ed : Edge i (name_in_order ss (take (length s - from) (drop from s))) (take (y + m - y) (drop y s)) place)
            (b : Bool) (eb : b ≡ (ltb place i && same_bytes (take (y + m - y) (drop y s)) (name_in_order ss (take (length s - from) (drop from s)) place))) where
          pub taking_again : b ≡ true → TakenPost s from n (record { count = i; next = next; again = true }) ss₀ ss
          taking_again x =
              let g = held_again s from n rows i ss h.holds next i h.here few r p y m e place ed b eb (omega arith) x in
              stops _ refl refl (λ u v. let q = g.earlier in omega arith) (λ u. (few, g))

          pub taking_fits : (place ≤ i) × (2 * i + 2 ≤ length ss)
          taking_fits = let a = in_room in let d = h.same in (ed.most, omega arith)

          pub taking_next : b ≡ false → y - from ≤ 0xFFFF_FFFF → (w : ℕ) → w ≡ pack (y - from) m → (ss' : List ℕ) → ss' ≡ struct_put i place w ss
              → Taking s from n ss₀ ss' (y + m) (i + 1)
          taking_next x f w ew ss' es =
              let z : i + 1 ≡ suc i = omega arith in let fw = few in
              record {
                most = omega arith;
                here = rw z (held_behind s from n rows i ss h.holds next i h.here few r p y m e);
                same = put_keeps_length i place w ss ss' es ∙ h.same;
                holds = rw z (held_more s from n rows i ss h.holds next i h.here few r p y m e place ed b eb refl x taking_fits.1 taking_ahead f w ew ss' es);
              }

-- ---- later texts are looked for in it

pub record Looking (s : List ℕ) (from n k next i : ℕ) : Type 0 where
  pub least : k ≤ i
  pub most : i ≤ n
  pub here : next ≡ place_of s from i
  pub differ : (d j : ℕ) → j < k → k ≤ d → d < i → same_bytes (name_of s from d) (name_of s from j) ≡ false

module _ (s : List ℕ) (from n k at : ℕ) (ss : List ℕ) (pre : Rows s from n × ((k ≤ n) × ((at ≡ place_of s from k) × Holds s from k ss))) where
  module _ (next i : ℕ) (h : Looking s from n k next i) where
    module _ (l : i < n) (r : Option (ℕ × ℕ)) (p : TextPost s next r) where
      module _ (y m : ℕ) (e : r ≡ Some (y, m)) where
        module _ (place : ℕ) (ed : Edge k (name_in_order ss (take (length s - from) (drop from s))) (take (y + m - y) (drop y s)) place)
            (b : Bool) (eb : b ≡ (ltb place k && same_bytes (take (y + m - y) (drop y s)) (name_in_order ss (take (length s - from) (drop from s)) place))) where
          pub looking_again : b ≡ true → LookPost s from n k i
          looking_again x = record {
            least = h.least;
            most = h.most;
            differ = h.differ;
            again = λ q. held_again s from n pre.0 k ss pre.1.1.1 next i h.here l r p y m e place ed b eb h.least x;
          }

          pub looking_next : b ≡ false → Looking s from n k (y + m) (i + 1)
          looking_next x =
              let z : i + 1 ≡ suc i = omega arith in let le = h.least in
              record {
                least = omega arith;
                most = omega arith;
                here = rw z (held_behind s from n pre.0 k ss pre.1.1.1 next i h.here l r p y m e);
                differ = λ d j a c f.
                    either_way (eqb d i)
                    (λ u. let v : d ≡ i = eqb-true d i u in rw v (held_none s from n pre.0 k ss pre.1.1.1 next i h.here l r p y m e place ed b eb x j a))
                    (λ u. h.differ d j a c (lt_of_le_of_ne (omega arith) (eqb-false d i u)));
              }

-- ---- a chunk

module _ (s : List ℕ) (from n : ℕ) (rows : Rows s from n) (z : Taken) (ss₀ ss : List ℕ) (k : TakenPost s from n z ss₀ ss) (big : 2 ≤ length ss₀) where
  in_chunk : (i j : ℕ) → j < i → i < z.count → same_bytes (name_of s from i) (name_of s from j) ≡ false
  in_chunk i j a b =
      let o = k.holds in
      rw (← (o.names i b), ← (o.names j (omega arith))) (names_differ z.count ss (drop from s) o.order i j b (omega arith) (λ (e : i ≡ j). omega arith))

  pub chunk_again : z.again ≡ true → ChunkPost s from n (record { count = z.count; next = z.next; repeat = z.count })
  chunk_again e = record {
    some = λ l. k.some l big;
    few = k.most;
    next = k.next;
    most = k.most;
    differ = λ i j a b c. in_chunk i j b c;
    again = λ l. (k.again e).1;
  }

  pub chunk_looked : (r : ℕ) → LookPost s from n z.count r → ChunkPost s from n (record { count = z.count; next = z.next; repeat = r })
  chunk_looked r l = record {
    some = λ q. k.some q big;
    few = k.most;
    next = k.next;
    most = l.most;
    differ = λ i j a b c. either_way (ltb i z.count) (λ x. in_chunk i j b (ltb-true i z.count x)) (λ x. l.differ i j a (ltb-false i z.count x) c);
    again = l.again;
  }

-- ---- all chunks

pub record Repeating (s : List ℕ) (at n repeat next done : ℕ) : Type 0 where
  pub most : repeat ≤ n
  pub few : done ≤ n
  pub here : next ≡ place_of s at done
  pub differ : (i j : ℕ) → j < done → j < i → i < repeat → same_bytes (name_of s at i) (name_of s at j) ≡ false
  pub again : repeat < n → Again s at repeat

module _ (s : List ℕ) (at n : ℕ) (rows : Rows s at n) where
  pub repeating_start : Repeating s at n n at 0
  unfolding place_of
  repeating_start = record {
    most = omega arith;
    few = omega arith;
    here = refl;
    differ = λ i j a b c. absurd (let y : ⊥ = omega arith in y);
    again = λ l. absurd (let y : ⊥ = omega arith in y);
  }

  module _ (repeat next done : ℕ) (h : Repeating s at n repeat next done) where
    pub repeating_end : repeat ≤ done → RepeatPost s at n repeat
    repeating_end l = record { most = h.most; differ = λ i j a b. h.differ i j (omega arith) a b; again = h.again }

    module _ (l : done < repeat) where
      pub repeating_rows : Rows s next (repeat - done)
      repeating_rows = let m = h.most in rw h.here (rows_later s at n rows done (repeat - done) (omega arith))

      module _ (z : Chunk) (c : ChunkPost s next (repeat - done) z) where
        pub repeating_fits : (done + z.repeat ≤ n) × ((done + z.count ≤ n) × (0 < z.count))
        repeating_fits = let m = h.most in let a = c.most in let b = c.few in (omega arith, (omega arith, c.some (omega arith)))

        later : (i : ℕ) → name_of s next i ≡ name_of s at (done + i)
        later i = rw h.here (name_add s at done i)

        pub repeating_next : Repeating s at n (done + z.repeat) z.next (done + z.count)
        repeating_next =
            let m = h.most in let a = c.most in let f = c.few in let q = repeating_fits in
            record {
              most = omega arith;
              few = omega arith;
              here = c.next ∙ rw h.here (place_add s at done z.count);
              differ = λ i j u v w.
                  either_way (ltb j done) (λ x. h.differ i j (ltb-true j done x) v (omega arith))
                  (λ x.
                  let y : done ≤ j = ltb-false j done x in
                  let ei : done + (i - done) ≡ i = omega arith in let ej : done + (j - done) ≡ j = omega arith in
                  rw (ei, ej) at (rw (later (i - done), later (j - done)) at (c.differ (i - done) (j - done) (omega arith) (omega arith) (omega arith))));
              again = λ u. either_way (ltb z.repeat (repeat - done)) (λ x. moved (c.again (ltb-true _ _ x)))
                  (λ x. let y : repeat - done ≤ z.repeat = ltb-false _ _ x in let e : repeat ≡ done + z.repeat = omega arith in rw e at (h.again (omega arith)));
            }
          where
            moved : Again s next z.repeat → Again s at (done + z.repeat)
            moved g = record { first = done + g.first; earlier = (let a = g.earlier in omega arith); same = rw (later z.repeat, later g.first) at g.same }
