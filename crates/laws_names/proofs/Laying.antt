-- A list of numbers in the order of names, and the struct store that loading lays.
use mathlib.Core.Path.{◌≡◌, refl, sym, ap, ◌∙◌}
use mathlib.Core.Bool.{true, false, not}
use mathlib.Mathlib.Data.Bool.Basic.{and_elim_left as and_left, and_elim_right as and_right}
use mathlib.Core.List.{List, [], ◌∷◌, ◌++◌}
use Prim.Native.Nat.{ℕ, zero, suc, ◌+◌, ◌*◌, ◌≤◌, ◌<◌}
use native.Mathlib.Omega.{arith}
use native.Mathlib.Numerals.{lt_of_le_of_ne}
use lib.Dec.{eqb}
use lib.ListN.{length, get_or, set, length-append, get_or-append}
use lib.Seq.{set-set, set_comm, get_or_at}
use borrow.Author.Tests.{eqb-true, eqb-false, not-true}
use Rattle.model.specs.Basics.{written}
use Rattle.model.specs.Equality.{same_bytes}
use Rattle.model.specs.Programs.{before, name_at, put_in, order_of, among}
use Rattle.model.specs.Images.{joined}
use Rattle.model.specs.Stores.{part, struct_word, order_word, structs_from, orders_from, pack}
use Rattle.model.specs.Orders.{name_in_order}
use Rattle.model.specs.Emission.{put_orders}
use Rattle.model.specs.Loading.{structs_laid}
use Rattle.laws_names.specs.Sorted.{Ascending, Edge, InOrder, all_different, struct_put}
use Rattle.laws_names.proofs.Before.{apart, either_way, flip_differs}
use Rattle.laws_names.proofs.Halves.{edge_spot}
use Rattle.laws_names.proofs.Putting.{order_at}
use Rattle.laws_names.proofs.Standing.{somewhere, insert_below, insert_ascends, struct_at, put_named}

-- ---- a number put in a list

pub length_put_in : (ns : List (List ℕ)) (x : ℕ) (js : List ℕ) → length (put_in ns x js) ≡ suc (length js)
unfolding put_in
length_put_in ns x [] = refl
length_put_in ns x (j ∷ js) = either_way (before (name_at ns j) (name_at ns x)) (λ t. rw t (ap suc (length_put_in ns x js))) (λ f. rw f)

-- where it stands then: those below stay, those behind move up
pub record PutAt (ns : List (List ℕ)) (x : ℕ) (js : List ℕ) (at : ℕ) : Type 0 where
  pub low : (k : ℕ) → k < at → get_or (put_in ns x js) k 0 ≡ get_or js k 0
  pub here : get_or (put_in ns x js) at 0 ≡ x
  pub moved : (k : ℕ) → at ≤ k → k < length js → get_or (put_in ns x js) (suc k) 0 ≡ get_or js k 0

pub put_at_lem : (ns : List (List ℕ)) (x : ℕ) (js : List ℕ) (at : ℕ) → at ≤ length js
    → ((k : ℕ) → k < at → before (name_at ns (get_or js k 0)) (name_at ns x) ≡ true)
    → (at < length js → before (name_at ns (get_or js at 0)) (name_at ns x) ≡ false) → PutAt ns x js at
unfolding put_in
put_at_lem ns x [] zero m b h = record { low = λ k l. absurd (let y : ⊥ = omega arith in y); here = refl; moved = λ k l q. absurd (let y : ⊥ = omega arith in y) }
put_at_lem ns x [] (suc at) m b h = absurd (let y : ⊥ = omega arith in y)
put_at_lem ns x (j ∷ js) zero m b h =
    let e : put_in ns x (j ∷ js) ≡ x ∷ (j ∷ js) = rw (h (omega arith)) in
    record { low = λ k l. absurd (let y : ⊥ = omega arith in y); here = rw e; moved = λ k l q. rw e }
put_at_lem ns x (j ∷ js) (suc at) m b h =
    let e : put_in ns x (j ∷ js) ≡ j ∷ put_in ns x js = rw (b 0 (omega arith)) in
    let r = put_at_lem ns x js at (omega arith) (λ k l. b (suc k) (omega arith)) (λ l. h (omega arith)) in
    record { low = lows j js at e r; here = rw e r.here; moved = moves j js at e r }
  where
    lows : (j : ℕ) (js : List ℕ) (at : ℕ) → put_in ns x (j ∷ js) ≡ j ∷ put_in ns x js → PutAt ns x js at → (k : ℕ) → k < suc at
        → get_or (put_in ns x (j ∷ js)) k 0 ≡ get_or (j ∷ js) k 0
    lows j js at e r zero l = rw e
    lows j js at e r (suc k) l = rw e (r.low k (omega arith))

    moves : (j : ℕ) (js : List ℕ) (at : ℕ) → put_in ns x (j ∷ js) ≡ j ∷ put_in ns x js → PutAt ns x js at → (k : ℕ) → suc at ≤ k → k < suc (length js)
        → get_or (put_in ns x (j ∷ js)) (suc k) 0 ≡ get_or (j ∷ js) k 0
    moves j js at e r zero l q = absurd (let y : ⊥ = omega arith in y)
    moves j js at e r (suc k) l q = rw e (r.moved k (omega arith) (omega arith))

-- ---- the order of the first n names

pub length_order : (n : ℕ) (ns : List (List ℕ)) → length (order_of n ns) ≡ n
unfolding order_of
length_order zero ns = refl
length_order (suc n) ns = length_put_in ns n (order_of n ns) ∙ ap suc (length_order n ns)

-- each of the first n differs from those before it
pub record Unlike (n : ℕ) (ns : List (List ℕ)) : Type 0 where
  pub unlike : (i j : ℕ) → j < i → i < n → same_bytes (name_at ns i) (name_at ns j) ≡ false

pub record Order (n : ℕ) (ns : List (List ℕ)) : Type 0 where
  pub below : (k : ℕ) → k < n → get_or (order_of n ns) k 0 < n
  pub ascending : Ascending n (λ k. name_at ns (get_or (order_of n ns) k 0))

pub in_order : (n : ℕ) (ns : List (List ℕ)) → Unlike n ns → Order n ns
unfolding order_of
in_order zero ns u = record { below = λ k h. absurd (let y : ⊥ = omega arith in y); ascending = record { next = λ i h. absurd (let y : ⊥ = omega arith in y) } }
in_order (suc n) ns u =
    let o = in_order n ns (record { unlike = λ i j l h. u.unlike i j l (omega arith) }) in
    let js = order_of n ns in let f : ℕ → List ℕ = λ k. name_at ns (get_or js k 0) in
    let w = somewhere n f (name_at ns n) in
    let s = edge_spot n f o.ascending (name_at ns n) w.at w.edge in
    let m = s.most in let z = length_order n ns in
    let p = put_at_lem ns n js w.at (omega arith) s.below (λ h. s.above w.at (omega arith) (omega arith)) in
    record {
      below = insert_below n w.at (λ k. get_or js k 0) (λ k. get_or (put_in ns n js) k 0) m o.below p.low p.here (λ k a b. p.moved k a (omega arith));
      ascending = insert_ascends n w.at f (λ k. name_at ns (get_or (put_in ns n js) k 0)) (name_at ns n) o.ascending s
          (λ i h. u.unlike n (get_or js i 0) (o.below i h) (omega arith))
          (λ k h. ap (name_at ns) (p.low k h)) (ap (name_at ns) p.here) (λ k a b. ap (name_at ns) (p.moved k a (omega arith)));
    }

-- names behind the first n change nothing
put_alike : (ns ms : List (List ℕ)) (x : ℕ) (js : List ℕ) → name_at ns x ≡ name_at ms x
    → ((k : ℕ) → k < length js → name_at ns (get_or js k 0) ≡ name_at ms (get_or js k 0)) → put_in ns x js ≡ put_in ms x js
unfolding put_in
put_alike ns ms x [] e h = refl
put_alike ns ms x (j ∷ js) e h =
    let a : name_at ns j ≡ name_at ms j = h 0 (omega arith) in
    rw (a, e, put_alike ns ms x js e (λ k l. h (suc k) (omega arith)))

pub order_front : (n : ℕ) (ns l : List (List ℕ)) → Unlike n ns → n ≤ length ns → order_of n (ns ++ l) ≡ order_of n ns
unfolding order_of name_at
order_front zero ns l u h = refl
order_front (suc n) ns l u h =
    let v : Unlike n ns = record { unlike = λ i j a b. u.unlike i j a (omega arith) } in
    let o = in_order n ns v in let z = length_order n ns in
    rw (order_front n ns l v (omega arith))
    (put_alike (ns ++ l) ns n (order_of n ns) (get_or-append ns l [] n (omega arith))
    (λ k q. let b = o.below k (omega arith) in get_or-append ns l [] (get_or (order_of n ns) k 0) (omega arith)))

-- ---- the store that loading lays, name by name

written_set : (l : List ℕ) (s : List ℕ) (i k x : ℕ) → k < i → set (written s i l) k x ≡ written (set s k x) i l
unfolding written
written_set [] s i k x h = refl
written_set (y ∷ l) s i k x h = written_set l (set s i y) (suc i) k x (omega arith) ∙ ap (λ (d : List ℕ). written d (suc i) l) (set_comm s i k y x (λ (e : i ≡ k). omega arith))

-- one name more: its word, and all the numbers anew
pub laid_step : (ns : List (List ℕ)) (x : List ℕ) (js ks : List ℕ) (i o : ℕ) (s : List ℕ) → length js ≡ length ns → length ks ≡ suc (length ns)
    → put_orders i ks (set (written s (2 * i) (structs_laid o ns js)) (2 * (i + length ns)) (pack (o + length (joined (λ n. n) ns)) (length x)))
    ≡ written s (2 * i) (structs_laid o (ns ++ (x ∷ [])) ks)
unfolding put_orders structs_laid written joined
laid_step [] x [] [] i o s ej ek = absurd (let y : ⊥ = omega arith in y)
laid_step [] x [] (k ∷ []) i o s ej ek =
    let z : i + 0 ≡ i = omega arith in let y : o + 0 ≡ o = omega arith in let v : 2 * i + 1 ≡ suc (2 * i) = omega arith in rw (z, y, v)
laid_step [] x [] (k ∷ (k' ∷ ks)) i o s ej ek = absurd (let y : ⊥ = omega arith in y)
laid_step [] x (j ∷ js) ks i o s ej ek = absurd (let y : ⊥ = omega arith in y)
laid_step (n ∷ ns) x [] ks i o s ej ek = absurd (let y : ⊥ = omega arith in y)
laid_step (n ∷ ns) x (j ∷ js) [] i o s ej ek = absurd (let y : ⊥ = omega arith in y)
laid_step (n ∷ ns) x (j ∷ js) (k ∷ ks) i o s ej ek =
    let p = pack o (length n) in let L = structs_laid (o + length n) ns js in
    let w = pack (o + length n + length (joined (λ n. n) ns)) (length x) in
    let v : 2 * i + 1 ≡ suc (2 * i) = omega arith in let v2 : suc (suc (2 * i)) ≡ 2 * suc i = omega arith in
    let q : i + suc (length ns) ≡ suc i + length ns = omega arith in
    let lg : o + length (n ++ joined (λ n. n) ns) ≡ o + length n + length (joined (λ n. n) ns) = (let a = length-append n (joined (λ n. n) ns) in omega arith) in
    let S = set (set s (2 * i) p) (suc (2 * i)) k in
    let m = suc (suc (2 * i)) in let at = 2 * (suc i + length ns) in
    let old = set (set s (2 * i) p) (suc (2 * i)) j in
    let e1 : set (set (written old m L) at w) (suc (2 * i)) k ≡ set (written S m L) at w =
    set_comm (written old m L) at (suc (2 * i)) w k (λ (r : at ≡ suc (2 * i)). omega arith)
    ∙ ap (λ (d : List ℕ). set d at w)
    (written_set L old m (suc (2 * i)) k (omega arith) ∙ ap (λ (d : List ℕ). written d m L) (set-set (set s (2 * i) p) (suc (2 * i)) j k)) in
    rw (v, q, lg)
    (ap (λ (d : List ℕ). put_orders (suc i) ks d) e1
    ∙ ap (λ (b : ℕ). put_orders (suc i) ks (set (written S b L) at w)) v2
    ∙ laid_step ns x js ks (suc i) (o + length n) S (omega arith) (omega arith)
    ∙ ap (λ (b : ℕ). written S b (structs_laid (o + length n) (ns ++ (x ∷ [])) ks)) (sym v2))

pub laid_length : (o : ℕ) (l : List (List ℕ)) (js : List ℕ) → length js ≡ length l → length (structs_laid o l js) ≡ 2 * length l
unfolding structs_laid
laid_length o [] [] e = refl
laid_length o [] (j ∷ js) e = absurd (let y : ⊥ = omega arith in y)
laid_length o (x ∷ l) [] e = absurd (let y : ⊥ = omega arith in y)
laid_length o (x ∷ l) (j ∷ js) e = let r = laid_length (o + length x) l js (omega arith) in omega arith

-- ---- names that differ

among_each : (x : List ℕ) (l : List (List ℕ)) → among x l ≡ false → (k : ℕ) → k < length l → same_bytes x (name_at l k) ≡ false
unfolding among name_at
among_each x [] e k h = absurd (let y : ⊥ = omega arith in y)
among_each x (n ∷ l) e zero h = either_way (same_bytes x n) (λ s. apart true refl (rw s at e)) (λ d. d)
among_each x (n ∷ l) e (suc k) h = either_way (same_bytes x n) (λ s. apart true refl (rw s at e)) (λ d. among_each x l (rw d at e) k (omega arith))

pub different_unlike : (l : List (List ℕ)) → all_different l ≡ true → Unlike (length l) l
unfolding all_different name_at
different_unlike [] e = record { unlike = λ i j a b. absurd (let y : ⊥ = omega arith in y) }
different_unlike (n ∷ l) e =
    let a = among n l in
    let r = different_unlike l (and_right (not a) (all_different l) e) in
    record { unlike = pair (not-true a (and_left (not a) (all_different l) e)) r }
  where
    pair : among n l ≡ false → Unlike (length l) l → (i j : ℕ) → j < i → i < suc (length l) → same_bytes (get_or (n ∷ l) i []) (get_or (n ∷ l) j []) ≡ false
    pair d r zero j a b = absurd (let y : ⊥ = omega arith in y)
    pair d r (suc i) zero a b = flip_differs n (get_or l i []) (among_each n l d i (omega arith))
    pair d r (suc i) (suc j) a b = r.unlike i j (omega arith) (omega arith)

pub unlike_less : (n : ℕ) (l m : List (List ℕ)) → n ≤ length l → Unlike n (l ++ m) → Unlike n l
unfolding name_at
unlike_less n l m h u = record {
  unlike = λ i j a b.
      rw (← (get_or-append l m [] i (omega arith)), ← (get_or-append l m [] j (omega arith))) (u.unlike i j a b);
}

-- one more that is none of them
pub unlike_more : (l : List (List ℕ)) (x : List ℕ) → Unlike (length l) l → among x l ≡ false → Unlike (suc (length l)) (l ++ (x ∷ []))
unfolding name_at
unlike_more l x u e = record {
  unlike = λ i j a b.
      either_way (eqb i (length l))
      (λ t.
      let z : i ≡ length l = eqb-true i (length l) t in
      rw (z, get_or_at l x [] [] (length l) refl, get_or-append l (x ∷ []) [] j (omega arith)) (among_each x l e j (omega arith)))
      (λ f.
      let k : i < length l = lt_of_le_of_ne (omega arith) (eqb-false i (length l) f) in
      rw (get_or-append l (x ∷ []) [] i k, get_or-append l (x ∷ []) [] j (omega arith)) (u.unlike i j a k));
}

-- ---- names and numbers as laid stand in order

pub standing_of : (n : ℕ) (ss t : List ℕ) (l : List (List ℕ)) → structs_from n 0 ss t ≡ l → orders_from n 0 ss ≡ order_of n l → Unlike n l → InOrder n ss t
unfolding name_in_order name_at
standing_of n ss t l en eo u =
    let o = in_order n l u in
    record {
      below = λ k h. rw (word k h) (o.below k h);
      ascending = record { next = λ k h. rw (named k (omega arith), named (suc k) h) (o.ascending.next k h) };
    }
  where
    word : (k : ℕ) → k < n → order_word ss k ≡ get_or (order_of n l) k 0
    word k h = let z : 0 + k ≡ k = omega arith in sym (rw z at (order_at n 0 ss k h)) ∙ ap (λ (q : List ℕ). get_or q k 0) eo

    named : (k : ℕ) → k < n → part t (struct_word ss (order_word ss k)) ≡ get_or l (get_or (order_of n l) k 0) []
    named k h =
        let j = get_or (order_of n l) k 0 in let z : 0 + j ≡ j = omega arith in
        let b : j < n = (in_order n l u).below k h in
        rw (word k h) (sym (rw z at (struct_at n 0 ss t j b)) ∙ ap (λ (q : List (List ℕ)). get_or q j []) en)

-- one name more, put at its place: the store that loading lays then
pub laid_more : (s₀ : List ℕ) (o : ℕ) (l : List (List ℕ)) (x ss t : List ℕ) (at w : ℕ) (ss' : List ℕ) → ss ≡ written s₀ 0 (structs_laid o l (order_of (length l) l))
    → structs_from (length l) 0 ss t ≡ l → orders_from (length l) 0 ss ≡ order_of (length l) l → Unlike (suc (length l)) (l ++ (x ∷ []))
    → Edge (length l) (name_in_order ss t) x at → w ≡ pack (o + length (joined (λ n. n) l)) (length x) → ss' ≡ struct_put (length l) at w ss
    → ss' ≡ written s₀ 0 (structs_laid o (l ++ (x ∷ [])) (order_of (suc (length l)) (l ++ (x ∷ []))))
unfolding order_of
laid_more s₀ o l x ss t at w ss' es en eo u e ew e' =
    let n = length l in
    let m : n ≤ n = omega arith in
    let v : Unlike n l = unlike_less n l (x ∷ []) m (record { unlike = λ i j a b. u.unlike i j a (omega arith) }) in
    let std = standing_of n ss t l en eo v in
    let spot = edge_spot n (name_in_order ss t) std.ascending x at e in
    let js = put_in (l ++ (x ∷ [])) n (order_of n l) in
    let a : struct_put n at w ss ≡ put_orders 0 js (set ss (2 * n) w) = put_named n ss t std x at spot w ∙ rw (en, eo) in
    let z : 2 * 0 ≡ 0 = omega arith in let y : 0 + n ≡ n = omega arith in
    let k = length_put_in (l ++ (x ∷ [])) n (order_of n l) in let q = length_order n l in
    let b = laid_step l x (order_of n l) js 0 o s₀ q (omega arith) in
    let d : put_orders 0 js (set ss (2 * n) w) ≡ written s₀ 0 (structs_laid o (l ++ (x ∷ [])) js) = rw (es, ew) (rw (y, z) at b) in
    e' ∙ a ∙ d ∙ rw (order_front n l (x ∷ []) v m)
