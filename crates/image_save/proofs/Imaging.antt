-- The writing of runs, functions and the whole image.
use mathlib.Core.Path.{◌≡◌, refl, sym, ap, subst, ◌∙◌}
use mathlib.Core.List.{List, [], ◌∷◌, ◌++◌, append_assoc}
use Prim.Native.Nat.{ℕ, zero, suc, ◌+◌, ◌-◌, ◌<◌, ◌≤◌, ◌^◌}
use native.Mathlib.Omega.{arith}
use lib.Dec.{eqb}
use lib.ListN.{length, take, drop, get_or, replicate, length-drop}
use lib.Seq.{get_or-drop, drop-drop}
use Rattle.model.specs.Numbers.{digits}
use Rattle.model.specs.Values.{kind_at, payload_at, text_at}
use Rattle.model.specs.Images.{joined, text_image, Run, run, join_run, runs_of, run_image, function_image}
use Rattle.model.specs.Stores.{start, size, part, name_word, code_word}
use Rattle.image_save.specs.Puts.{Put, Near, TextPuts, SameRun, RunsPut, function_here, FunctionPuts}
use Rattle.layout.proofs.Bools.{either_way}
use Rattle.laws_images.proofs.Places.{joins}
use Rattle.laws_images.proofs.Held.{same_cons}
use Rattle.image_save.proofs.Putting.{put_as, put_then, Split, front, back, both, Putting, putting_start, putting_near, putting_step, putting_end}

-- ---- runs

same_front : (k p : ℕ) (l : List ℕ) (m : ℕ) → k ≤ m → k ≤ length l → ((j : ℕ) → j < k → get_or l j 0 ≡ p) → take m l ≡ replicate k p ++ take (m - k) (drop k l)
same_front zero p l m a b h = let z : m - 0 ≡ m = omega arith in rw z
same_front (suc k) p [] m a b h = absurd (let w : ⊥ = omega arith in w)
same_front (suc k) p (x ∷ l) zero a b h = absurd (let w : ⊥ = omega arith in w)
same_front (suc k) p (x ∷ l) (suc m) a b h =
    let e : x ≡ p = h 0 (omega arith) in
    let z : suc m - suc k ≡ m - k = omega arith in
    rw z (same_cons e (same_front k p l m (omega arith) (omega arith) (λ j q. h (suc j) (omega arith))))

head_place : (q : ℕ) (l : List Run) (r : Run) (m : List Run) → join_run q l ≡ r ∷ m → r.place ≡ q
unfolding join_run
head_place q [] r m e = let z : run 1 q ≡ r = cc in sym (ap (λ (x : Run). x.place) z)
head_place q (x ∷ l) r m e = either_way (eqb q x.place)
    (λ t. let g : run (suc x.bytes) q ∷ l ≡ r ∷ m = rw t at e in let z : run (suc x.bytes) q ≡ r = cc in sym (ap (λ (x : Run). x.place) z))
    (λ t. let g : run 1 q ∷ x ∷ l ≡ r ∷ m = rw t at e in let z : run 1 q ≡ r = cc in sym (ap (λ (x : Run). x.place) z))

other_head : (p : ℕ) (ps : List ℕ) → ((q : ℕ) (qs : List ℕ) → ps ≡ q ∷ qs → q ≡ p → ⊥) → (r : Run) (m : List Run) → runs_of ps ≡ r ∷ m → p ≡ r.place → ⊥
unfolding runs_of
other_head p [] d r m e f = let z : ◌≡◌ {A = ℕ} 0 1 = cc in omega arith
other_head p (q ∷ qs) d r m e f = d q qs refl (sym (f ∙ head_place q (runs_of qs) r m e))

-- a run in front of places that begin otherwise
run_front : (k p : ℕ) (ps : List ℕ) → 0 < k → ((q : ℕ) (qs : List ℕ) → ps ≡ q ∷ qs → q ≡ p → ⊥) → runs_of (replicate k p ++ ps) ≡ run k p ∷ runs_of ps
run_front zero p ps l d = absurd (let w : ⊥ = omega arith in w)
run_front (suc k) p ps l d = joins k p ps (runs_of ps) refl (other_head p ps d)

-- the image of the runs from j on
unfoldable pub runs_from : List ℕ → ℕ → ℕ → List ℕ
runs_from pl j to = joined run_image (runs_of (text_at pl j (to - j)))

front_of : (l : List ℕ) (m q : ℕ) (qs : List ℕ) → take m l ≡ q ∷ qs → (0 < m) × (get_or l 0 0 ≡ q)
front_of l zero q qs e = absurd (let z : ◌≡◌ {A = ℕ} 0 1 = cc in let w : ⊥ = omega arith in w)
front_of [] (suc m) q qs e = absurd (let z : ◌≡◌ {A = ℕ} 0 1 = cc in let w : ⊥ = omega arith in w)
front_of (x ∷ l) (suc m) q qs e = (omega arith, cc)

-- the runs from j on: the first, and the others
runs_split : (pl : List ℕ) (j to k : ℕ) → to ≤ length pl → SameRun pl j to k
    → runs_from pl j to ≡ digits k ++ (digits (get_or pl j 0) ++ runs_from pl (j + k) to)
unfolding runs_from text_at joined run_image
runs_split pl j to k h s =
    let a = s.most in let b = s.some in let ld = length-drop j pl in
    let e1 : take (to - j) (drop j pl) ≡ replicate k (get_or pl j 0) ++ take (to - j - k) (drop k (drop j pl)) =
    same_front k (get_or pl j 0) (drop j pl) (to - j) (omega arith) (omega arith) (λ i l. get_or-drop j pl i 0 ∙ s.same i l) in
    let z : to - j - k ≡ to - (j + k) = omega arith in
    let e2 : take (to - j) (drop j pl) ≡ replicate k (get_or pl j 0) ++ take (to - (j + k)) (drop (j + k) pl) =
    e1 ∙ ap (λ (n : ℕ). replicate k (get_or pl j 0) ++ take n (drop k (drop j pl))) z ∙ ap (λ (x : List ℕ). replicate k (get_or pl j 0) ++ take (to - (j + k)) x) (drop-drop k j pl) in
    let d : (q : ℕ) (qs : List ℕ) → take (to - (j + k)) (drop (j + k) pl) ≡ q ∷ qs → q ≡ get_or pl j 0 → ⊥ =
    λ q qs e f. let g = front_of (drop (j + k) pl) (to - (j + k)) q qs e in let g0 = g.0 in
    s.last (omega arith) ((let w : j + k + 0 ≡ j + k = omega arith in ap (λ (n : ℕ). get_or pl n 0) (sym w)) ∙ sym (get_or-drop (j + k) pl 0 0) ∙ g.1 ∙ f) in
    ap (λ (x : List ℕ). joined run_image (runs_of x)) e2 ∙ ap (joined run_image) (run_front k (get_or pl j 0) (take (to - (j + k)) (drop (j + k) pl)) b d)
    ∙ append_assoc (digits k) (digits (get_or pl j 0)) (joined run_image (runs_of (take (to - (j + k)) (drop (j + k) pl))))

pub record PuttingRuns (at₀ : ℕ) (pl : List ℕ) (from to : ℕ) (out₀ out : List ℕ) (at j : ℕ) : Type 0 where
  pub ahead : from ≤ j
  pub most : j ≤ to
  pub putting : Putting (joined run_image (runs_of (text_at pl from (to - from)))) out₀ at₀ out at (runs_from pl j to)

module _ (at₀ : ℕ) (pl : List ℕ) (from to : ℕ) (h : RunsPut at₀ pl from to) (out₀ : List ℕ) where
  pub runs_start : PuttingRuns at₀ pl from to out₀ out₀ at₀ from
  unfolding runs_from
  runs_start = record { ahead = omega arith; most = h.order; putting = putting_start _ out₀ at₀ }

  module _ (out : List ℕ) (at j : ℕ) (p : PuttingRuns at₀ pl from to out₀ out at j) where
    pub runs_kept : length out ≡ length out₀
    runs_kept = p.putting.put.kept

    pub runs_end : to ≤ j → Put (joined run_image (runs_of (text_at pl from (to - from)))) out₀ at₀ out at
    unfolding runs_from text_at joined runs_of
    runs_end l = let z : to - j ≡ 0 = omega arith in putting_end _ out₀ at₀ out at _ p.putting (ap (λ (n : ℕ). joined run_image (runs_of (take n (drop j pl)))) z)

    module _ (l : j < to) where
      pub runs_ask : (j < to) × (to ≤ length pl)
      runs_ask = (l, h.inside)

      module _ (k : ℕ) (s : SameRun pl j to k) where
        pub runs_small : k < 2 ^ 32
        runs_small = let a = s.most in let b = h.small in let c = p.ahead in omega arith

        pub runs_less : (j + k ≤ to) × (j < j + k)
        runs_less = let a = s.some in (s.most, omega arith)

        one : Split (runs_from pl j to) (digits k) (digits (get_or pl j 0) ++ runs_from pl (j + k) to)
        one = record { split = runs_split pl j to k h.inside s }

        near : Near at (runs_from pl j to)
        near = putting_near _ out₀ at₀ out at _ p.putting h.near

        pub run_near : Near at (digits k)
        run_near = front _ _ _ at one near

        module _ (out₁ : List ℕ) (mid : ℕ) (q : Put (digits k) out at out₁ mid) where
          two : Split (digits (get_or pl j 0) ++ runs_from pl (j + k) to) (digits (get_or pl j 0)) (runs_from pl (j + k) to)
          two = record { split = refl }

          pub place_near : Near mid (digits (get_or pl j 0))
          place_near = front _ _ _ mid two (back _ _ _ at one near out out₁ mid q)

          pub runs_next : (out₂ : List ℕ) (next : ℕ) → Put (digits (get_or pl j 0)) out₁ mid out₂ next → PuttingRuns at₀ pl from to out₀ out₂ next (j + k)
          runs_next out₂ next r = let a = p.ahead in let b = s.most in record {
            ahead = omega arith;
            most = b;
            putting = putting_step _ out₀ at₀ out at _ p.putting (digits k ++ digits (get_or pl j 0)) (runs_from pl (j + k) to)
                (one.split ∙ sym (append_assoc (digits k) (digits (get_or pl j 0)) (runs_from pl (j + k) to))) out₂ next
                (put_then (digits k) (digits (get_or pl j 0)) out out₁ out₂ at mid next q r);
          }

-- ---- a function

module _ (at : ℕ) (fs : List ℕ) (i : ℕ) (t cd pl : List ℕ) (h : FunctionPuts at fs i t cd pl) where
  runs : List ℕ
  runs = joined run_image (runs_of (part pl (code_word fs i)))

  split_1 : Split (function_image (function_here fs i t cd pl)) (text_image (part t (name_word fs i))) (digits (length (part cd (code_word fs i))) ++ (part cd (code_word fs i) ++ runs))
  unfolding function_image function_here runs
  split_1 = record {
    split = append_assoc (text_image (part t (name_word fs i)) ++ digits (length (part cd (code_word fs i)))) (part cd (code_word fs i)) runs
        ∙ append_assoc (text_image (part t (name_word fs i))) (digits (length (part cd (code_word fs i)))) (part cd (code_word fs i) ++ runs);
  }

  split_2 : Split (digits (length (part cd (code_word fs i))) ++ (part cd (code_word fs i) ++ runs)) (digits (length (part cd (code_word fs i)))) (part cd (code_word fs i) ++ runs)
  split_2 = record { split = refl }

  split_3 : Split (part cd (code_word fs i) ++ runs) (part cd (code_word fs i)) runs
  split_3 = record { split = refl }

  module _ (nw cw : ℕ) (kn : nw ≡ kind_at fs i) (kc : cw ≡ payload_at fs i) (nm : List ℕ) (e1 : nm ≡ part t nw) where
    en : nw ≡ name_word fs i
    unfolding name_word
    en = kn

    ec : cw ≡ code_word fs i
    unfolding code_word
    ec = kc

    name_is : nm ≡ part t (name_word fs i)
    name_is = e1 ∙ ap (part t) en

    pub name_puts : TextPuts at nm
    name_puts = subst (TextPuts at) (sym name_is) (record { small = h.lies.name; near = front _ _ _ at split_1 h.near })

    module _ (out out₁ : List ℕ) (m1 : ℕ) (p1 : Put (text_image nm) out at out₁ m1) (bytes : List ℕ) (e2 : bytes ≡ part cd cw) where
      q1 : Put (text_image (part t (name_word fs i))) out at out₁ m1
      q1 = put_as _ _ out out₁ at m1 (ap text_image name_is) p1

      bytes_are : bytes ≡ part cd (code_word fs i)
      bytes_are = e2 ∙ ap (part cd) ec

      pub code_small : length bytes < 2 ^ 32
      code_small = subst (λ (x : List ℕ). length x < 2 ^ 32) (sym bytes_are) h.lies.code

      pub size_near : Near m1 (digits (length bytes))
      size_near = subst (λ (x : List ℕ). Near m1 (digits (length x))) (sym bytes_are) (front _ _ _ m1 split_2 (back _ _ _ at split_1 h.near out out₁ m1 q1))

      module _ (out₂ : List ℕ) (m2 : ℕ) (p2 : Put (digits (length bytes)) out₁ m1 out₂ m2) where
        q2 : Put (digits (length (part cd (code_word fs i)))) out₁ m1 out₂ m2
        q2 = put_as _ _ out₁ out₂ m1 m2 (ap (λ (x : List ℕ). digits (length x)) bytes_are) p2

        near_3 : Near m2 (part cd (code_word fs i) ++ runs)
        near_3 = back _ _ _ m1 split_2 (back _ _ _ at split_1 h.near out out₁ m1 q1) out₁ out₂ m2 q2

        pub code_near : Near m2 bytes
        code_near = subst (Near m2) (sym bytes_are) (front _ _ _ m2 split_3 near_3)

        module _ (out₃ : List ℕ) (m3 : ℕ) (p3 : Put bytes out₂ m2 out₃ m3) (from sz : ℕ) (ef : from ≡ start cw) (es : (sz ≡ size cw) × (sz < 2 ^ 32)) where
          q3 : Put (part cd (code_word fs i)) out₂ m2 out₃ m3
          q3 = put_as _ _ out₂ out₃ m2 m3 bytes_are p3

          runs_are : joined run_image (runs_of (text_at pl from (from + sz - from))) ≡ runs
          unfolding runs part
          runs_are = let z : from + sz - from ≡ sz = omega arith in
              ap (λ (n : ℕ). joined run_image (runs_of (text_at pl from n))) (z ∙ es.0 ∙ ap size ec) ∙ ap (λ (n : ℕ). joined run_image (runs_of (text_at pl n (size (code_word fs i))))) (ef ∙ ap start ec)

          pub runs_put : RunsPut m3 pl from (from + sz)
          runs_put =
              let a = h.lies.places in let b = ef ∙ ap start ec in let c = es.0 ∙ ap size ec in let d = es.1 in
              record { order = omega arith; inside = omega arith; small = omega arith; near = subst (Near m3) (sym runs_are) (back _ _ _ m2 split_3 near_3 out₂ out₃ m3 q3) }

          pub function_put : (out₄ : List ℕ) (m4 : ℕ) → Put (joined run_image (runs_of (text_at pl from (from + sz - from)))) out₃ m3 out₄ m4
              → Put (function_image (function_here fs i t cd pl)) out at out₄ m4
          function_put out₄ m4 p4 =
              both _ _ _ at split_1 h.near out out₁ m1 q1 out₄ m4
              (both _ _ _ m1 split_2 (back _ _ _ at split_1 h.near out out₁ m1 q1) out₁ out₂ m2 q2 out₄ m4
              (both _ _ _ m2 split_3 near_3 out₂ out₃ m3 q3 out₄ m4 (put_as _ _ out₃ out₄ m3 m4 runs_are p4)))
