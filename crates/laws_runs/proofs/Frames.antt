-- Good order of frames: as a slice has them, the root first, and as a machine has them, the innermost and then its callers: from each to the other.
use mathlib.Core.Path.{◌≡◌, sym}
use mathlib.Core.Bool.{true, false, ◌&&◌, true≢false}
use mathlib.Core.List.{List, [], ◌∷◌, ◌++◌, reverse, reverse_aux}
use Prim.Native.Nat.{ℕ, zero, suc, ◌-◌, ◌≤◌, min}
use native.Mathlib.Omega.{arith}
use borrow.Author.Tests.{ltb-true, leb-true, eqb-true, lt-ltb, le-leb, eq-eqb}
use lib.Dec.{ltb, leb, eqb}
use lib.ListN.{length, take, length-take, length-reverse}
use lib.Seq.{take-suc}
use Rattle.model.specs.declared.Frame.{Frame}
use Rattle.model.specs.Values.{most_places}
use Rattle.model.specs.Programs.{Function, function_at}
use Rattle.model.specs.Steps.{World}
use Rattle.model.specs.Runs.{root}
use Rattle.model.specs.Orders.{frame_ok, caller_ok, frames_from, frames_ok, frame_store_ok}
use Rattle.model.specs.Machines.{frame_room, innermost, callers_in}
use Rattle.value.proofs.Coding.{and_left, and_right}
use Rattle.laws_runs.specs.Sane.{FrameFits, CallerFits, CallersFit, Rooted, Rising}

-- ---- the root stays last

rooted_of : (f : Frame) (cs : List Frame) (q : Frame) (acc : List Frame) → Rooted q acc → Rooted f (reverse_aux cs (q ∷ acc))
unfolding Rooted
rooted_of f [] q acc r = r
rooted_of f (c ∷ cs) q acc r = rooted_of f cs c (q ∷ acc) r

rooted_to : (f : Frame) (cs : List Frame) (q : Frame) (acc : List Frame) → Rooted f (reverse_aux cs (q ∷ acc)) → Rooted q acc
unfolding Rooted
rooted_to f [] q acc r = r
rooted_to f (c ∷ cs) q acc r = rooted_to f cs c (q ∷ acc) r

-- what good order says of a machine's frames
pub record FramesFit (w : World) (f : Frame) (cs : List Frame) : Type 0 where
  pub frame : FrameFits w f
  pub callers : CallersFit w cs
  pub root : Rooted f cs
  pub rising : Rising f.entered cs

pub some_frame : (gs : List Function) (room n : ℕ) (fs : List Frame) → frame_store_ok gs room n fs ≡ true → 1 ≤ n
unfolding frame_store_ok frames_ok
some_frame gs room zero fs e = absurd (true≢false (sym (and_right (leb 0 (min (length fs) most_places)) false e)))
some_frame gs room (suc n) fs e = omega arith

module _ (w : World) where
  -- ---- one frame

  frame_of_lem : (f : Frame) → frame_ok w.functions w.stack_room f ≡ true → FrameFits w f
  unfolding frame_ok
  frame_of_lem f e =
      let known = ltb f.function (length w.functions) in
      let base = leb f.base w.stack_room in
      let short = leb f.position 131070 in
      let d = and_left (known && base) short e in
      record { known = ltb-true _ _ (and_left known base d); base = leb-true _ _ (and_right known base d); position = leb-true _ _ (and_right (known && base) short e) }

  frame_to : (f : Frame) → FrameFits w f → frame_ok w.functions w.stack_room f ≡ true
  unfolding frame_ok
  frame_to f h = rw (lt-ltb _ _ h.known, le-leb _ _ h.base, le-leb _ _ h.position)

  caller_of : (f : Frame) → FrameFits w f → caller_ok w.functions f ≡ true → CallerFits w f
  unfolding caller_ok
  caller_of f h e =
      let from = leb 1 f.position in
      let to = leb f.position (length (function_at w.functions f.function).code) in
      record { frame = h; from = leb-true _ _ (and_left from to e); to = leb-true _ _ (and_right from to e) }

  caller_to : (f : Frame) → CallerFits w f → caller_ok w.functions f ≡ true
  unfolding caller_ok
  caller_to f h = rw (le-leb _ _ h.from, le-leb _ _ h.to)

  -- ---- the frames from c on, the innermost f last; acc are the callers of c

  from_of : (c : Frame) (cs : List Frame) (f : Frame) (acc : List Frame) → frames_from w.functions w.stack_room c (cs ++ f ∷ []) ≡ true → CallersFit w acc
      → CallersFit w (reverse_aux cs (c ∷ acc)) × FrameFits w f
  unfolding frames_from CallersFit
  from_of c [] f acc e a =
      let x = frame_ok w.functions w.stack_room c in
      let y = caller_ok w.functions c in
      let r = leb c.entered f.entered in
      let z = frame_ok w.functions w.stack_room f in
      let d = and_left (x && y) r (and_left (x && y && r) z e) in
      ((caller_of c (frame_of_lem c (and_left x y d)) (and_right x y d), a), frame_of_lem f (and_right (x && y && r) z e))
  from_of c (q ∷ cs) f acc e a =
      let x = frame_ok w.functions w.stack_room c in
      let y = caller_ok w.functions c in
      let r = leb c.entered q.entered in
      let z = frames_from w.functions w.stack_room q (cs ++ f ∷ []) in
      let d = and_left (x && y) r (and_left (x && y && r) z e) in
      from_of q cs f (c ∷ acc) (and_right (x && y && r) z e) (caller_of c (frame_of_lem c (and_left x y d)) (and_right x y d), a)

  -- and when they were entered
  rising_of : (c : Frame) (cs : List Frame) (f : Frame) (acc : List Frame) → frames_from w.functions w.stack_room c (cs ++ f ∷ []) ≡ true → Rising c.entered acc
      → Rising f.entered (reverse_aux cs (c ∷ acc))
  unfolding frames_from Rising
  rising_of c [] f acc e a =
      let x = frame_ok w.functions w.stack_room c && caller_ok w.functions c in
      let r = leb c.entered f.entered in
      (leb-true _ _ (and_right x r (and_left (x && r) (frame_ok w.functions w.stack_room f) e)), a)
  rising_of c (q ∷ cs) f acc e a =
      let x = frame_ok w.functions w.stack_room c && caller_ok w.functions c in
      let r = leb c.entered q.entered in
      let z = frames_from w.functions w.stack_room q (cs ++ f ∷ []) in
      rising_of q cs f (c ∷ acc) (and_right (x && r) z e) (leb-true _ _ (and_right x r (and_left (x && r) z e)), a)

  turned_rising : (most : ℕ) (cs : List Frame) (q : Frame) (acc : List Frame) → Rising most (reverse_aux cs (q ∷ acc)) → Rising q.entered acc
  unfolding Rising
  turned_rising most [] q acc r = r.1
  turned_rising most (c ∷ cs) q acc r = (turned_rising most cs c (q ∷ acc) r).1

  turned_rest : (cs acc : List Frame) → CallersFit w (reverse_aux cs acc) → CallersFit w acc
  unfolding CallersFit
  turned_rest [] acc h = h
  turned_rest (q ∷ cs) acc h = (turned_rest cs (q ∷ acc) h).1

  from_to : (c : Frame) (cs : List Frame) (f : Frame) (acc : List Frame) → CallersFit w (reverse_aux cs (c ∷ acc)) → FrameFits w f
      → Rising f.entered (reverse_aux cs (c ∷ acc)) → frames_from w.functions w.stack_room c (cs ++ f ∷ []) ≡ true
  unfolding frames_from CallersFit Rising
  from_to c [] f acc h g r = let k = h.0 in rw (frame_to c k.frame, caller_to c k, le-leb _ _ r.0, frame_to f g)
  from_to c (q ∷ cs) f acc h g r =
      let k = (turned_rest (q ∷ cs) (c ∷ acc) h).0 in
      let l : c.entered ≤ q.entered = (turned_rising f.entered cs q (c ∷ acc) r).0 in
      rw (frame_to c k.frame, caller_to c k, le-leb _ _ l) (from_to q cs f (c ∷ acc) h g r)

  -- ---- all frames

  frames_of : (cs : List Frame) (f : Frame) → frames_ok w.functions w.stack_room (cs ++ f ∷ []) ≡ true → FramesFit w f (reverse cs)
  unfolding frames_ok frames_from Rooted CallersFit Rising
  frames_of [] f e =
      let x = eqb f.function 0 in
      let y = eqb f.base 0 in
      let z = frame_ok w.functions w.stack_room f in
      let d = and_left (x && y) z e in
      record { frame = frame_of_lem f (and_right (x && y) z e); callers = tt; root = (eqb-true _ _ (and_left x y d), eqb-true _ _ (and_right x y d)); rising = tt }
  frames_of (c ∷ cs) f e =
      let x = eqb c.function 0 in
      let y = eqb c.base 0 in
      let z = frames_from w.functions w.stack_room c (cs ++ f ∷ []) in
      let d = and_left (x && y) z e in
      let g = from_of c cs f [] (and_right (x && y) z e) tt in
      record {
        frame = g.1;
        callers = g.0;
        root = rooted_of f cs c [] (eqb-true _ _ (and_left x y d), eqb-true _ _ (and_right x y d));
        rising = rising_of c cs f [] (and_right (x && y) z e) tt;
      }

  frames_to : (cs : List Frame) (f : Frame) → FramesFit w f (reverse cs) → frames_ok w.functions w.stack_room (cs ++ f ∷ []) ≡ true
  unfolding frames_ok frames_from Rooted
  frames_to [] f h = rw (eq-eqb _ _ h.root.0, eq-eqb _ _ h.root.1) (frame_to f h.frame)
  frames_to (c ∷ cs) f h =
      let r : (c.function ≡ 0) × (c.base ≡ 0) = rooted_to f cs c [] h.root in
      rw (eq-eqb _ _ r.0, eq-eqb _ _ r.1) (from_to c cs f [] h.callers h.frame h.rising)

  -- ---- in a slice

  split_frames : (n : ℕ) (fs : List Frame) → suc n ≤ length fs → take (suc n) fs ≡ take (suc n - 1) fs ++ innermost (suc n) fs ∷ []
  unfolding innermost
  split_frames n fs h = let z : suc n - 1 ≡ n = omega arith in rw z (take-suc fs n (root 0) h)

  pub frames_counted : (n : ℕ) (fs : List Frame) → frame_store_ok w.functions w.stack_room n fs ≡ true → suc (length (callers_in n fs)) ≤ frame_room fs
  unfolding frame_store_ok callers_in frame_room
  frames_counted zero fs e = absurd (let z : ⊥ = omega (arith, some_frame w.functions w.stack_room 0 fs e) in z)
  frames_counted (suc n) fs e =
      let z : suc n ≤ min (length fs) most_places = leb-true _ _ (and_left (leb (suc n) (min (length fs) most_places)) (frames_ok w.functions w.stack_room (take (suc n) fs)) e) in
      simp (length-reverse, length-take) (omega arith)

  pub frames_in_lem : (n : ℕ) (fs : List Frame) → frame_store_ok w.functions w.stack_room n fs ≡ true → FramesFit w (innermost n fs) (callers_in n fs)
  unfolding frame_store_ok callers_in
  frames_in_lem zero fs e = absurd (let z : ⊥ = omega (arith, some_frame w.functions w.stack_room 0 fs e) in z)
  frames_in_lem (suc n) fs e =
      let x = leb (suc n) (min (length fs) most_places) in
      let y = frames_ok w.functions w.stack_room (take (suc n) fs) in
      let z : suc n ≤ min (length fs) most_places = leb-true _ _ (and_left x y e) in
      frames_of (take (suc n - 1) fs) (innermost (suc n) fs) (rw (split_frames n fs (omega arith)) at (and_right x y e))

  pub frames_back : (n : ℕ) (fs : List Frame) → 1 ≤ n → suc (length (callers_in n fs)) ≤ frame_room fs → FramesFit w (innermost n fs) (callers_in n fs)
      → frame_store_ok w.functions w.stack_room n fs ≡ true
  unfolding frame_store_ok callers_in frame_room
  frames_back zero fs l r h = absurd (let z : ⊥ = omega arith in z)
  frames_back (suc n) fs l r h =
      let z : suc n ≤ min (length fs) most_places = omega (arith, simp (length-reverse, length-take) at r) in
      rw (le-leb _ _ z, split_frames n fs (omega arith)) (frames_to (take (suc n - 1) fs) (innermost (suc n) fs) h)
