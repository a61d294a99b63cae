-- Making a machine, over the slices that it is lent: what its program's part leaves, and its frame.
--     not_loaded_over .. not_loaded              loading
--     place_broken .. without_place              loading without a place for a frame
--     not_new_over .. not_new                    a new program
--     load_starts .. frame_not                   the frame
-- Assumes nothing.
use Rattle.std.specs.Prelude.{if◌then◌else◌, Err, Ok, Result}
use mathlib.Core.Path.{◌≡◌, refl, sym, ap, subst, ◌∙◌}
use mathlib.Core.Bool.{Bool, true, false, ◌&&◌}
use mathlib.Core.List.{List, [], ◌∷◌}
use Prim.Native.Nat.{ℕ, ◌<◌}
use native.Mathlib.Omega.{arith}
use lib.Dec.{leb}
use lib.ListN.{length, set}
use Rattle.model.specs.declared.Counts.{Counts}
use Rattle.model.specs.declared.Vm.{Vm}
use Rattle.model.specs.declared.Frame.{Frame}
use Rattle.model.specs.Values.{places}
use Rattle.model.specs.Programs.{Program, within_limits}
use Rattle.model.specs.Images.{Judged, fine, broken, judge}
use Rattle.model.specs.Runs.{root}
use Rattle.model.specs.Stores.{Stores}
use Rattle.model.specs.Emission.{Res, new_of}
use Rattle.model.specs.Loading.{LoadRes, laid, counts_for, room_for, load_judged, load_of}
use Rattle.model.specs.Machines.{StartRes, fresh, start_with, unless_running, load_machine_of, as_loaded, new_machine_of}
use Rattle.layout.specs.Links.{Is}
use Rattle.image_judge.specs.Links.{JudgePost}
use Rattle.image_judge.specs.declared.Sizes.{Sizes}
use Rattle.image_load.proofs.Loads.{judged_not, judged_is}
use Rattle.image_judge.specs.Links.{SizesOf, refused as broken_refused}
use Rattle.machine.specs.Links.{Makes}
use Rattle.image_judge.specs.declared.Broken.{Broken}
use Rattle.model.specs.declared.Refusal.{Refusal}
use Rattle.model.specs.declared.Refusal.TheVariants as why
use Rattle.image_judge.specs.declared.Broken.TheVariants.{At}

-- ---- what comes back, by what the program's part answers

-- a frame store without a place
none_there : (P : List Frame → Type 0) → P [] → (rs : List Frame) → length rs ≡ 0 → P rs
none_there P p [] h = p
none_there P p (r ∷ rs) h = absurd (let z : ⊥ = omega (arith, h) in z)

-- and one with a place
some_there : (P : List Frame → Type 0) → ((r : Frame) (rs : List Frame) → P (r ∷ rs)) → {n : ℕ} → (n ≡ 0 → ⊥) → (rs : List Frame) → length rs ≡ n → P rs
some_there P p f [] h = absurd (f (sym h))
some_there P p f (r ∷ rs) h = p r rs

module _ (x' x : Stores) where
  by_done : (c : Counts) {v : Vm} → v ≡ fresh c → {n : ℕ} → (n ≡ 0 → ⊥) → Makes (start_with (Ok c) x' x) n (Ok v) x'
  unfolding start_with
  by_done c {v} h some = record {
    answer = some_there (λ rs. Ok v ≡ (start_with (Ok c) x' x rs).answer) (λ r rs. ap Ok h) some;
    stores = some_there (λ rs. x' ≡ (start_with (Ok c) x' x rs).stores) (λ r rs. refl) some;
  }

  none_done : (c : Counts) → Makes (start_with (Ok c) x' x) 0 (Err why.StoreFull) x
  unfolding start_with
  none_done c = record {
    answer = none_there (λ rs. Err why.StoreFull ≡ (start_with (Ok c) x' x rs).answer) refl;
    stores = none_there (λ rs. x ≡ (start_with (Ok c) x' x rs).stores) refl;
  }

  by_refused : (e : Refusal) (n : ℕ) → Makes (start_with (Err e) x' x) n (Err e) x
  unfolding start_with
  by_refused e n = record { answer = λ rs k. refl; stores = λ rs k. refl }

-- ---- loading

abbrev loaded : Result Counts Refusal → Stores → LoadRes
loaded a y = record { answer = a; stores = y }

abbrev NotDone : Result Counts Refusal → Type 0
NotDone (Ok c) = ⊥
NotDone (Err e) = Unit {0}

-- what is refused is not written
kept_by : (a b : Bool) (c : Counts) (y x : Stores) {r : Result Counts Refusal} {x' : Stores} → NotDone r
    → loaded r x' ≡ (if a then (if b then loaded (Ok c) y else loaded (Err why.StoreFull) x) else loaded (Err why.OverLimit) x) → x' ≡ x
kept_by true true c y x f h = absurd (subst NotDone (ap (λ (w : LoadRes). w.answer) h) f)
kept_by true false c y x f h = ap (λ (w : LoadRes). w.stores) h
kept_by false b c y x f h = ap (λ (w : LoadRes). w.stores) h

kept : (d : Judged) (x : Stores) {r : Result Counts Refusal} {x' : Stores} → NotDone r → loaded r x' ≡ load_judged d x → x' ≡ x
unfolding load_judged
kept (broken i) x f h = ap (λ (w : LoadRes). w.stores) h
kept (fine p) x f h = kept_by (within_limits p) (room_for p x) _ _ x f h

module _ (image : List ℕ) (x : Stores) where
  by_load : {n : ℕ} {r : Result Vm Refusal} {y : Stores} (w : LoadRes) → w ≡ load_of image x → Makes (start_with w.answer w.stores x) n r y → Makes (load_machine_of false image x) n r y
  unfolding load_machine_of unless_running
  by_load {n} {r} {y} w h m = subst (λ (u : LoadRes). Makes (start_with u.answer u.stores x) n r y) h m

  -- a run is under way
  pub not_loaded_over : {running : Bool} → running ≡ true → {n : ℕ} → Makes (load_machine_of running image x) n (Err why.RunUnderWay) x
  unfolding load_machine_of unless_running
  not_loaded_over on = rw on (record { answer = λ rs k. refl; stores = λ rs k. refl })

  module _ {running : Bool} (off : running ≡ false) {r : Result Counts Refusal} {x' : Stores} (h : loaded r x' ≡ load_of image x) {n : ℕ} where
    pub made_loaded : (c : Counts) → r ≡ Ok c → (n ≡ 0 → ⊥) → {v : Vm} → v ≡ fresh c → Makes (load_machine_of running image x) n (Ok v) x'
    made_loaded c q some e = rw off (by_load (loaded (Ok c) x') (ap (λ (a : Result Counts Refusal). loaded a x') (sym q) ∙ h) (by_done x' x c e some))

    pub not_loaded : (i : Refusal) → r ≡ Err i → Makes (load_machine_of running image x) n (Err i) x'
    unfolding load_of
    not_loaded i q =
        let g : loaded (Err i) x' ≡ load_of image x = ap (λ (a : Result Counts Refusal). loaded a x') (sym q) ∙ h in
        rw off (by_load (loaded (Err i) x') g (subst (λ (y : Stores). Makes (start_with (Err i) x' x) n (Err i) y) (sym (kept (judge image) x tt g)) (by_refused x' x i n)))

-- without a place for a frame

module _ (image : List ℕ) (x : Stores) (r : Result Sizes Broken) (h : JudgePost image r) where
  pub place_broken : (b : Broken) → r ≡ Err b → Makes (load_machine_of false image x) 0 (Err (broken_refused b)) x
  unfolding load_of load_judged
  place_broken (At o) q = by_load image x (loaded (Err (why.BrokenImage o)) x) (rw (judged_not image r h o q)) (by_refused x x (why.BrokenImage o) 0)

  module _ (z : Sizes) (q : r ≡ Ok z) {w : Bool} (l : (p : Program) → SizesOf p z → w ≡ within_limits p) where
    pub place_over : w ≡ false → Makes (load_machine_of false image x) 0 (Err why.OverLimit) x
    unfolding load_of load_judged
    place_over e = let g = judged_is image r h z q in by_load image x (loaded (Err why.OverLimit) x) (rw (g.judged, sym (l g.program g.sizes) ∙ e)) (by_refused x x why.OverLimit 0)

    pub place_full : w ≡ true → Makes (load_machine_of false image x) 0 (Err why.StoreFull) x
    unfolding load_of load_judged
    place_full e = let g = judged_is image r h z q in on (room_for g.program x) refl
      where
        on : (b : Bool) → room_for (judged_is image r h z q).program x ≡ b → Makes (load_machine_of false image x) 0 (Err why.StoreFull) x
        on true f = let g = judged_is image r h z q in by_load image x (loaded (Ok (counts_for g.program)) (laid g.program x))
            (rw (g.judged, sym (l g.program g.sizes) ∙ e, f)) (none_done (laid g.program x) x (counts_for g.program))
        on false f = let g = judged_is image r h z q in by_load image x (loaded (Err why.StoreFull) x) (rw (g.judged, sym (l g.program g.sizes) ∙ e, f)) (by_refused x x why.StoreFull 0)

pub without_place : (image : List ℕ) (x : Stores) {running : Bool} → running ≡ false → {n : ℕ} → n ≡ 0 → {r : Result Vm Refusal} {y : Stores}
    → Makes (load_machine_of false image x) 0 r y → Makes (load_machine_of running image x) n r y
without_place image x off e m = rw (off, e) m

-- ---- a new program

abbrev emitted : Result (Counts × ℕ) Refusal → Stores → Res
emitted a y = record { answer = a; stores = y }

module _ (x : Stores) where
  by_new : {n : ℕ} {r : Result Vm Refusal} {y : Stores} (w : Res) → w ≡ new_of x → Makes (start_with (as_loaded w.answer) w.stores x) n r y → Makes (new_machine_of false x) n r y
  unfolding new_machine_of unless_running
  by_new {n} {r} {y} w h m = subst (λ (u : Res). Makes (start_with (as_loaded u.answer) u.stores x) n r y) h m

  new_by : (b : Bool) (c : Counts) (k : ℕ) (y : Stores) → (if b then emitted (Ok (c, k)) y else emitted (Err why.StoreFull) x) ≡ new_of x → Makes (new_machine_of false x) 0 (Err why.StoreFull) x
  unfolding as_loaded
  new_by true c k y h = by_new (emitted (Ok (c, k)) y) h (none_done y x c)
  new_by false c k y h = by_new (emitted (Err why.StoreFull) x) h (by_refused x x why.StoreFull 0)

  -- a run is under way
  pub not_new_over : {running : Bool} → running ≡ true → {n : ℕ} → Makes (new_machine_of running x) n (Err why.RunUnderWay) x
  unfolding new_machine_of unless_running
  not_new_over on = rw on (record { answer = λ rs k. refl; stores = λ rs k. refl })

  pub none_new : {running : Bool} → running ≡ false → {n : ℕ} → n ≡ 0 → Makes (new_machine_of running x) n (Err why.StoreFull) x
  unfolding new_of
  none_new off z = rw (off, z) (new_by (leb 6 (places 1 x.text) && leb 1 (places 2 x.functions)) _ _ _ refl)

  kept_new : (b : Bool) (c : Counts) (k : ℕ) (y : Stores) {i : Refusal} {x' : Stores} → emitted (Err i) x' ≡ (if b then emitted (Ok (c, k)) y else emitted (Err why.StoreFull) x) → x' ≡ x
  unfolding as_loaded
  kept_new true c k y h = absurd (subst NotDone (ap (λ (w : Res). as_loaded w.answer) h) tt)
  kept_new false c k y h = ap (λ (w : Res). w.stores) h

  module _ {running : Bool} (off : running ≡ false) {r : Result (Counts × ℕ) Refusal} {x' : Stores} (h : Is (new_of x) r x') {n : ℕ} where
    pub made_new : (c : Counts) (k : ℕ) → r ≡ Ok (c, k) → (n ≡ 0 → ⊥) → {v : Vm} → v ≡ fresh c → Makes (new_machine_of running x) n (Ok v) x'
    unfolding as_loaded
    made_new c k q some f = rw off (by_new (emitted (Ok (c, k)) x') (ap (λ (a : Result (Counts × ℕ) Refusal). emitted a x') (sym q) ∙ h.means) (by_done x' x c f some))

    pub not_new : (i : Refusal) → r ≡ Err i → Makes (new_machine_of running x) n (Err i) x'
    unfolding as_loaded new_of
    not_new i q =
        let g : emitted (Err i) x' ≡ new_of x = ap (λ (a : Result (Counts × ℕ) Refusal). emitted a x') (sym q) ∙ h.means in
        rw off (by_new (emitted (Err i) x') g (subst (λ (y : Stores). Makes (start_with (Err i) x' x) n (Err i) y)
        (sym (kept_new (leb 6 (places 1 x.text) && leb 1 (places 2 x.functions)) _ _ _ g)) (by_refused x' x i n)))

-- ---- the frame

laid_by : (running : Bool) (w : Result Counts Refusal) (s' s : Stores) (rs : List Frame) {m : Vm} → (unless_running running s rs (start_with w s' s rs)).answer ≡ Ok m
    → (0 < length rs) × (set rs 0 (root 0) ≡ (unless_running running s rs (start_with w s' s rs)).frames)
unfolding start_with unless_running
laid_by true w s' s rs d = absurd (let z : ◌≡◌ {A = ℕ} 0 1 = cc in let y : ⊥ = omega arith in y)
laid_by false (Ok c) s' s [] d = absurd (let z : ◌≡◌ {A = ℕ} 0 1 = cc in let y : ⊥ = omega arith in y)
laid_by false (Ok c) s' s (r ∷ rs) d = (omega arith, refl)
laid_by false (Err e) s' s rs d = absurd (let z : ◌≡◌ {A = ℕ} 0 1 = cc in let y : ⊥ = omega arith in y)

not_laid : (running : Bool) (w : Result Counts Refusal) (s' s : Stores) (rs : List Frame) {e : Refusal} → (unless_running running s rs (start_with w s' s rs)).answer ≡ Err e
    → rs ≡ (unless_running running s rs (start_with w s' s rs)).frames
unfolding start_with unless_running
not_laid true w s' s rs d = refl
not_laid false (Ok c) s' s [] d = refl
not_laid false (Ok c) s' s (r ∷ rs) d = absurd (let z : ◌≡◌ {A = ℕ} 0 1 = cc in let y : ⊥ = omega arith in y)
not_laid false (Err e) s' s rs d = refl

-- a machine's making whose frames w says, with the answer r and the stores y
pub record Starts (w : StartRes) (rs : List Frame) (r : Result Vm Refusal) (y : Stores) : Type 0 where
  pub answer : r ≡ w.answer
  pub stores : y ≡ w.stores
  pub laid : {m : Vm} → w.answer ≡ Ok m → (0 < length rs) × (set rs 0 (root 0) ≡ w.frames)
  pub kept : {e : Refusal} → w.answer ≡ Err e → rs ≡ w.frames

module _ (running : Bool) where
  pub load_starts : (image : List ℕ) (x : Stores) (rs : List Frame) {r : Result Vm Refusal} {y : Stores} → Makes (load_machine_of running image x) (length rs) r y
      → Starts (load_machine_of running image x rs) rs r y
  unfolding load_machine_of
  load_starts image x rs m = record { answer = m.answer rs refl; stores = m.stores rs refl; laid = laid_by running _ _ x rs; kept = not_laid running _ _ x rs }

  pub new_starts : (x : Stores) (rs : List Frame) {r : Result Vm Refusal} {y : Stores} → Makes (new_machine_of running x) (length rs) r y → Starts (new_machine_of running x rs) rs r y
  unfolding new_machine_of
  new_starts x rs m = record { answer = m.answer rs refl; stores = m.stores rs refl; laid = laid_by running _ _ x rs; kept = not_laid running _ _ x rs }

module _ {w : StartRes} {rs : List Frame} {r : Result Vm Refusal} {y : Stores} (m : Starts w rs r y) where
  -- a machine was made: there is a place for its frame, which is laid
  module _ {v : Vm} (made : r ≡ Ok v) where
    pub place_there : 0 < length rs
    place_there = (m.laid (sym m.answer ∙ made)).0

    pub frame_laid : {fs : List Frame} → fs ≡ set rs 0 (root 0) → record { answer = Ok v; stores = y; frames = fs } ≡ w
    frame_laid f = rw (sym made ∙ m.answer, m.stores, f ∙ (m.laid (sym m.answer ∙ made)).1)

  -- none was made: the frames stay
  pub frame_not : {e : Refusal} → r ≡ Err e → record { answer = Err e; stores = y; frames = rs } ≡ w
  frame_not none = rw (sym none ∙ m.answer, m.stores, m.kept (sym m.answer ∙ none))

-- no stores at all
abbrev pub no_stores : Stores
no_stores = record { constants = []; structs = []; functions = []; text = []; main = []; main_places = []; other = []; other_places = [] }
