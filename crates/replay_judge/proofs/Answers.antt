-- What the answers are, way by way.
use mathlib.Core.Path.{◌≡◌, sym, ap, ◌∙◌}
use mathlib.Core.Bool.{Bool, true, false}
use mathlib.Core.List.{List}
use Prim.Native.Nat.{ℕ, ◌/◌, ◌≤◌, ◌<◌, ◌^◌}
use native.Mathlib.Omega.{arith}
use native.Mathlib.Nat.{min-eq_left}
use lib.ListN.{length, take, replicate, length-replicate}
use borrow.Author.Tests.{le-leb, lt-leb}
use Rattle.model.specs.declared.Counts.{Counts}
use Rattle.model.specs.Equality.{same_bytes}
use Rattle.model.specs.Values.{places, most_places}
use Rattle.model.specs.Stores.{Stores}
use Rattle.model.specs.Loading.{LoadRes, load_of, save_of}
use Rattle.model.specs.Reports.{empty_stores, runner_text, lister_text}
use Rattle.report.specs.Links.{Printed, printed}
use Rattle.report.proofs.Prints.{fits}
use Rattle.replay_judge.proofs.Lines.{same_line}
use Rattle.replay_judge.specs.Compared.{load_text, read_of, back_to, saving_of, Compared, compared_at, compare_of, verdict_of}
use Rattle.std.specs.Prelude.{Err, Ok, Result}
use Rattle.model.specs.declared.Refusal.{Refusal}
use Rattle.model.specs.declared.Refusal.TheVariants as why

pub too_long : (image : List ℕ) (s : Stores) → 16384 < length image → record { answer = Err why.OverLimit; stores = s } ≡ read_of image s
unfolding read_of
too_long image s h = rw (lt-leb _ _ h)

pub loads : (image : List ℕ) (s : Stores) {r : LoadRes} → length image ≤ 16384 → r ≡ load_of image s → r ≡ read_of image s
unfolding read_of
loads image s h e = rw (le-leb _ _ h) e

-- ---- saving

module _ (image : List ℕ) (s : Stores) (out : List ℕ) where
  pub not_loaded : {answer : Result Counts Refusal} {e : Refusal} → answer ≡ Err e → record { agrees = true; out = out } ≡ saving_of image answer s out
  unfolding saving_of
  not_loaded h = rw h

  module _ {answer : Result Counts Refusal} {c : Counts} (e : answer ≡ Ok c) {told : Result ℕ Refusal} {o : List ℕ} (h : record { answer = told; out = o } ≡ save_of c s out) where
    saved : (b : Bool) → b ≡ back_to image told o → record { agrees = b; out = o } ≡ saving_of image answer s out
    unfolding saving_of
    saved b f = rw (e, ← h, f)

    pub not_saved : {r : Refusal} → told ≡ Err r → record { agrees = false; out = o } ≡ saving_of image answer s out
    unfolding back_to
    not_saved f = saved false (rw f)

    pub saved_as : {n : ℕ} → told ≡ Ok n → (r : Bool) → r ≡ same_bytes (take n o) image → record { agrees = r; out = o } ≡ saving_of image answer s out
    unfolding back_to
    saved_as f r g = saved r (rw f g)

-- ---- loading and saving

pub all : (image loading : List ℕ) (s : Stores) (saved : List ℕ) {answer : Result Counts Refusal} {s' : Stores} → record { answer = answer; stores = s' } ≡ read_of image s
    → {a : Bool} → a ≡ same_bytes (load_text answer) loading → {b : Bool} {saved' : List ℕ} → record { agrees = b; out = saved' } ≡ saving_of image answer s' saved
    → record { loading = a; saving = b; stores = s'; saved = saved' } ≡ compare_of image loading s saved
unfolding compare_of compared_at
all image loading s saved h f g = rw (← h, f, ← g)

-- ---- all of it

room_of_lem : (k : ℕ) (s : List ℕ) → length s ≡ k → k < 2 ^ 32 → {n : ℕ} → n ≤ k → n ≤ places 1 s
unfolding places
room_of_lem k s e small h =
    let a : length s / 1 ≤ most_places = omega arith in
    let b = min-eq_left a in
    omega arith

-- a text that fits a store of k bytes is printed whole
pub told_into : (k : ℕ) (bytes want store : List ℕ) → length store ≡ k → k < 2 ^ 32 → length bytes ≤ k → {n : ℕ} {out : List ℕ} → record { count = n; out = out } ≡ printed bytes store
    → (r : Bool) → r ≡ same_bytes (take n out) want → r ≡ same_bytes bytes want
told_into k bytes want store z small h {n} e r g =
    let f = e ∙ sym (fits bytes store (room_of_lem k store z small h)) in
    let c : n ≡ length bytes = ap (λ (x : Printed). x.count) f in
    same_line {k = k} {l = bytes} {s = store} {n = n} (record { stored = ap (λ (x : Printed). x.out) f; next = omega arith; near = omega arith }) (omega arith) want r g

pub told : (k : ℕ) (bytes want : List ℕ) → k < 2 ^ 32 → length bytes ≤ k → {n : ℕ} {out : List ℕ} → record { count = n; out = out } ≡ printed bytes (replicate k 0)
    → (r : Bool) → r ≡ same_bytes (take n out) want → r ≡ same_bytes bytes want
told k bytes want = told_into k bytes want (replicate k 0) (length-replicate k 0)

pub judged : (image loading running listing : List ℕ) {a b ran listed : Bool} {s : Stores} {saved : List ℕ}
    → record { loading = a; saving = b; stores = s; saved = saved } ≡ compare_of image loading
    record {
      constants = replicate 512 0;
      structs = replicate 512 0;
      functions = replicate 512 0;
      text = replicate 16384 0;
      main = replicate 8192 0;
      main_places = replicate 8192 0;
      other = replicate 8192 0;
      other_places = replicate 8192 0;
    } (replicate 16384 0)
    → ran ≡ same_bytes (runner_text image) running → listed ≡ same_bytes (lister_text image) listing
    → record { loading = a; saving = b; running = ran; listing = listed } ≡ verdict_of image loading running listing
unfolding verdict_of empty_stores
judged image loading running listing h f g =
    let a = ap (λ (x : Compared). x.loading) h in
    let b = ap (λ (x : Compared). x.saving) h in
    rw (a, b, f, g)
