-- THE RETURN TRIP: a program's image says that program; whatever bytes are accepted are the image of the program that they say; one program has
-- one image; what was loaded is saved again as the same bytes; and what is saved loads as the same program, NaN payloads included, wherever there is room.
use mathlib.Core.Path.{◌≡◌, refl, sym, ap, ◌∙◌}
use mathlib.Core.Bool.{true}
use mathlib.Core.List.{List, ◌++◌}
use Prim.Native.Nat.{ℕ, ◌≤◌, ◌^◌}
use native.Mathlib.Omega.{arith}
use lib.Dec.{leb}
use lib.ListN.{length, take, drop}
use lib.Seq.{take_at}
use borrow.Author.Tests.{leb-true}
use Rattle.model.specs.Numbers.{Bytes}
use Rattle.model.specs.Values.{places}
use Rattle.model.specs.Programs.{Program, within_limits}
use Rattle.model.specs.Images.{image_of, Judged, fine, broken, judge, Sound}
use Rattle.model.specs.Stores.{Stores, program_in}
use Rattle.model.specs.Emission.{written}
use Rattle.model.specs.Orders.{program_ok}
use Rattle.model.specs.Loading.{laid, counts_for, room_for, LoadRes, load_judged, load_of, OutRes, put_out, save_of}
use Rattle.model.specs.declared.Counts.{Counts}
use Rattle.layout.proofs.Bools.{either_way}
use Rattle.layout.proofs.Parts.{one_word}
use Rattle.laws_images.proofs.Formats.{judge_back, judge_only}
use Rattle.laws_images.proofs.Held.{written_front}
use Rattle.image_load.proofs.Loaded.{laid_again}
use Rattle.image.specs.Loads.{Below, LoadsAs}
use Rattle.image.proofs.Sounds.{order_sound, order_within}
use Rattle.std.specs.Prelude.{Err, Ok, Result}
use Rattle.model.specs.declared.Refusal.{Refusal}
use Rattle.model.specs.declared.Refusal.TheVariants as why

pub image_back : (p : Program) → Sound p → judge (image_of p) ≡ fine p
image_back = judge_back

pub image_only : (b : List ℕ) (p : Program) → Bytes b → judge b ≡ fine p → (b ≡ image_of p) × Sound p
image_only = judge_only

same_program : (p q : Program) → fine p ≡ fine q → p ≡ q
same_program p q e = cc

pub one_image : (p q : Program) → Sound p → Sound q → image_of p ≡ image_of q → p ≡ q
one_image p q sp sq e = same_program p q (sym (image_back p sp) ∙ ap judge e ∙ image_back q sq)

-- both ways: the same program has the same image, and only it has that image
pub one_program_one_image : (p q : Program) → Sound p → Sound q → (p ≡ q → image_of p ≡ image_of q) × (image_of p ≡ image_of q → p ≡ q)
one_program_one_image p q sp sq = (λ e. ap image_of e, one_image p q sp sq)

-- in the stores where it was loaded, a program is in good order and stands for itself
pub loaded_stands : (p : Program) (x : Stores) → Sound p → within_limits p ≡ true → room_for p x ≡ true
    → (program_ok (counts_for p) (laid p x) ≡ true) × (program_in (counts_for p) (laid p x) ≡ p)
loaded_stands = laid_again

-- what loading says when it is done
Done : Judged → Stores → Counts → Stores → Type 0
Done r x c y = (p : Program) × (r ≡ fine p) × (within_limits p ≡ true) × (room_for p x ≡ true) × (counts_for p ≡ c) × (laid p x ≡ y)

-- what is answered is one answer, and a refusal is none
same_answer : {A : Type 0} {a b : A} → ◌≡◌ {A = Result A Refusal} (Ok a) (Ok b) → a ≡ b
same_answer e = cc

no_answer : {A : Type 0} {a : A} {e : Refusal} → ◌≡◌ {A = Result A Refusal} (Err e) (Ok a) → ⊥
no_answer e = let z : ◌≡◌ {A = ℕ} 0 1 = cc in omega arith

done_only : (r : Judged) (x : Stores) (c : Counts) (y : Stores) → load_judged r x ≡ record { answer = Ok c; stores = y } → Done r x c y
unfolding load_judged Done
done_only (broken i) x c y e = absurd (no_answer (ap (λ (k : LoadRes). k.answer) e))
done_only (fine p) x c y e =
    either_way (within_limits p)
    (λ h. either_way (room_for p x)
    (λ r. let g : ◌≡◌ {A = LoadRes} (record { answer = Ok (counts_for p); stores = laid p x }) (record { answer = Ok c; stores = y }) = rw (h, r) at e in
    (p, refl, h, r, same_answer (ap (λ (k : LoadRes). k.answer) g), ap (λ (k : LoadRes). k.stores) g))
    (λ r. let g : ◌≡◌ {A = LoadRes} (record { answer = Err why.StoreFull; stores = x }) (record { answer = Ok c; stores = y }) = rw (h, r) at e in
    absurd (no_answer (ap (λ (k : LoadRes). k.answer) g))))
    (λ h. let g : ◌≡◌ {A = LoadRes} (record { answer = Err why.OverLimit; stores = x }) (record { answer = Ok c; stores = y }) = rw h at e in
    absurd (no_answer (ap (λ (k : LoadRes). k.answer) g)))

-- what was loaded is in good order, and stands for the program whose image it was loaded from
pub loaded_as : (b : List ℕ) (x y : Stores) (c : Counts) → Bytes b → load_of b x ≡ record { answer = Ok c; stores = y }
    → (b ≡ image_of (program_in c y)) × (program_ok c y ≡ true)
unfolding load_of Done
loaded_as b x y c h e =
    let d = done_only (judge b) x c y e in
    let o = image_only b d.0 h d.1 in
    let s = loaded_stands d.0 x o.1 d.2 d.3 in (
      o.0 ∙ ap image_of (sym (ap (λ (k : Counts). program_in k y) (sym d.4) ∙ ap (program_in (counts_for d.0)) (sym d.5) ∙ s.1)),
      ap (λ (k : Counts). program_ok k y) (sym d.4) ∙ ap (program_ok (counts_for d.0)) (sym d.5) ∙ s.0,
    )

-- what was loaded is saved again as the same bytes
pub load_then_save : (b : List ℕ) (x y : Stores) (c : Counts) (out : List ℕ) → Bytes b → load_of b x ≡ record { answer = Ok c; stores = y } → save_of c y out ≡ put_out b out
unfolding save_of
load_then_save b x y c out h e = let s = loaded_as b x y c h e in rw (s.1, ← s.0)

-- what is saved loads as the same program: the numbers below 2 ^ 64 and 2 ^ 32 are what the types of the stores say
pub save_then_load : (c : Counts) (x : Stores) → program_ok c x ≡ true → Below (2 ^ 64) x.constants → Below (2 ^ 32) x.main_places → Below (2 ^ 32) x.other_places
    → Sound (program_in c x) × (judge (image_of (program_in c x)) ≡ fine (program_in c x))
save_then_load c x ok a b d =
    let s = order_sound c x.constants x.structs x.functions x.text x.main x.main_places x.other x.other_places ok a b d in
    (s, image_back (program_in c x) s)

-- ---- through the entries: the bytes that `save` wrote are accepted by `load`

-- where the store has the room, the bytes that were put out stand at its front
put_front : (bytes out out' : List ℕ) (n : ℕ) → put_out bytes out ≡ record { answer = Ok n; out = out' } → take n out' ≡ bytes
unfolding put_out
put_front bytes out out' n e = either_way (leb (length bytes) (places 1 out))
    (λ h.
    let g : ◌≡◌ {A = OutRes} (record { answer = Ok (length bytes); out = written out 0 bytes }) (record { answer = Ok n; out = out' }) = rw h at e in
    let k : length bytes ≡ n = same_answer (ap (λ (x : OutRes). x.answer) g) in
    let fits : length bytes ≤ length out = (one_word (length bytes) out (leb-true _ _ h)).0 in
    let o : out' ≡ bytes ++ drop (length bytes) out = sym (ap (λ (x : OutRes). x.out) g) ∙ written_front out bytes fits in
    rw o (take_at bytes (drop (length bytes) out) n k))
    (λ h.
    let g : ◌≡◌ {A = OutRes} (record { answer = Err why.ResultTooShort; out = out }) (record { answer = Ok n; out = out' }) = rw h at e in
    absurd (no_answer (ap (λ (x : OutRes). x.answer) g)))

-- what `save` wrote is the image of the program, which was in good order
saved_as : (c : Counts) (x : Stores) (out out' : List ℕ) (n : ℕ) → save_of c x out ≡ record { answer = Ok n; out = out' }
    → (program_ok c x ≡ true) × (take n out' ≡ image_of (program_in c x))
unfolding save_of
saved_as c x out out' n e = either_way (program_ok c x)
    (λ h. (h, put_front (image_of (program_in c x)) out out' n (rw h at e)))
    (λ h.
    let g : ◌≡◌ {A = OutRes} (record { answer = Err why.NotInOrder; out = out }) (record { answer = Ok n; out = out' }) = rw h at e in
    absurd (no_answer (ap (λ (x : OutRes). x.answer) g)))

-- a sound program within the limits is loaded wherever there is room
pub image_loads : (p : Program) (y : Stores) → Sound p → within_limits p ≡ true → room_for p y ≡ true → LoadsAs p (image_of p) y
unfolding load_of load_judged
image_loads p y s w r = let k = loaded_stands p y s w r in record { accepted = rw (image_back p s, w, r); order = k.0; program = k.1 }

-- the n bytes that `save` wrote load as the same program in any stores that have the room for it
pub saved_loads : (c : Counts) (x y : Stores) (out out' : List ℕ) (n : ℕ) → save_of c x out ≡ record { answer = Ok n; out = out' }
    → Below (2 ^ 64) x.constants → Below (2 ^ 32) x.main_places → Below (2 ^ 32) x.other_places
    → room_for (program_in c x) y ≡ true → LoadsAs (program_in c x) (take n out') y
saved_loads c x y out out' n e a b d r =
    let s = saved_as c x out out' n e in
    let within = order_within c x.constants x.structs x.functions x.text x.main x.main_places x.other x.other_places s.0 in
    rw s.1 (image_loads (program_in c x) y (save_then_load c x s.0 a b d).0 within r)
