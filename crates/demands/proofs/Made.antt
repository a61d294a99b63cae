-- A program that is made anew, or loaded, in stores as long: the same answer, and the same program.
use Rattle.std.specs.Prelude.{if◌then◌else◌, Err, Ok, Result}
use mathlib.Core.Path.{◌≡◌, refl, sym, ap, ◌∙◌}
use mathlib.Core.Bool.{Bool, true, false, ◌&&◌}
use mathlib.Core.List.{List}
use Prim.Native.Nat.{ℕ}
use native.Mathlib.Omega.{arith}
use lib.Dec.{leb}
use Rattle.model.specs.declared.Counts.{Counts}
use Rattle.model.specs.Numbers.{Bytes}
use Rattle.model.specs.Values.{places}
use Rattle.model.specs.Programs.{Program, within_limits}
use Rattle.model.specs.Images.{Judged, fine, broken, judge, Sound}
use Rattle.model.specs.Stores.{Stores, program_in}
use Rattle.model.specs.Emission.{counts, new_of}
use Rattle.model.specs.Loading.{LoadRes, laid, counts_for, room_for, load_judged, load_of}
use Rattle.model.specs.Machines.{as_loaded}
use Rattle.laws_programs.proofs.Naming.{new_reads}
use Rattle.image.proofs.Trip.{image_only, loaded_stands}
use Rattle.demands.specs.Meant.{AsLong}
use Rattle.demands.proofs.Fronts.{places_alike}
use Rattle.demands.proofs.Orderly.{loaded_done}
use Rattle.demands.proofs.Beside.{functions_long, text_long, written_long, SameRes, same_if, both_done, AlikeRes, alike_res}
use Rattle.model.specs.declared.Refusal.{Refusal}
use Rattle.model.specs.declared.Refusal.TheVariants as why

-- the same answer; where it is done, stores as long with one program
pub record AlikeLoaded (a a' : Result Counts Refusal) (t t' : Stores) : Type 0 where
  pub answer : a' ≡ a
  pub rooms : AsLong t' t
  pub program : (c : Counts) → a ≡ Ok c → program_in c t' ≡ program_in c t

module _ (s s' : Stores) (long : AsLong s' s) where
  -- ---- loading

  room_same : (p : Program) → room_for p s' ≡ room_for p s
  unfolding room_for
  room_same p =
      rw (
        places_alike s'.constants s.constants long.constants 2,
        places_alike s'.structs s.structs long.structs 2,
        places_alike s'.functions s.functions long.functions 2,
        places_alike s'.text s.text long.text 1,
        places_alike s'.main s.main long.main 1,
        places_alike s'.main_places s.main_places long.main_places 1,
        places_alike s'.other s.other long.other 1,
        places_alike s'.other_places s.other_places long.other_places 1,
      )

  laid_long : (p : Program) → AsLong (laid p s') (laid p s)
  unfolding laid
  laid_long p = record {
    constants = written_long _ _ _ _ _ _ long.constants;
    structs = written_long _ _ _ _ _ _ long.structs;
    functions = written_long _ _ _ _ _ _ long.functions;
    text = written_long _ _ _ _ _ _ long.text;
    main = written_long _ _ _ _ _ _ long.main;
    main_places = written_long _ _ _ _ _ _ long.main_places;
    other = written_long _ _ _ _ _ _ long.other;
    other_places = written_long _ _ _ _ _ _ long.other_places;
  }

  abbrev Both : LoadRes → LoadRes → Type 0
  Both x x' = AlikeLoaded x.answer x'.answer x.stores x'.stores

  refused_load : (e : Refusal) → Both (record { answer = Err e; stores = s }) (record { answer = Err e; stores = s' })
  refused_load e = record { answer = refl; rooms = long; program = λ c e. absurd (let z : ◌≡◌ {A = ℕ} 0 1 = cc in let y : ⊥ = omega arith in y) }

  fine_by : (p : Program) → Sound p → (a b : Bool) → within_limits p ≡ a → room_for p s ≡ b
      → Both (if a then (if b then record { answer = Ok (counts_for p); stores = laid p s } else record { answer = Err why.StoreFull; stores = s }) else record { answer = Err why.OverLimit; stores = s })
      (if a then (if b then record { answer = Ok (counts_for p); stores = laid p s' } else record { answer = Err why.StoreFull; stores = s' }) else record { answer = Err why.OverLimit; stores = s' })
  fine_by p k true true l r = record {
    answer = refl;
    rooms = laid_long p;
    program = λ c e. let z : counts_for p ≡ c = cc in rw (← z) ((loaded_stands p s' k l (room_same p ∙ r)).1 ∙ sym (loaded_stands p s k l r).1);
  }
  fine_by p k true false l r = refused_load why.StoreFull
  fine_by p k false b l r = refused_load why.OverLimit

  judged_alike : (x : Judged) → ((p : Program) → x ≡ fine p → Sound p) → Both (load_judged x s) (load_judged x s')
  unfolding load_judged
  judged_alike (broken i) k = record { answer = refl; rooms = long; program = λ c e. absurd (let z : ◌≡◌ {A = ℕ} 0 1 = cc in let y : ⊥ = omega arith in y) }
  judged_alike (fine p) k = rw (room_same p) (fine_by p (k p refl) (within_limits p) (room_for p s) refl refl)

  pub load_alike : (image : List ℕ) → Bytes image → Both (load_of image s) (load_of image s')
  unfolding load_of
  load_alike image b = judged_alike (judge image) (λ p e. (image_only image p b e).1)

  -- ---- a new program

  new_res : SameRes (new_of s) (new_of s')
  unfolding new_of
  new_res =
      rw (places_alike s'.text s.text long.text 1, places_alike s'.functions s.functions long.functions 2)
      (same_if (leb 6 (places 1 s.text) && leb 1 (places 2 s.functions))
      (both_done (counts 0 0 1 6 0) 0 (functions_long (text_long long _ _ (written_long _ _ _ _ _ _ long.text)) _ _ (written_long _ _ _ _ _ _ long.functions)))
      (record { answer = refl; rooms = long }))

  pub new_alike : AlikeLoaded (as_loaded (new_of s).answer) (as_loaded (new_of s').answer) (new_of s).stores (new_of s').stores
  new_alike =
      let x : AlikeRes (new_of s) (new_of s') = alike_res new_res (new_reads s) (new_reads s') refl in
      record {
        answer = ap as_loaded x.answer;
        rooms = x.rooms;
        program = λ c e. loaded_done (new_of s).answer c e (λ n q. x.program c n q);
      }
