-- Code emitted and patched, way by way.
use Rattle.std.specs.Prelude.{Err, Ok}
use mathlib.Core.Path.{◌≡◌, sym, ◌∙◌}
use mathlib.Core.Bool.{Bool, true, false, not, ◌&&◌}
use mathlib.Core.List.{List, []}
use Prim.Native.Nat.{ℕ, ◌+◌, ◌-◌, ◌*◌, ◌≤◌, ◌<◌, min}
use native.Mathlib.Omega.{arith}
use native.Mathlib.Nat.{min-le_left, min-le_right}
use lib.ListN.{length, set, replicate}
use borrow.Author.Tests.{eq-eqb, ne_eqb, le-leb, lt-leb, lt-ltb, le-ltb, not-true, not-false}
use Rattle.model.specs.declared.Counts.{Counts}
use Rattle.model.specs.declared.Refusal.TheVariants as why
use Rattle.model.specs.Values.{places, payload_at}
use Rattle.model.specs.Stores.{Stores, start, size, pack, code_word, code_end, code_here, places_here, with_code, with_functions, with_main, with_other}
use Rattle.model.specs.Orders.{counts_ok, functions_ok, inside_codes}
use Rattle.model.specs.Emission.{written, size_here, end_here, code_room, longer, appended, code_order, emit_in, emit_of, u16, patch_order, patched, patch_of}
use Rattle.layout.specs.Links.{Is, code_lent, bytes_lent}
use Rattle.layout.proofs.Bools.{and_left, and_right}
use Rattle.layout.proofs.Parts.{room_1}
use Rattle.laws_programs.proofs.Known.{Limited, limited, Known, function_known, code_in_main, code_in_other}

pub order_is : (c : Counts) (fs m mp o op : List ℕ) (b1 b2 b3 b4 : Bool) → b1 ≡ counts_ok c → b2 ≡ functions_ok c fs → b3 ≡ inside_codes c fs m o → b4 ≡ inside_codes c fs mp op
    → (rest : Stores) → (b1 && b2 && b3 && b4) ≡ code_order c (code_lent rest fs m mp o op)
unfolding code_order code_lent
order_is c fs m mp o op b1 b2 b3 b4 e1 e2 e3 e4 rest = rw (e1, e2, e3, e4)

module _ (c : Counts) (rest : Stores) (fs m mp o op : List ℕ) (a b r : ℕ) where
  pub room_main : c.current ≡ 0 → a ≡ places 1 m → b ≡ places 1 mp → r ≡ min a b → r ≡ code_room c (code_lent rest fs m mp o op)
  unfolding code_room code_here places_here code_lent
  room_main h ea eb er = er ∙ rw (eq-eqb _ _ h, ea, eb)

  pub room_other : (c.current ≡ 0 → ⊥) → a ≡ places 1 o → b ≡ places 1 op → r ≡ min a b → r ≡ code_room c (code_lent rest fs m mp o op)
  unfolding code_room code_here places_here code_lent
  room_other h ea eb er = er ∙ rw (ne_eqb _ _ h, ea, eb)

-- what is known of the current function once the order is good
pub current_known : (c : Counts) (s : Stores) (b : Bool) → b ≡ code_order c s → not b ≡ false → Known c s.functions c.current
unfolding code_order
current_known c s b e h =
    let b1 = counts_ok c in let b2 = functions_ok c s.functions in let b3 = inside_codes c s.functions s.main s.other in let b4 = inside_codes c
    s.functions s.main_places s.other_places in
    let e2 = and_left (b1 && b2) b3 (and_left (b1 && b2 && b3) b4 (sym e ∙ not-false b h)) in
    function_known c s.functions (and_right b1 b2 e2) c.current (limited c (and_left b1 b2 e2)).current

pub size_short : (c : Counts) (fs : List ℕ) → Known c fs c.current → (word n : ℕ) → word ≡ payload_at fs c.current → n ≡ size word → n ≤ 65535
unfolding code_word
size_short c fs k word n e f = rw (f, e) k.short

module _ (c : Counts) (s : Stores) (r n : ℕ) (e : r ≡ code_room c s) (h : n ≤ r) where
  pub fits_main : c.current ≡ 0 → (n ≤ length s.main) × (n ≤ length s.main_places)
  unfolding code_room code_here places_here
  fits_main z =
      let l : r ≡ min (places 1 s.main) (places 1 s.main_places) = e ∙ rw (eq-eqb _ _ z) in
      let a : min (places 1 s.main) (places 1 s.main_places) ≤ places 1 s.main = min-le_left _ _ in
      let b : min (places 1 s.main) (places 1 s.main_places) ≤ places 1 s.main_places = min-le_right _ _ in
      let x = room_1 s.main in let y = room_1 s.main_places in (omega arith, omega arith)

  pub fits_other : (c.current ≡ 0 → ⊥) → (n ≤ length s.other) × (n ≤ length s.other_places)
  unfolding code_room code_here places_here
  fits_other z =
      let l : r ≡ min (places 1 s.other) (places 1 s.other_places) = e ∙ rw (ne_eqb _ _ z) in
      let a : min (places 1 s.other) (places 1 s.other_places) ≤ places 1 s.other = min-le_left _ _ in
      let b : min (places 1 s.other) (places 1 s.other_places) ≤ places 1 s.other_places = min-le_right _ _ in
      let x = room_1 s.other in let y = room_1 s.other_places in (omega arith, omega arith)

-- the same of lent stores, whatever the rest
none : Stores
none = record { constants = []; structs = []; functions = []; text = []; main = []; main_places = []; other = []; other_places = [] }

pub lent_known : (c : Counts) (fs m mp o op : List ℕ) (b : Bool) → ((rest : Stores) → b ≡ code_order c (code_lent rest fs m mp o op)) → not b ≡ false → Known c fs c.current
unfolding code_lent
lent_known c fs m mp o op b e h = current_known c (code_lent none fs m mp o op) b (e none) h

module _ (c : Counts) (m mp o op : List ℕ) (r n : ℕ) (e : (rest : Stores) (fs : List ℕ) → r ≡ code_room c (code_lent rest fs m mp o op)) (h : n ≤ r) where
  pub lent_main : c.current ≡ 0 → (n ≤ length m) × (n ≤ length mp)
  unfolding code_lent
  lent_main z = fits_main c (code_lent none [] m mp o op) r n (e none []) h z

  pub lent_other : (c.current ≡ 0 → ⊥) → (n ≤ length o) × (n ≤ length op)
  unfolding code_lent
  lent_other z = fits_other c (code_lent none [] m mp o op) r n (e none []) h z

module _ (running : Bool) (c : Counts) (p : ℕ) (bytes : List ℕ) (place : ℕ) (s : Stores) (b : Bool) (e : b ≡ code_order c s) where
  pub emit_19 : not b ≡ true → Is (emit_of running c p bytes place s) (Err why.NotInOrder) s
  unfolding emit_of
  emit_19 h = record { means = rw (← e, not-true b h) }

  pub emit_25 : not b ≡ false → running ≡ true → Is (emit_of running c p bytes place s) (Err why.RunUnderWay) s
  unfolding emit_of
  emit_25 h r = record { means = rw (← e, not-false b h, r) }

  module _ (h : not b ≡ false) (idle : running ≡ false) (word at n : ℕ) (ew : word ≡ payload_at s.functions c.current) (ea : at ≡ start word) (en : n ≡ size word) where
    entered : emit_of running c p bytes place s ≡ emit_in c p bytes place s
    unfolding emit_of
    entered = rw (← e, not-false b h, idle)

    size_is : n ≡ size_here c s
    unfolding size_here code_word
    size_is = rw (en, ew)

    end_is : at + n ≡ end_here c s
    unfolding end_here code_end code_word
    end_is = rw (ea, en, ew)

    pub emit_22 : 65535 - n < length bytes → Is (emit_of running c p bytes place s) (Err why.OverLimit) s
    unfolding emit_in
    emit_22 g = let z : 65535 < n + length bytes = omega arith in record { means = sym (entered ∙ rw (← size_is, lt-ltb _ _ z)) }

    module _ (g : length bytes ≤ 65535 - n) (r : ℕ) (er : r ≡ code_room c s) where
      short : n + length bytes ≤ 65535
      short = let k = size_short c s.functions (current_known c s b e h) word n ew en in omega arith

      pub emit_21 : r < at + n + length bytes → Is (emit_of running c p bytes place s) (Err why.StoreFull) s
      unfolding emit_in
      emit_21 l = record { means = sym (entered ∙ rw (← size_is, le-ltb _ _ short, ← end_is, ← er, lt-ltb _ _ l)) }

      module _ (l : at + n + length bytes ≤ r) where
        pub emit_1 : 38 ≤ p → Is (emit_of running c p bytes place s) (Err why.UnknownOpcode) s
        unfolding emit_in
        emit_1 q = record { means = sym (entered ∙ rw (← size_is, le-ltb _ _ short, ← end_is, ← er, le-ltb _ _ l, le-leb _ _ q)) }

        all_in : p < 38 → emit_of running c p bytes place s ≡ appended c bytes place s
        unfolding emit_in
        all_in q = entered ∙ rw (← size_is, le-ltb _ _ short, ← end_is, ← er, le-ltb _ _ l, lt-leb _ _ q)

        module _ (q : p < 38) (w : ℕ) (ep : w ≡ pack at (n + length bytes)) (fs code places : List ℕ) (ef : fs ≡ set s.functions (2 * c.current + 1) w) where
          longer_is : fs ≡ longer c (length bytes) s
          unfolding longer code_word
          longer_is = ef ∙ rw (ep, ea, ew, size_is)

          pub emitted_main : c.current ≡ 0 → code ≡ written s.main (at + n) bytes → places ≡ written s.main_places (at + n) (replicate (length bytes) place)
              → Is (emit_of running c p bytes place s) (Ok (c, 0)) (with_functions fs (with_main code places s))
          unfolding appended with_code code_here places_here
          emitted_main z ec el = record { means = sym (all_in q ∙ rw (← longer_is, ← end_is, eq-eqb _ _ z, ec, el)) }

          pub emitted_other : (c.current ≡ 0 → ⊥) → code ≡ written s.other (at + n) bytes → places ≡ written s.other_places (at + n) (replicate (length bytes) place)
              → Is (emit_of running c p bytes place s) (Ok (c, 0)) (with_functions fs (with_other code places s))
          unfolding appended with_code code_here places_here
          emitted_other z ec el = record { means = sym (all_in q ∙ rw (← longer_is, ← end_is, ne_eqb _ _ z, ec, el)) }

-- ---- a patch

pub patch_order_is : (c : Counts) (fs m o : List ℕ) (b1 b2 b3 : Bool) → b1 ≡ counts_ok c → b2 ≡ functions_ok c fs → b3 ≡ inside_codes c fs m o
    → (rest : Stores) → (b1 && b2 && b3) ≡ patch_order c (bytes_lent rest fs m o)
unfolding patch_order bytes_lent code_lent
patch_order_is c fs m o b1 b2 b3 e1 e2 e3 rest = rw (e1, e2, e3)

-- two bytes inside the current function's code lie in its store
module _ (c : Counts) (fs m o : List ℕ) (b : Bool) (e : (rest : Stores) → b ≡ patch_order c (bytes_lent rest fs m o)) (h : not b ≡ false) (word at n k : ℕ)
    (ew : word ≡ payload_at fs c.current) (ea : at ≡ start word) (en : n ≡ size word) (g : k + 2 ≤ n) where
  patch_good : counts_ok c && functions_ok c fs && inside_codes c fs m o ≡ true
  unfolding patch_order bytes_lent code_lent
  patch_good = sym (e none) ∙ not-false b h

  patch_limited : Limited c
  patch_limited = limited c (and_left (counts_ok c) (functions_ok c fs) (and_left (counts_ok c && functions_ok c fs) (inside_codes c fs m o) patch_good))

  patch_codes : inside_codes c fs m o ≡ true
  patch_codes = and_right (counts_ok c && functions_ok c fs) (inside_codes c fs m o) patch_good

  patch_end : code_end fs c.current ≡ at + n
  unfolding code_end code_word
  patch_end = rw (ea, en, ew)

  pub patch_in_main : c.current ≡ 0 → at + k + 2 ≤ length m
  patch_in_main z = let x = code_in_main c fs m o patch_limited patch_codes z in let y = patch_end in omega arith

  pub patch_in_other : (c.current ≡ 0 → ⊥) → at + k + 2 ≤ length o
  patch_in_other z = let x = code_in_other c fs m o patch_limited patch_codes z in let y = patch_end in omega arith

module _ (running : Bool) (c : Counts) (k a : ℕ) (s : Stores) (b : Bool) (e : b ≡ patch_order c s) where
  pub patch_19 : not b ≡ true → Is (patch_of running c k a s) (Err why.NotInOrder) s
  unfolding patch_of
  patch_19 h = record { means = rw (← e, not-true b h) }

  pub patch_25 : not b ≡ false → running ≡ true → Is (patch_of running c k a s) (Err why.RunUnderWay) s
  unfolding patch_of
  patch_25 h r = record { means = rw (← e, not-false b h, r) }

  module _ (h : not b ≡ false) (idle : running ≡ false) (word at n : ℕ) (ew : word ≡ payload_at s.functions c.current) (ea : at ≡ start word) (en : n ≡ size word) where
    patch_size : n ≡ size_here c s
    unfolding size_here code_word
    patch_size = rw (en, ew)

    pub patch_23 : n < k + 2 → Is (patch_of running c k a s) (Err why.PatchOutsideCode) s
    unfolding patch_of
    patch_23 l = record { means = rw (← e, not-false b h, idle, ← patch_size, lt-ltb _ _ l) }

    module _ (l : k + 2 ≤ n) (code : List ℕ) where
      patch_all : patch_of running c k a s ≡ patched c k a s
      unfolding patch_of
      patch_all = rw (← e, not-false b h, idle, ← patch_size, le-ltb _ _ l)

      patch_from : at + k ≡ start (code_word s.functions c.current) + k
      unfolding code_word
      patch_from = rw (ea, ew)

      pub patched_main : c.current ≡ 0 → code ≡ written s.main (at + k) (u16 a) → Is (patch_of running c k a s) (Ok (c, 0)) (with_main code s.main_places s)
      unfolding patched with_code code_here places_here
      patched_main z ec = record { means = sym (patch_all ∙ rw (← patch_from, eq-eqb _ _ z, ec)) }

      pub patched_other : (c.current ≡ 0 → ⊥) → code ≡ written s.other (at + k) (u16 a) → Is (patch_of running c k a s) (Ok (c, 0)) (with_other code s.other_places s)
      unfolding patched with_code code_here places_here
      patched_other z ec = record { means = sym (patch_all ∙ rw (← patch_from, ne_eqb _ _ z, ec)) }
