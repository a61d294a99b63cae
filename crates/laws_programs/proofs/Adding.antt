-- Constants and names added, way by way.
use Rattle.std.specs.Prelude.{Err, Ok, Result}
use mathlib.Core.Path.{◌≡◌, sym, ◌∙◌}
use mathlib.Core.Bool.{Bool, true, false, not, ◌&&◌}
use mathlib.Core.List.{List, []}
use Prim.Native.Nat.{ℕ, zero, suc, ◌+◌, ◌*◌, ◌≤◌, ◌<◌, ◌^◌}
use native.Mathlib.Omega.{arith}
use native.Mathlib.Numerals.{add-one}
use lib.Dec.{ltb}
use lib.ListN.{length}
use borrow.Author.Tests.{le-leb, lt-leb, not-true, not-false}
use Rattle.model.specs.declared.Constant.{Constant}
use Rattle.model.specs.declared.Constant.TheVariants as k
use Rattle.model.specs.declared.Counts.{Counts}
use Rattle.model.specs.declared.Refusal.{Refusal}
use Rattle.model.specs.declared.Refusal.TheVariants as why
use Rattle.model.specs.Values.{places, payload_at, put_words, bit}
use Rattle.model.specs.Equality.{same_bytes}
use mathlib.Core.Option.{Option}
use Rattle.model.specs.Programs.{newest_from, first_from}
use Rattle.model.specs.Stores.{Stores, pack, order_word, structs_from, with_constants, with_structs, with_functions, with_text}
use Rattle.model.specs.Orders.{counts_ok, text_ok, constants_ok, name_in_order, structs_ok, code_start, other_taken, functions_ok, main_ok}
use Rattle.model.specs.Emission.{counts, written, text_room, with_constant, with_text_constant, constant_added, constant_order, add_constant_of, struct_names, with_struct_name, struct_added, struct_found, struct_order, add_struct_of, function_order, begun, begin_function_of, names_from, told_name, function_idx_of}
use Rattle.laws_names.specs.Sorted.{Edge, InOrder, Placed, struct_put}
use Rattle.laws_names.proofs.Halves.{edge_spot, stands_yes, stands_no}
use Rattle.laws_names.proofs.Standing.{halves_find, halves_miss, put_named}
use Rattle.layout.specs.Links.{Is, constants_lent, structs_lent, names_lent}
use Rattle.layout.proofs.Bools.{and_left, and_right}
use Rattle.layout.proofs.Parts.{room_1, room_2}
use Rattle.laws_programs.proofs.Known.{structs_known, function_known}

-- ---- constants

pub plain_added : (c : Counts) (kind payload : ℕ) (s : Stores) (cs : List ℕ) → cs ≡ put_words s.constants c.constants kind payload
    → Is (with_constant c kind payload s) (Ok (counts (c.constants + 1) c.structs c.functions c.text c.current, c.constants)) (with_constants cs s)
unfolding with_constant
plain_added c kind payload s cs e = let z : c.text + 0 ≡ c.text = omega arith in record { means = rw (e, z, add-one) }

module _ (c : Counts) (kind : ℕ) (lent : List ℕ) (s : Stores) (b : Bool) (e : b ≡ text_room c s (length lent)) where
  pub text_21 : b ≡ false → Is (with_text_constant c kind lent s) (Err why.StoreFull) s
  unfolding with_text_constant
  text_21 h = record { means = rw (← e, h) }

  pub text_added : b ≡ true → (w : ℕ) (cs t : List ℕ) → t ≡ written s.text c.text lent → w ≡ pack c.text (length lent) → cs ≡ put_words s.constants c.constants kind w
      → Is (with_text_constant c kind lent s) (Ok (counts (c.constants + 1) c.structs c.functions (c.text + length lent) c.current, c.constants)) (with_constants cs (with_text t s))
  unfolding with_text_constant
  text_added h w cs t et ew ec = record { means = rw (← e, h, et, ec, ew, add-one) }

pub constant_order_is : (c : Counts) (cs t : List ℕ) (b1 b2 b3 : Bool) → b1 ≡ counts_ok c → b2 ≡ text_ok c t → b3 ≡ constants_ok c cs
    → (rest : Stores) → (b1 && b2 && b3) ≡ constant_order c (constants_lent rest cs t)
unfolding constant_order constants_lent
constant_order_is c cs t b1 b2 b3 e1 e2 e3 rest = rw (e1, e2, e3)

pub word_fits : (n r : ℕ) (s : List ℕ) → r ≡ places 1 s → n < r → n < length s
word_fits n r s e h = let x = room_1 s in omega arith

pub pair_fits : (n r : ℕ) (s : List ℕ) → r ≡ places 2 s → n < r → 2 * n + 2 ≤ length s
pair_fits n r s e h = let x = room_2 s in omega arith

module _ (running : Bool) (c : Counts) (x : Constant) (lent : List ℕ) (s : Stores) (b : Bool) (e : b ≡ constant_order c s) where
  pub constant_19 : not b ≡ true → Is (add_constant_of running c x lent s) (Err why.NotInOrder) s
  unfolding add_constant_of
  constant_19 h = record { means = rw (← e, not-true b h) }

  pub constant_25 : not b ≡ false → running ≡ true → Is (add_constant_of running c x lent s) (Err why.RunUnderWay) s
  unfolding add_constant_of
  constant_25 h r = record { means = rw (← e, not-false b h, r) }

  module _ (h : not b ≡ false) (idle : running ≡ false) where
    pub constant_22 : 65535 ≤ c.constants → Is (add_constant_of running c x lent s) (Err why.OverLimit) s
    unfolding add_constant_of
    constant_22 l = record { means = rw (← e, not-false b h, idle, le-leb _ _ l) }

    module _ (l : c.constants < 65535) (r : ℕ) (er : r ≡ places 2 s.constants) where
      pub constant_21 : r ≤ c.constants → Is (add_constant_of running c x lent s) (Err why.StoreFull) s
      unfolding add_constant_of
      constant_21 g = record { means = rw (← e, not-false b h, idle, lt-leb _ _ l, ← er, le-leb _ _ g) }

      module _ (g : c.constants < r) (a : Result (Counts × ℕ) Refusal) (s' : Stores) where
        constant_in_lem : Is (constant_added c x lent s) a s' → Is (add_constant_of running c x lent s) a s'
        unfolding add_constant_of
        constant_in_lem q = record { means = rw (← e, not-false b h, idle, lt-leb _ _ l, ← er, lt-leb _ _ g) q.means }

        pub scalar_in : (w : ℕ) → x ≡ k.Scalar w → Is (with_constant c 0 w s) a s' → Is (add_constant_of running c x lent s) a s'
        unfolding constant_added
        scalar_in w ex q = constant_in_lem (record { means = rw ex q.means })

        pub boolean_in : (v : Bool) (w : ℕ) → x ≡ k.Boolean v → w ≡ bit v → Is (with_constant c 1 w s) a s' → Is (add_constant_of running c x lent s) a s'
        unfolding constant_added
        boolean_in v w ex ew q = constant_in_lem (record { means = rw (ex, ← ew) q.means })

        pub string_in : x ≡ k.String → Is (with_text_constant c 2 lent s) a s' → Is (add_constant_of running c x lent s) a s'
        unfolding constant_added
        string_in ex q = constant_in_lem (record { means = rw ex q.means })

        pub reference_in : x ≡ k.FunctionReference → Is (with_text_constant c 3 lent s) a s' → Is (add_constant_of running c x lent s) a s'
        unfolding constant_added
        reference_in ex q = constant_in_lem (record { means = rw ex q.means })

-- ---- struct names

module _ (c : Counts) (ss t : List ℕ) (b1 b2 : Bool) (e1 : b1 ≡ counts_ok c) (e2 : b2 ≡ text_ok c t) where
  pub struct_order_is : (b1 && b2) ≡ true → (b : Bool) → b ≡ structs_ok c ss t → (rest : Stores) → b ≡ struct_order c (structs_lent rest ss t)
  unfolding struct_order structs_lent
  struct_order_is h b e rest = rw (← e1, ← e2, h) e

  pub struct_order_not : (b1 && b2) ≡ false → (rest : Stores) → false ≡ struct_order c (structs_lent rest ss t)
  unfolding struct_order structs_lent
  struct_order_not h rest = rw (← e1, ← e2, h)

module _ (c : Counts) (name : List ℕ) (s : Stores) where
  pub struct_22 : 65536 ≤ c.structs → Is (struct_added c name s) (Err why.OverLimit) s
  unfolding struct_added
  struct_22 l = record { means = rw (le-leb _ _ l) }

  module _ (l : c.structs < 65536) (r : ℕ) (er : r ≡ places 2 s.structs) where
    pub struct_21 : r ≤ c.structs → Is (struct_added c name s) (Err why.StoreFull) s
    unfolding struct_added
    struct_21 g = record { means = rw (lt-leb _ _ l, ← er, le-leb _ _ g) }

    module _ (g : c.structs < r) (b : Bool) (e : b ≡ text_room c s (length name)) where
      pub struct_text_21 : b ≡ false → Is (struct_added c name s) (Err why.StoreFull) s
      unfolding struct_added
      struct_text_21 h = record { means = rw (lt-leb _ _ l, ← er, lt-leb _ _ g, ← e, h) }

      pub struct_added_lem : b ≡ true → (at w : ℕ) (ss t : List ℕ) → Placed c.structs at name s.structs s.text
          → t ≡ written s.text c.text name → w ≡ pack c.text (length name) → ss ≡ struct_put c.structs at w s.structs
          → Is (struct_added c name s) (Ok (counts c.constants (c.structs + 1) c.functions (c.text + length name) c.current, c.structs)) (with_structs ss (with_text t s))
      unfolding struct_added with_struct_name struct_names
      struct_added_lem h at w ss t p et ew es =
          let n = put_named c.structs s.structs s.text p.order name at p.spot w in
          record { means = rw (lt-leb _ _ l, ← er, lt-leb _ _ g, ← e, h, et, es, n, ew, add-one) }

-- the struct names that add_struct_info is lent stand in order
pub structs_ordered : (c : Counts) (ss t : List ℕ) (b : Bool) → ((rest : Stores) → b ≡ struct_order c (structs_lent rest ss t)) → not b ≡ false → InOrder c.structs ss t
unfolding struct_order structs_lent
structs_ordered c ss t b e h =
    let s : Stores = record { constants = []; structs = []; functions = []; text = []; main = []; main_places = []; other = []; other_places = [] } in
    (structs_known c ss t (and_right (counts_ok c && text_ok c t) (structs_ok c ss t) (sym (e s) ∙ not-false b h))).order

-- where the search by halves ended, a new name has its place
pub new_placed : (n : ℕ) (name ss t : List ℕ) (at : ℕ) → InOrder n ss t → Edge n (name_in_order ss t) name at → Placed n at name ss t
new_placed n name ss t at o e = record { order = o; spot = edge_spot n (name_in_order ss t) o.ascending name at e }

module _ (running : Bool) (c : Counts) (name : List ℕ) (s : Stores) (b : Bool) (e : b ≡ struct_order c s) where
  pub struct_19 : not b ≡ true → Is (add_struct_of running c name s) (Err why.NotInOrder) s
  unfolding add_struct_of
  struct_19 h = record { means = rw (← e, not-true b h) }

  pub struct_25 : not b ≡ false → running ≡ true → Is (add_struct_of running c name s) (Err why.RunUnderWay) s
  unfolding add_struct_of
  struct_25 h r = record { means = rw (← e, not-false b h, r) }

  module _ (h : not b ≡ false) (idle : running ≡ false) (o : InOrder c.structs s.structs s.text) (at : ℕ) (edge : Edge c.structs (name_in_order s.structs s.text) name at)
      (r : Bool) (er : r ≡ (ltb at c.structs && same_bytes name (name_in_order s.structs s.text at))) where
    search_is : {x : Option ℕ} → first_from 0 name (structs_from c.structs 0 s.structs s.text) ≡ x → add_struct_of running c name s ≡ struct_found c name s x
    unfolding add_struct_of struct_names
    search_is {x} f = rw (← e, not-false b h, idle, ← f)

    pub struct_known : r ≡ true → (v i : ℕ) → v ≡ payload_at s.structs at → i ≡ v → Is (add_struct_of running c name s) (Ok (c, i)) s
    unfolding struct_found order_word
    struct_known t v i ev ei =
        let y = stands_yes at c.structs _ (sym er ∙ t) in
        record { means = sym (search_is (halves_find c.structs s.structs s.text o name at edge y.0 y.1) ∙ rw (ei, ev)) }

    pub struct_new : r ≡ false → (a : Result (Counts × ℕ) Refusal) (s' : Stores) → Is (struct_added c name s) a s' → Is (add_struct_of running c name s) a s'
    unfolding struct_found
    struct_new f a s' q =
        record { means = q.means ∙ sym (search_is (halves_miss c.structs s.structs s.text o name at edge (stands_no at c.structs _ (sym er ∙ f)))) }

-- ---- functions

pub function_order_is : (c : Counts) (fs t : List ℕ) (b1 b2 b3 b4 : Bool) → b1 ≡ counts_ok c → b2 ≡ text_ok c t → b3 ≡ functions_ok c fs → b4 ≡ main_ok fs t
    → (rest : Stores) → (b1 && b2 && b3 && b4) ≡ function_order c (names_lent rest fs t)
unfolding function_order names_lent
function_order_is c fs t b1 b2 b3 b4 e1 e2 e3 e4 rest = rw (e1, e2, e3, e4)

module _ (c : Counts) (name fs t : List ℕ) (b : Bool) (e : (rest : Stores) → b ≡ function_order c (names_lent rest fs t)) where
  pub index_19 : b ≡ false → (rest : Stores) → Err why.NotInOrder ≡ function_idx_of c name (names_lent rest fs t)
  unfolding function_idx_of
  index_19 h rest = rw (← (e rest), h)

  pub index_told : b ≡ true → (r : Result ℕ Refusal) → ((rest : Stores) → r ≡ told_name (newest_from 0 name (names_from c.functions 0 (names_lent rest fs t))))
      → (rest : Stores) → r ≡ function_idx_of c name (names_lent rest fs t)
  unfolding function_idx_of
  index_told h r er rest = rw (← (e rest), h) (er rest)

-- the codes of the other functions end where a word can name it
pub start_below : (c : Counts) (fs : List ℕ) → functions_ok c fs ≡ true → (n : ℕ) → n ≤ c.functions → code_start fs n ≤ 0xFFFF_FFFF
unfolding code_start
start_below c fs e zero h = omega arith
start_below c fs e (suc zero) h = omega arith
start_below c fs e (suc (suc n)) h = (function_known c fs e (suc n) (omega arith)).ends

pub behind_fits : (c : Counts) (fs t : List ℕ) (b : Bool) → ((rest : Stores) → b ≡ function_order c (names_lent rest fs t)) → not b ≡ false → (n : ℕ) → n ≡ code_start fs c.functions → n < 2 ^ 32
unfolding function_order names_lent
behind_fits c fs t b e h n en =
    let s : Stores = record { constants = []; structs = []; functions = []; text = []; main = []; main_places = []; other = []; other_places = [] } in
    let b1 = counts_ok c in let b2 = text_ok c t in let b3 = functions_ok c fs in let b4 = main_ok fs t in
    let f : functions_ok c fs ≡ true = and_right (b1 && b2) b3 (and_left (b1 && b2 && b3) b4 (sym (e s) ∙ not-false b h)) in
    let l : code_start fs c.functions ≤ 0xFFFF_FFFF = start_below c fs f c.functions (omega arith) in
    rw en (omega arith)

module _ (running : Bool) (c : Counts) (name : List ℕ) (s : Stores) (b : Bool) (e : b ≡ function_order c s) where
  pub begin_19 : not b ≡ true → Is (begin_function_of running c name s) (Err why.NotInOrder) s
  unfolding begin_function_of
  begin_19 h = record { means = rw (← e, not-true b h) }

  pub begin_25 : not b ≡ false → running ≡ true → Is (begin_function_of running c name s) (Err why.RunUnderWay) s
  unfolding begin_function_of
  begin_25 h r = record { means = rw (← e, not-false b h, r) }

  module _ (h : not b ≡ false) (idle : running ≡ false) where
    pub begin_22 : 65536 ≤ c.functions → Is (begin_function_of running c name s) (Err why.OverLimit) s
    unfolding begin_function_of
    begin_22 l = record { means = rw (← e, not-false b h, idle, le-leb _ _ l) }

    module _ (l : c.functions < 65536) (r : ℕ) (er : r ≡ places 2 s.functions) where
      pub begin_21 : r ≤ c.functions → Is (begin_function_of running c name s) (Err why.StoreFull) s
      unfolding begin_function_of
      begin_21 g = record { means = rw (← e, not-false b h, idle, lt-leb _ _ l, ← er, le-leb _ _ g) }

      module _ (g : c.functions < r) (q : Bool) (eq : q ≡ text_room c s (length name)) where
        pub begin_text_21 : q ≡ false → Is (begin_function_of running c name s) (Err why.StoreFull) s
        unfolding begin_function_of
        begin_text_21 k = record { means = rw (← e, not-false b h, idle, lt-leb _ _ l, ← er, lt-leb _ _ g, ← eq, k) }

        pub begin_done : q ≡ true → (at w v : ℕ) (fs t : List ℕ) → at ≡ code_start s.functions c.functions → t ≡ written s.text c.text name
            → w ≡ pack c.text (length name) → v ≡ pack at 0 → fs ≡ put_words s.functions c.functions w v
            → Is (begin_function_of running c name s) (Ok (counts c.constants c.structs (c.functions + 1) (c.text + length name) c.functions, c.functions)) (with_functions fs (with_text t s))
        unfolding begin_function_of begun other_taken
        begin_done k at w v fs t ea et ew ev ef = record { means = rw (← e, not-false b h, idle, lt-leb _ _ l, ← er, lt-leb _ _ g, ← eq, k, et, ef, ew, ev, ea, add-one) }
