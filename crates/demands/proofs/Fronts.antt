-- Stores that are the same below a count stand for the same things.
use mathlib.Core.Path.{◌≡◌, refl, sym, ap, ◌∙◌}
use mathlib.Core.Bool.{Bool, ◌&&◌}
use mathlib.Core.List.{List, reverse}
use Prim.Native.Nat.{ℕ, zero, suc, ◌+◌, ◌-◌, ◌*◌, ◌≤◌, ◌<◌}
use native.Mathlib.Omega.{arith}
use lib.ListN.{length, get_or, take}
use lib.Seq.{get_or-take, take-take}
use Rattle.model.specs.declared.Frame.{Frame}
use Rattle.model.specs.Basics.{every_from}
use Rattle.model.specs.Values.{places, kind_at, payload_at, value_at, vals, exact_value}
use Rattle.model.specs.Heap.{Cell, cell_at, cells_from, heap_of, exact_cells, placed_below}
use Rattle.model.specs.Programs.{Function}
use Rattle.model.specs.Runs.{root}
use Rattle.model.specs.Orders.{cells_ok, stack_ok, frame_store_ok}
use Rattle.model.specs.Machines.{Lent, frame_room, innermost, callers_in}
use Rattle.model.specs.Readers.{value_shown}
use Rattle.demands.specs.Agree.{Front, Alike, Rooms}

pub front_of : {A : Type 0} {n : ℕ} {a b : List A} → Alike n a b → Front n a b
front_of k = record { front = k.front }

pub front_at : {A : Type 0} {n : ℕ} {a b : List A} → Front n a b → (j : ℕ) (d : A) → j < n → get_or a j d ≡ get_or b j d
front_at {A} {n} {a} {b} k j d h = sym (get_or-take n a j d h) ∙ ap (λ (l : List A). get_or l j d) k.front ∙ get_or-take n b j d h

-- and fewer of them
pub front_less : {A : Type 0} {n c : ℕ} {a b : List A} → n ≤ c → Front c a b → Front n a b
front_less {n = n} {c = c} {a = a} {b = b} h k = record { front = sym (take-take n c a h) ∙ ap (take n) k.front ∙ take-take n c b h }

pub alike_less : {A : Type 0} {n c : ℕ} {a b : List A} → n ≤ c → Alike c a b → Alike n a b
alike_less h k = record { front = (front_less h (front_of k)).front; room = k.room }

pub alike_back : {A : Type 0} {n : ℕ} {a b : List A} → Alike n a b → Alike n b a
alike_back k = record { front = sym k.front; room = sym k.room }

-- stores of the same lengths, one after another
pub rooms_back : {l k : Lent} → Rooms l k → Rooms k l
rooms_back r = record { stack = sym r.stack; cells = sym r.cells; frames = sym r.frames; copy = sym r.copy; backtrace = sym r.backtrace }

pub rooms_then : {l k j : Lent} → Rooms l k → Rooms k j → Rooms l j
rooms_then r q = record {
  stack = r.stack ∙ q.stack;
  cells = r.cells ∙ q.cells;
  frames = r.frames ∙ q.frames;
  copy = r.copy ∙ q.copy;
  backtrace = r.backtrace ∙ q.backtrace;
}

pub alike_same : {A : Type 0} (n : ℕ) (a : List A) → Alike n a a
alike_same n a = record { front = refl; room = refl }

pub every_alike : (n i : ℕ) (t u : ℕ → Bool) → ((j : ℕ) → j < i + n → t j ≡ u j) → every_from n i t ≡ every_from n i u
unfolding every_from
every_alike zero i t u h = refl
every_alike (suc n) i t u h = rw (h i (omega arith), every_alike n (suc i) t u (λ j l. h j (omega arith)))

module _ (a b : List ℕ) (room : length a ≡ length b) where
  pub places_alike : (w : ℕ) → places w a ≡ places w b
  unfolding places
  places_alike zero = refl
  places_alike (suc w) = rw room

-- c places that are the same, however long the stores
module _ (c : ℕ) {a b : List ℕ} (k : Front (2 * c) a b) where
  pub kind_alike : (i : ℕ) → i < c → kind_at a i ≡ kind_at b i
  unfolding kind_at
  kind_alike i h = front_at k (2 * i) 0 (omega arith)

  pub payload_alike : (i : ℕ) → i < c → payload_at a i ≡ payload_at b i
  unfolding payload_at
  payload_alike i h = front_at k (2 * i + 1) 0 (omega arith)

  pub value_alike : (i : ℕ) → i < c → value_at a i ≡ value_at b i
  unfolding value_at
  value_alike i h = rw (kind_alike i h, payload_alike i h)

  pub shown_alike : (i : ℕ) → i < c → value_shown a i ≡ value_shown b i
  unfolding value_shown
  shown_alike i h = rw (kind_alike i h, payload_alike i h, value_alike i h)

  cell_alike : (i : ℕ) → i < c → cell_at a i ≡ cell_at b i
  unfolding cell_at
  cell_alike i h = rw (kind_alike i h, payload_alike i h)

  vals_to : (n : ℕ) → n ≤ c → vals n a ≡ vals n b
  unfolding vals
  vals_to zero h = refl
  vals_to (suc n) h = rw (value_alike n (omega arith), vals_to n (omega arith))

  pub vals_alike : vals c a ≡ vals c b
  vals_alike = vals_to c (omega arith)

  cells_to : (n i : ℕ) → i + n ≤ c → cells_from n i a ≡ cells_from n i b
  unfolding cells_from
  cells_to zero i h = refl
  cells_to (suc n) i h = rw (cell_alike i (omega arith), cells_to n (suc i) (omega arith))

  pub heap_to : (n : ℕ) → n ≤ c → heap_of n a ≡ heap_of n b
  unfolding heap_of
  heap_to n h = cells_to n 0 (omega arith)

  pub heap_alike : heap_of c a ≡ heap_of c b
  heap_alike = heap_to c (omega arith)

  exact_to : (n i : ℕ) → i + n ≤ c → exact_cells n i a ≡ exact_cells n i b
  unfolding exact_cells
  exact_to zero i h = refl
  exact_to (suc n) i h = rw (kind_alike i (omega arith), payload_alike i (omega arith), exact_to n (suc i) (omega arith))

  pub exact_alike : exact_cells c 0 a ≡ exact_cells c 0 b
  exact_alike = exact_to c 0 (omega arith)

-- and stores as long
module _ (c : ℕ) {a b : List ℕ} (k : Alike (2 * c) a b) where
  pub cells_alike : (t : ℕ) → cells_ok t c a ≡ cells_ok t c b
  unfolding cells_ok
  cells_alike t = rw (places_alike a b k.room 2, exact_alike c (front_of k), heap_alike c (front_of k))

  pub stack_alike : (t : ℕ) (H : List Cell) → stack_ok t H c a ≡ stack_ok t H c b
  unfolding stack_ok
  stack_alike t H =
      rw (
        places_alike a b k.room 2,
        every_alike c 0 (λ i. exact_value (kind_at a i) (payload_at a i) && placed_below t H (length H) (value_at a i))
            (λ i. exact_value (kind_at b i) (payload_at b i) && placed_below t H (length H) (value_at b i))
            (λ i h. rw (kind_alike c (front_of k) i (omega arith), payload_alike c (front_of k) i (omega arith), value_alike c (front_of k) i (omega arith))),
      )

module _ {n : ℕ} {a b : List Frame} (k : Alike n a b) where
  pub room_alike : frame_room a ≡ frame_room b
  unfolding frame_room
  room_alike = rw k.room

  pub frames_alike : (fs : List Function) (room : ℕ) → frame_store_ok fs room n a ≡ frame_store_ok fs room n b
  unfolding frame_store_ok
  frames_alike fs room = rw (k.room, k.front)

module _ {n : ℕ} {a b : List Frame} (k : Front n a b) where
  pub innermost_alike : 1 ≤ n → innermost n a ≡ innermost n b
  unfolding innermost
  innermost_alike h = front_at k (n - 1) (root 0) (omega arith)

  pub callers_alike : callers_in n a ≡ callers_in n b
  unfolding callers_in
  callers_alike = ap reverse (sym (take-take (n - 1) n a (omega arith)) ∙ ap (take (n - 1)) k.front ∙ take-take (n - 1) n b (omega arith))
