-- What the contracts cite beside the model: a frame store judged by the functions' words, and a backtrace in numbers.
use Rattle.std.specs.Prelude.{Bool, true, ◌&&◌, List, [], ◌∷◌, ◌++◌, map, ℕ, zero, suc, ◌+◌, ◌-◌, ◌*◌, ◌<◌, ◌≤◌, min, ltb, leb, eqb, length, get_or, take, drop, if◌then◌else◌}
use Rattle.model.specs.declared.Frame.{Frame}
use Rattle.model.specs.Basics.{every_from}
use Rattle.model.specs.Values.{most_places}
use Rattle.model.specs.Stores.{start, size, code_word}
use Rattle.model.specs.Runs.{unentered}
unfoldable pub use Rattle.model.specs.Basics.{written}
unfoldable pub use Rattle.model.specs.Machines.{entry_words}

-- what reading past the frames gives: no contract lets it happen
abbrev pub no_frame : Frame
no_frame = record { function = 0; position = 0; base = 0; entered = 0 }

-- ---- good order of n frames: the model's `frame_store_ok`, where functions are counted, and a code's length is read from the functions' words

-- a known function, a base within the stack store, a position of at most 131,070
unfoldable pub frame_good : ℕ → ℕ → Frame → Bool
frame_good count slots r = ltb r.function count && leb r.base slots && leb r.position 131070

-- at place 0: function 0 with base 0; at another: entered no earlier than its caller
unfoldable pub entered_good : (place caller : ℕ) → Frame → Bool
entered_good i caller r = if eqb i 0 then eqb r.function 0 && eqb r.base 0 else leb caller r.entered

-- at a place that is not the last of n: behind an instruction of its code
unfoldable pub caller_good : List ℕ → ℕ → ℕ → Frame → Bool
caller_good words n i r = if ltb (i + 1) n then leb 1 r.position && leb r.position (size (code_word words r.function)) else true

-- the frame at place i of n, behind a caller that was entered at so many units
unfoldable pub place_good : List ℕ → (count slots n place caller : ℕ) → Frame → Bool
place_good words count slots n i caller r = frame_good count slots r && entered_good i caller r && caller_good words n i r

-- when the frame before place i was entered; 0 where there is none
unfoldable pub caller_entered : List Frame → ℕ → ℕ
caller_entered frames zero = 0
caller_entered frames (suc i) = (get_or frames i no_frame).entered

unfoldable pub frames_good : List ℕ → ℕ → ℕ → ℕ → List Frame → Bool
frames_good words count slots n frames =
    leb 1 n
    && leb n (min (length frames) most_places)
    && every_from n 0 (λ i. place_good words count slots n i (caller_entered frames i) (get_or frames i no_frame))

-- ---- a run's beginning

-- the first n frames unentered, and those behind them as they were
unfoldable pub all_unentered : ℕ → List Frame → List Frame
all_unentered n frames = map unentered (take n frames) ++ drop n frames

-- ---- a backtrace in numbers, three to an entry: the function, the place and when it was entered

-- the callers of the innermost frame, innermost first: in the store it stands last
unfoldable pub callers_of : ℕ → List Frame → List Frame
callers_of zero frames = []
callers_of (suc n) frames = get_or frames n no_frame ∷ callers_of n frames

-- the places of main and of the others stand in separate stores
unfoldable pub places_of : List ℕ → List ℕ → Frame → List ℕ
places_of main other r = if eqb r.function 0 then main else other

-- where the place of code byte position less 1 stands, or of byte 0 at position 0
unfoldable pub place_at : List ℕ → Frame → ℕ
place_at words r = start (code_word words r.function) + (r.position - 1)

unfoldable pub place_of : List ℕ → List ℕ → List ℕ → Frame → ℕ
place_of words main other r = get_or (places_of main other r) (place_at words r) 0

unfoldable pub trace_words : List ℕ → List ℕ → List ℕ → List Frame → List ℕ
trace_words words main other [] = []
trace_words words main other (r ∷ rs) = r.function ∷ place_of words main other r ∷ r.entered ∷ trace_words words main other rs

-- every frame's place lies inside its code: the model's `traceable`, by the functions' words
unfoldable pub inside_good : List ℕ → Frame → Bool
inside_good words r = ltb (r.position - 1) (size (code_word words r.function))

unfoldable pub trace_good : List ℕ → List Frame → Bool
trace_good words [] = true
trace_good words (r ∷ rs) = inside_good words r && trace_good words rs

-- what can be read of a frame: its function's words, its place
pub record Readable (words main other : List ℕ) (r : Frame) : Type 0 where
  pub known : 2 * r.function + 1 < length words
  pub inside : place_at words r < length (places_of main other r)

pub record TraceFits (words main other : List ℕ) (inner : Frame) (callers : ℕ) (frames : List Frame) (room : ℕ) : Type 0 where
  pub fits : 3 * callers + 3 ≤ room
  pub there : callers ≤ length frames
  pub first : Readable words main other inner
  pub each : (i : ℕ) → i < callers → Readable words main other (get_or frames i no_frame)
