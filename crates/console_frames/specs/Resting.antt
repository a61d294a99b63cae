-- The frames rest between calls in words, four to a frame. For a call they are laid as records, and after it they are kept in words again:
-- from the last to the first.
use Rattle.std.specs.Prelude.{List, ℕ, zero, suc, length, get_or, set}
use Rattle.model.specs.declared.Frame.{Frame}
use Rattle.frames.specs.Links.{no_frame}
use Rattle.console_damage.specs.Damage.{frame_in, frame_at}

-- the first n records are the frames that rest in words
unfoldable pub laid : (n : ℕ) (words : List ℕ) (frames : List Frame) → List Frame
laid zero words frames = frames
laid (suc n) words frames = laid n words (set frames n (frame_in words n))

-- the words with the first n frames in them
unfoldable pub kept : (n : ℕ) (frames : List Frame) (words : List ℕ) → List ℕ
kept zero frames words = words
kept (suc n) frames words = kept n frames (frame_at words n (get_or frames n no_frame))

-- all of them
unfoldable pub all_laid : (words : List ℕ) (frames : List Frame) → List Frame
all_laid words frames = laid (length frames) words frames

unfoldable pub all_kept : (frames : List Frame) (words : List ℕ) → List ℕ
all_kept frames words = kept (length frames) frames words
