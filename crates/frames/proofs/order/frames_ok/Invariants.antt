-- `frames::order::frames_ok`: what is ahead is the verdict, and the caller's number is that of the frame before the place.
use Rattle.std.proofs.Common.{◌≡◌, ◌-◌, get_or}
use Rattle.model.specs.Basics.{every_from}
use Rattle.frames.specs.Links.{no_frame, place_good, caller_entered, frames_good}
use Rattle.frames.proofs.order.frames_ok.Given as goal

abbrev pub invariant-loop-i : goal.invariant-loop-i
invariant-loop-i l = record {
  before : l.caller ≡ caller_entered l.frames l.i;
  ahead : every_from (l.n - l.i) l.i (λ j. place_good l.functions l.count l.slots l.n j (caller_entered l.frames j) (get_or l.frames j no_frame)) ≡ frames_good l.functions l.count l.slots l.n l.frames;
}
