-- ALL THAT IS PROMISED, on one page: each field is a theorem. `crates/promises/proofs/Kept.antt` keeps them all, and the runner and the lister are
-- built on that crate, so that none can go or grow weaker unseen.
use Rattle.std.specs.Prelude.{◌≡◌, Bool, true, false, ◌||◌, List, [], ◌∷◌, map, ℕ, suc, ◌+◌, ◌≤◌, ◌<◌, ◌^◌, eqb, length, take, Ok, Option, Result}
use Rattle.std.proofs.Math.Option.{Option as Maybe, some}
use Rattle.model.specs.declared.Op.{Op}
use Rattle.model.specs.declared.Decoded.TheVariants as d
use Rattle.model.specs.declared.Counts.{Counts}
use Rattle.model.specs.declared.Vm.{Vm}
use Rattle.model.specs.declared.Fault.{Fault}
use Rattle.model.specs.declared.Frame.{Frame}
use Rattle.model.specs.declared.Tally.{Tally}
use Rattle.model.specs.declared.Value.TheVariants as v
use Rattle.model.specs.Basics.{written}
use Rattle.model.specs.Numbers.{Bytes}
use Rattle.model.specs.Answers.{refusal_number}
use Rattle.model.specs.Values.{text_at}
use Rattle.model.specs.Heap.{Cell, heap_ok}
use Rattle.model.specs.Trees.{Tree}
use Rattle.model.specs.Programs.{Program, opcode_in, next_in}
use Rattle.model.specs.Images.{image_of, fine, judge, Sound}
use Rattle.model.specs.Stores.{Stores, program_in}
use Rattle.model.specs.Orders.{program_ok}
use Rattle.model.specs.Loading.{room_for, load_of, save_of, put_out}
use Rattle.model.specs.Steps.{World, State, position, code_of, went, faulted, exec_of, step_of}
use Rattle.model.specs.Listings.{text, unlisted, listing_of}
use Rattle.model.specs.Runs.{Machine, Progress, Entry, fault, Ran, begin, machine_of as machineAt, over, end_of, root, Under, Part, pauses, part_of, begin_of, continue_of, abandon_of, dealt, given_up, run_of, at_start, continue, ends}
use Rattle.model.specs.Machines.{Lent, innermost, unchanged, set_strict as setStrictOf, RunCall, RunPost, fresh, load_machine_of}
use Rattle.model.specs.Examples.{Example, examples}
use Rattle.model.specs.Entries.{Row as EntryRow, entries}
use Rattle.model.specs.Mistakes.{Row, mistakes}
use Rattle.model.specs.Opcodes.{opcode_at}
use Rattle.check_rules.specs.Rules.{Heights, Passed}
use Rattle.check_rules.specs.Checks.{CheckAs}
use Rattle.check_rules.proofs.One.{SameCheck}
use Rattle.check_heights.specs.declared.Flaw.{Flaw}
use Rattle.check_heights.specs.Answer.{HeightsPost, BreaksAt}
use Rattle.check_words.specs.Words.{CheckThrough}
use Rattle.check_words.proofs.One.{SameThrough}
use Rattle.laws_installed.specs.Installed.{Installed, by_entries, FromC, UnderWay, Answers, FaultsSo, Tells, StaysWithin}
use Rattle.notes.specs.Notes.{known_of, noted_listing, noter_text}
use Rattle.noted_listing.specs.Walk.{noted_walk}
use Rattle.laws_check.specs.Row.{Tied, calls_or_returns, Counted}
use Rattle.laws_check.specs.Passed.{NeverFaultsSo, AsksInRange, RunsSo, RunsAskInRange, FramesWithin, EndsInMain}
use Rattle.laws_checks.specs.Table.{checks_of, first_failed, Keeps}
use Rattle.laws_code.specs.Walk.{shown_from, walked}
use Rattle.laws_runs.specs.Sane.{SaneWorld, Sane}
use Rattle.laws_runs.specs.Ordered.{CodeBytes}
use Rattle.laws_runs.specs.Paths.{Steps, root_returns}
use Rattle.laws_runs.specs.Parts.{SaneUnder, sum_of}
use Rattle.laws_runs.specs.Entered.{entered_in, noted_along, Watched}
use Rattle.laws_runs.specs.Demand.{Recovered}
use Rattle.laws_runs.specs.Strict.{set_to}
use Rattle.laws_meaning.specs.Alike.{Layout, laid_out, Both, AlikeConstants, AlikeMachine, AlikeUnder}
use Rattle.laws_meaning.specs.Blocks.{AlikeBlock}
use Rattle.laws_meaning.specs.Answers.{AlikeRan, AlikePart}
use Rattle.laws_rust.specs.Vm as rust
use Rattle.laws_rust.specs.Same.{rust_of, rust_at, Agrees, RunAs, Ends, Unlimited, AnswersAs, Means}
use Rattle.image.specs.Loads.{Below, LoadsAs}
use Rattle.demands.specs.Host.{Held, Ask, Call, run, ask, new, load, set_strict, Answer, started, done, After, RanBy, Chain}
use Rattle.demands.specs.Refusals.{Demand1, refused_by}
use Rattle.demands.specs.Kept.{InOrder}
use Rattle.demands.specs.Jobs.{AllTyped, anew}
use Rattle.demands.specs.Meant.{Fine, world_in, machine_of, under_of, AsLong, AlikeHeld, AlikeChains, said}
use Rattle.demands.specs.Parts.{Parts, Over, CameTo, PausedAtThirteen, IsOne, StandsBefore, units_given, Onward, SameParts, SameEnd}
use Rattle.demands.specs.Units.{RunIs, Demand2, SpentBetween, Costs, pairs_at, spent_on}
use Rattle.demands.specs.Trees.{AsTrees}
use Rattle.demands.specs.Recovery.{Recovers, SetUp, Demand3}
use Rattle.demands.specs.Agree.{Rooms, Agree, SameChain}
use Rattle.demands.specs.Relent.{Relent, StandsFor, ChainAnew, said_anew}
use Rattle.demands.specs.One.{SameRun}
use Rattle.embed_words.specs.Coding.{Coded, vm_in, vm_words, TypedLast, RecordOf, record_ok}
use Rattle.laws_hosts.specs.Hosts.{CHeld, CDone, Through}
use Rattle.laws_hosts.specs.Crossed.{held_in, Taken, Handed, ExactIf, way_of, Crossed, MadeIn, SetIn, CDemand1, Short, NotTaken}
use Rattle.laws_hosts.specs.Chains.{Called, CChain, HostChain, SameSaid, Waiting, Faulted, CDemand3}
use Rattle.model.specs.declared.Halt.{Halt}
use Rattle.model.specs.declared.Refusal.{Refusal}
use Rattle.check_rules.specs.declared.Rejected.{Rejected}

pub record Promises : Type 0 where
  -- ---- DEMAND 1: no code, image or lent store makes it misbehave or run on

  -- a call is refused by the first of its checks that fails, and by no other number; a refusal changes nothing
  pub refuses : (c : Call) (h h' : Held) (a : Answer) → After c h a h' → Demand1 c h a h'
  -- with u units there are never more than u written steps
  pub steps_within : (w : World) (m : Machine) (u n : ℕ) (j k : Progress) (t : State) → Steps w n j (begin m u) k t → n ≤ u
  -- the listing's own refusal is 1 or 3
  pub listing_numbers : (p : Program) (before : List ℕ) (e : Refusal) → listing_of p ≡ unlisted before e → (eqb (refusal_number e) 1 || eqb (refusal_number e) 3) ≡ true
  -- a machine that was made is in good order, whatever the host held before
  pub new_in_order : (h h' : Held) (m : Vm) → After (ask new) h (started (Ok m)) h' → InOrder h'
  pub load_in_order : (h h' : Held) (m : Vm) (image : List ℕ) → Bytes image → After (ask (load image)) h (started (Ok m)) h' → InOrder h'
  -- every call keeps it so, and no call of a run is then refused 19
  pub chain_kept : (calls : List Call) (h k : Held) (xs : List Answer) → AllTyped calls → Chain calls h xs k → InOrder h → InOrder k
  -- and code stays bytes
  pub fine_kept : (c : Call) (a : Answer) (h h' : Held) → AllTyped (c ∷ []) → After c h a h' → Fine h → Fine h'
  pub run_in_order : (c : RunCall) (h h' : Held) (a : Answer) → InOrder h → RanBy c h a h' → refused_by a ≡ some 19 → ⊥
  -- ---- DEMAND 2: answer, stack, frames and last result are the Rust's own; every step is a written one

  -- in as many turns as there are units and one, and in any more, the Rust comes to what the run comes to, and leaves its machine
  pub as_the_rust : (h : Held) → Fine h → (u turns : ℕ)
      → RunAs (world_in h) (run_of (world_in h) (machine_of h) u).machine (end_of (world_in h) (begin (machine_of h) u))
      (rust.run (suc u + turns) (rust_of (world_in h) (machine_of h)))
  -- and the other way: whatever the Rust comes to, in however many turns, the run answers so where it meets no limit nor, on a strict machine, 26
  pub from_the_rust : (h : Held) → Fine h → (u turns : ℕ) → Unlimited (world_in h) (end_of (world_in h) (begin (machine_of h) u))
      → AnswersAs (world_in h) (run_of (world_in h) (machine_of h) u) (rust.run turns (rust_of (world_in h) (machine_of h)))
  -- what the Rust answers is what the run answers, and it leaves the same machine
  pub ok_same : (w : World) → SaneWorld w → length w.functions ≤ 65536 → (m : Machine) (u : ℕ) → Sane w (begin m u) → Unlimited w (end_of w (begin m u))
      → (turns : ℕ) (x : Maybe Tree) (vm : rust.Vm) → rust.run turns (rust_of w m) ≡ rust.ok x vm
      → Means w (run_of w m u).machine (run_of w m u).reply x × (vm ≡ rust_of w (run_of w m u).machine)
  -- 26 is not the Rust's: no machine that is not strict faults by it; and where a strict one does not, it does as one that is not strict
  pub a_machine_not_strict_never_faults_by_26 : (w : World) → w.strict ≡ false → (m : Machine) (u : ℕ) (did : Tally) (trace : List Entry)
      → (run_of w m u).reply ≡ fault 26 did trace → ⊥
  pub a_strict_run_does_as_any_other_unless_it_ends_in_26 : (w : World) (m : Machine) (u : ℕ)
      → ((did : Tally) (trace : List Entry) → (run_of (set_to true w) m u).reply ≡ fault 26 did trace → ⊥) → run_of (set_to true w) m u ≡ run_of (set_to false w) m u
  -- more turns change nothing of what the Rust has come to
  pub more_turns : (n k : ℕ) (vm : rust.Vm) → Ends (rust.run n vm) → rust.run (n + k) vm ≡ rust.run n vm
  -- step for step: a step of the rules does what a turn of the Rust's loop does
  pub step_same : (w : World) → SaneWorld w → length w.functions ≤ 65536 → (s : State) → Sane w s → over w s ≡ false → Agrees w (step_of w s) (rust.turn (rust_at w s))
  -- what the calls of a run come to is a path of written steps, with their units and root Returns: where it is over, and where it is paused
  pub run_written : (h k : Held) (u : ℕ) (x : Ran) → Over h u x k → Demand2 h.vm h.stores h.lent u (unchanged k.vm) x
  pub pause_written : (h k : Held) (g : ℕ) (r : Under) → Parts h g (pauses r) k → StandsBefore h g k
  -- so is one run by the rules
  pub run_is_steps : (w : World) (m : Machine) (u : ℕ) → RunIs w m u (run_of w m u)
  -- each root Return and each unit that it tells is that of a step; what is no longer left is spent
  pub returns_counted : (w : World) (n : ℕ) (m k : Progress) (s t : State) (p : Steps w n m s k t) → k.returns ≡ m.returns + root_returns p
  pub step_cost : (w : World) (s : State) → Costs (suc (pairs_at w s)) s (step_of w s)
  pub fault_cost : (w : World) (s : State) (n : Fault) (t : State) → step_of w s ≡ faulted n t → SpentBetween 1 s t
  pub path_units : (w : World) (n : ℕ) (m k : Progress) (s t : State) (p : Steps w n m s k t) → SpentBetween (spent_on p) s t
  -- each frame tells how many units were spent when the step that entered it had completed: along written steps, however units are dealt out, and in a
  -- backtrace
  pub every_frame_tells_when_it_was_entered : (w : World) (n : ℕ) (m k : Progress) (s t : State) (p : Steps w n m s k t) → entered_in t ≡ noted_along p (entered_in s)
  pub a_paused_run_tells_when_its_frames_were_entered : (w : World) (m : Machine) (u : ℕ) (us : List ℕ) (r : Under) → dealt w (begin_of w m) (u ∷ us) ≡ pauses r
      → Watched w m (sum_of (u ∷ us)) r.state
  pub a_backtrace_tells_when_its_frames_were_entered : (w : World) (m : Machine) (u n : ℕ) (did : Tally) (trace : List Entry) (r : Recovered w m u n did trace)
      → map (λ (e : Entry). e.entered) trace ≡ noted_along r.path (entered_in (begin m u))
  -- an instruction faults exactly if a check of its row fails, and by the number of the first that does
  pub keeps_the_table : (w : World) (op : Op) (a b : ℕ) (s : State) → Keeps (first_failed w s (checks_of op s.frame.base a b)) (exec_of w op a b s)
  -- a step of an opcode goes on from where the walk over instructions stands next, and a listing shows a line for each place where that walk stands
  pub step_takes_the_walk : (w : World) (s : State) (p : Op) → (s.units ≡ 0 → ⊥) → (opcode_in (code_of w s) (position s)).what ≡ d.Carried p
      → next_in (code_of w s) (position s) ≤ length (code_of w s) → step_of w s ≡ walked w p s
  pub listing_shows_the_walk : (p : Program) (t : List ℕ) → listing_of p ≡ text t → t ≡ shown_from 0 p.functions
  -- in good order comparisons, lists, structs and fields are those of trees
  pub as_trees : (w : World) (s : State) → Sane w s → AsTrees w s
  -- ---- A RUN IN PARTS: begun, continued with units, and abandoned where it is paused

  -- "A run begun with its position at or past the end is over at once, with 'continue'", and nothing changes but when its frames were entered, which is
  -- then 0; any other is paused before its first instruction
  pub a_run_begun_at_its_end_is_over_at_once : (w : World) (m : Machine) → over w (begin m 0) ≡ true
      → begin_of w m ≡ ends (record { reply = continue (record { spent = 0; returns = 0 }); machine = machineAt (begin m 0) })
  pub a_run_begun_before_an_instruction_is_paused_there : (w : World) (m : Machine) → over w (begin m 0) ≡ false
      → begin_of w m ≡ pauses (record { given = 0; start = m.stack; progress = at_start (begin m 0); state = begin m 0 })
  -- however units are dealt out, zero among them, a run comes to what it comes to with their sum at once; abandoned where it is paused it is one run
  pub dealt_as_one : (w : World) (m : Machine) (u : ℕ) (us : List ℕ) → dealt w (begin_of w m) (u ∷ us) ≡ part_of w m.stack (sum_of (u ∷ us)) (end_of w (begin m (sum_of (u ∷ us))))
  pub parts_are_one_run : (w : World) (m : Machine) (us : List ℕ) → given_up w (dealt w (begin_of w m) us) ≡ run_of w m (sum_of us)
  -- the same over calls, whatever other calls come in between
  pub parts_come_to : (h k : Held) (g : ℕ) (x : Part) → Parts h g x k → CameTo h g x k
  pub over_is_one : (h k : Held) (g : ℕ) (x : Ran) → Over h g x k → IsOne h g x k
  -- paused where that run ends in 13, and nowhere else
  pub paused_where_one_run_ends_in_13 : (h k : Held) (g : ℕ) (x : Part) → Parts h g x k → PausedAtThirteen (run_of (world_in h) (machine_of h) g).reply x
  -- and any call may come: where a run is paused, it is then paused still or over
  pub any_call_goes_on : (h k k' : Held) (g : ℕ) (r : Under) → Parts h g (pauses r) k → (c : Call) (a : Answer) → After c k a k' → Onward h (g + units_given c a) k'
  -- no call but those of the run changes anything: readers look, and all else is refused
  pub kept_while_running : (h : Held) → h.vm.run.on ≡ true → (q : Ask) → (done q h).held ≡ h
  -- two ways to deal out the same sum come to the same, and leave what no answer tells apart
  pub dealings_agree : (h k d : Held) (g : ℕ) (x y : Part) → Parts h g x k → Parts h g y d → SameParts x y k d
  pub dealt_ends_agree : (h k d : Held) (g : ℕ) (x y : Ran) → Over h g x k → Over h g y d → SameEnd x y k d
  -- more units change nothing of a run that does not end in 13: by the rules, and over calls
  pub more_units : (w : World) (d : ℕ) (m : Machine) (u : ℕ) → ((did : Tally) (trace : List Entry) → (run_of w m u).reply ≡ fault 13 did trace → ⊥) → run_of w m (u + d) ≡ run_of w m u
  pub more_units_change_nothing : (h k d : Held) (g i : ℕ) (x y : Ran) → ((did : Tally) (trace : List Entry) → x.reply ≡ fault 13 did trace → ⊥)
      → Over h g x k → Over h (g + i) y d → SameEnd x y k d
  -- ---- THE RETURN TRIP: reading a rule image and saving it undo each other; one program has one image

  pub image_back : (p : Program) → Sound p → judge (image_of p) ≡ fine p
  pub image_only : (b : List ℕ) (p : Program) → Bytes b → judge b ≡ fine p → (b ≡ image_of p) × Sound p
  pub one_program_one_image : (p q : Program) → Sound p → Sound q → (p ≡ q → image_of p ≡ image_of q) × (image_of p ≡ image_of q → p ≡ q)
  pub load_then_save : (b : List ℕ) (x y : Stores) (c : Counts) (out : List ℕ) → Bytes b → load_of b x ≡ record { answer = Ok c; stores = y } → save_of c y out ≡ put_out b out
  pub save_then_load : (c : Counts) (x : Stores) → program_ok c x ≡ true → Below (2 ^ 64) x.constants → Below (2 ^ 32) x.main_places → Below (2 ^ 32) x.other_places
      → Sound (program_in c x) × (judge (image_of (program_in c x)) ≡ fine (program_in c x))
  -- through the entries: the n bytes that `save` wrote are accepted by `load` in any stores that have the room, and what it leaves stands for the same program
  pub saved_loads : (c : Counts) (x y : Stores) (out out' : List ℕ) (n : ℕ) → save_of c x out ≡ record { answer = Ok n; out = out' }
      → Below (2 ^ 64) x.constants → Below (2 ^ 32) x.main_places → Below (2 ^ 32) x.other_places
      → room_for (program_in c x) y ≡ true → LoadsAs (program_in c x) (take n out') y
  -- ---- DEMAND 3: what a run that ends in a fault or is abandoned leaves, and what every later call then says

  pub fault_leaves : (h k : Held) (u n : ℕ) (did : Tally) (trace : List Entry) (x : Ran) → Over h u x k → x.reply ≡ fault n did trace
      → Recovers h.vm h.stores h.lent u k.vm n did trace k.lent
  pub fault_recovers : (h k : Held) (u n : ℕ) (did : Tally) (trace : List Entry) (x : Ran) → Over h u x k → x.reply ≡ fault n did trace → Demand3 u h n did trace k
  pub chain_alike : (again : Bool) (cs : List Call) (h d e f : Held) (xs ys : List Answer) → AlikeHeld again h d → (anew cs ≡ true → again ≡ true) → AllTyped cs
      → (p : Chain cs h xs e) (q : Chain cs d ys f) → AlikeChains again p q
  -- runs of machines that mean the same, wherever their texts and cells lie: begun, continued and abandoned they come to the same by meaning
  pub begin_alike : (w : World) (o : Layout) → SaneWorld w → SaneWorld (laid_out o w) → AlikeConstants w o → (m m' : Machine) → Sane w (begin m 0) → Sane (laid_out o w) (begin m' 0)
      → AlikeMachine w o m m' → AlikePart w o (begin_of w m) (begin_of (laid_out o w) m')
  pub continue_alike : (w : World) (o : Layout) → SaneWorld w → SaneWorld (laid_out o w) → AlikeConstants w o → (r r' : Under) → SaneUnder w r → SaneUnder (laid_out o w) r'
      → AlikeUnder w o r r' → (u : ℕ) → AlikePart w o (continue_of w r u) (continue_of (laid_out o w) r' u)
  pub abandon_alike : (w : World) (o : Layout) → SaneWorld w → SaneWorld (laid_out o w) → AlikeConstants w o → (r r' : Under) → SaneUnder w r → SaneUnder (laid_out o w) r'
      → AlikeUnder w o r r' → AlikeRan w o (abandon_of w r) (abandon_of (laid_out o w) r')
  -- of two values that mean the same a host reads the same: one header and elements that mean the same, the same bytes
  pub lists_alike : (t t' : List ℕ) (H H' : List Cell) → heap_ok (length t) H ≡ true → heap_ok (length t') H' ≡ true → (p p' : ℕ)
      → Both t t' H H' (v.List p) (v.List p') → AlikeBlock t t' H H' p p'
  pub structs_alike : (t t' : List ℕ) (H H' : List Cell) → heap_ok (length t) H ≡ true → heap_ok (length t') H' ≡ true → (p p' : ℕ)
      → Both t t' H H' (v.StructInstance p) (v.StructInstance p') → AlikeBlock t t' H H' p p'
  pub strings_alike : (t t' : List ℕ) (H H' : List Cell) (o n o' n' : ℕ) → Both t t' H H' (v.String o n) (v.String o' n') → text_at t o n ≡ text_at t' o' n'
  pub references_alike : (t t' : List ℕ) (H H' : List Cell) (o n o' n' : ℕ) → Both t t' H H' (v.FunctionReference o n) (v.FunctionReference o' n')
      → text_at t o n ≡ text_at t' o' n'
  -- a machine in another place, with its run under way, means the same as itself
  pub self_alike : (again : Bool) (h d : Held) → Fine h → Fine d → d.vm.program ≡ h.vm.program → d.vm.strict ≡ h.vm.strict → d.stores ≡ h.stores
      → Rooms d.lent h.lent → d.vm.run.on ≡ h.vm.run.on → under_of d ≡ under_of h → AlikeHeld again h d
  -- two machines set up in one state mean the same
  pub set_up_alike : (again : Bool) (x : Machine) (h k d : Held) → SetUp x h k → SetUp x h d → Fine k → Fine d → AlikeHeld again k d
  -- whatever lies past the counts is not seen: the same calls answer the same, in the same words, and leave what agrees again
  pub chains_agree : (calls : List Call) (h k e f : Held) (xs ys : List Answer) → Agree h k → Chain calls h xs e → Chain calls k ys f → SameChain xs ys e f
  pub past_counts_unseen : (calls : List Call) (h k e f : Held) (xs ys : List Answer) → Agree h k → Chain calls h xs e → Chain calls k ys f → xs ≡ ys
  -- ---- STORES LENT ANEW, between two calls: elsewhere or longer, the same below the counts

  -- good order is kept, and they stand for the same program and the same machine, with its run under way
  pub relent_stands : (h k : Held) → InOrder h → Relent h k → StandsFor h k
  -- it is the same machine of the Rust's: by `as_the_rust` and `from_the_rust` both runs come to what the Rust comes to, where neither meets a limit
  pub relent_rust : (h k : Held) → InOrder h → Relent h k → rust_of (world_in k) (machine_of k) ≡ rust_of (world_in h) (machine_of h)
  -- stores as long: the machines mean the same, so that by `chain_alike` every later call says the same
  pub relent_alike : (again : Bool) (h k : Held) → Fine h → CodeBytes k.stores → Relent h k → AsLong k.stores h.stores → Rooms k.lent h.lent → AlikeHeld again h k
  -- and a host that lends other stores as long, before any call and as often as it likes, hears the same as one that never does
  pub relent_chain_says : (again : Bool) (cs : List Call) (h d e f : Held) (xs ys : List Answer) → AlikeHeld again h d → (anew cs ≡ true → again ≡ true) → AllTyped cs
      → (p : Chain cs h xs e) (q : ChainAnew cs d ys f) → said p ≡ said_anew q
  -- ---- THE CHECK of a rule before it is installed: what a program that keeps the six rules never does, on a freshly loaded machine and with any units

  -- faults 1 to 4 and 14 never come, and 6 only from GetUpvalue or a field: of the next step, and of a whole run
  pub passed_never_faults_so : (p : Program) → Passed p → NeverFaultsSo p
  pub passed_asks_in_range : (p : Program) → Passed p → AsksInRange p
  pub passed_runs_so : (p : Program) → Passed p → RunsSo p
  pub passed_runs_ask_in_range : (p : Program) → Passed p → RunsAskInRange p
  -- no frame exceeds its function's greatest height
  pub passed_frames_fit : (p : Program) → Passed p → FramesWithin p
  -- and it is over in main alone
  pub passed_ends_in_main : (p : Program) → Passed p → EndsInMain p
  -- what an opcode's row says that it pops, pushes and names is what its step does
  pub a_step_keeps_its_row : (k : ℕ) (p : Op) → (opcode_at k).what ≡ d.Carried p → (a b : ℕ) (w : World) (s : State) → Tied k a b w s (exec_of w p a b s)
  -- in short: where it neither calls nor returns, it pops and pushes as many values as the row says
  pub the_row_counts_the_values : (k : ℕ) (p : Op) → (opcode_at k).what ≡ d.Carried p → calls_or_returns k ≡ false → (a b : ℕ) (w : World) (s t : State)
      → exec_of w p a b s ≡ went t → Counted k a b s t
  -- through the entries: what the check passed and loaded, with one frame at the start of main, begun, continued and abandoned on any lent stores, however
  -- units are dealt out; and what loading leaves of an image whose program keeps the rules
  pub checked_runs_so : (image heights : List ℕ) (s s' : Stores) (k : Counts) (hs : List ℕ) → Bytes image → CheckAs image heights s (Ok k) hs s'
      → (e e' : Lent) → innermost 1 e.frames ≡ root 0 → (g : ℕ) (x : Result Halt Refusal) → Answers (by_entries s') (fresh k) e g x e' → FaultsSo (fresh k) s' e g e' x
  pub loaded_runs_so : (running : Bool) (image : List ℕ) (p : Program) → Bytes image → judge image ≡ fine p → Passed p → (s s' : Stores) (fs fs' : List Frame) (m : Vm)
      → load_machine_of running image s fs ≡ record { answer = Ok m; stores = s'; frames = fs' }
      → (e e' : Lent) → e.frames ≡ fs' → (g : ℕ) (x : Result Halt Refusal) → Answers (by_entries s') m e g x e' → FaultsSo m s' e g e' x
  -- the parts of a run over calls are its parts by the entries, so that this holds whatever other calls come in between
  pub parts_are_under_way : (h k : Held) (g : ℕ) (r : Under) → Parts h g (pauses r) k → UnderWay (by_entries h.stores) h.vm h.lent g k.vm k.lent
  -- and in every state of such a run no frame's part of the stack exceeds what the check told of its function, nor the stack what it told of the functions
  -- that are being called, together
  pub checked_stays_within : (image heights : List ℕ) (s s' : Stores) (k : Counts) (hs : List ℕ) → Bytes image → CheckAs image heights s (Ok k) hs s'
      → (e : Lent) → innermost 1 e.frames ≡ root 0 → StaysWithin (by_entries s') (fresh k) s' e hs
  -- the same of any machine over such a program that has not run, whatever its cells and its last result: one that was put back to the start of main, too
  pub installed_runs_so : (p : Program) → Passed p → (m : Vm) (s : Stores) (e e' : Lent) → Installed p m s e → (g : ℕ) (x : Result Halt Refusal) → Answers (by_entries s) m e g x e'
      → FaultsSo m s e g e' x
  pub installed_stays_within : (p : Program) → Passed p → (m : Vm) (s : Stores) (e : Lent) → Installed p m s e → (hs : List ℕ) → Tells p hs → StaysWithin (by_entries s) m s e hs
  -- one that a host has made strict among them: changing the setting keeps what is installed
  pub a_setting_keeps_what_is_installed : (p : Program) (m k : Vm) (s : Stores) (e : Lent) → Installed p m s e → (strict : Bool) → setStrictOf strict m s e ≡ Ok k
      → Installed p k s e
  -- ---- THE LISTING WITH NOTES: it shows a line for each place where the walk over instructions stands, and the text of every image fits its store

  pub notes_show_the_walk : (p : Program) (t : List ℕ) → noted_listing p ≡ text t → t ≡ noted_walk (known_of p) 0 p.functions
  pub noter_fits : (image : List ℕ) → Bytes image → length (noter_text image) ≤ 1048576
  -- ---- A HOST IN C: it hands back the machine by handing back the record

  -- a record of seventeen words or more, in which a machine in good order was written, as calls leave it, is taken and read back as that machine
  -- (`TypedLast`: if its last result is a scalar, it is a float of 64 bits, as its type says)
  pub record_back : (h : Held) (w : List ℕ) → InOrder h → TypedLast h.vm.last → 17 ≤ length w → RecordOf h.vm (written w 0 (vm_words h.vm))
  -- a call from C, with room for its answer, does what the entry does from what the record's words stand for, and tells its answer
  pub crossing : (a : List ℕ) (g : CHeld) → Taken g → (c : Call) → Handed c a → (d : CDone) → Through c a g d → Crossed c a g d
  -- demand 1 from C: the number is that of the first check that fails, and with any but 0 nothing has changed; a short answer is 17, behind what comes first;
  -- words that are no record are 19
  pub c_refuses : (c : Call) (a : List ℕ) (g : CHeld) (d : CDone) → Taken g → ExactIf (way_of c).value → Through c a g d → CDemand1 c a g d
  pub short_answer : (a : List ℕ) (g : CHeld) → Taken g → (c : Call) → ExactIf (way_of c).value → length a < (way_of c).room → (d : CDone) → Through c a g d → Short c a g d
  pub no_record_refused : (a : List ℕ) (g : CHeld) → record_ok g.words ≡ false → (c : Call) → anew (c ∷ []) ≡ false → (d : CDone) → Through c a g d → NotTaken c a g d
  -- over any seventeen words, a machine that was made is in good order, and its record is taken; and no call of a run over it is refused 19
  pub c_new_made : (a : List ℕ) (g : CHeld) → 17 ≤ length g.words → 1 ≤ length a → (d : CDone) → Through (ask new) a g d → d.coded.number ≡ 0 → MadeIn new a g d
  pub c_load_made : (a : List ℕ) (g : CHeld) → 17 ≤ length g.words → 1 ≤ length a → (image : List ℕ) → Bytes image → (d : CDone) → Through (ask (load image)) a g d
      → d.coded.number ≡ 0 → MadeIn (load image) a g d
  pub c_run_in_order : (c : RunCall) (a : List ℕ) (g : CHeld) (d : CDone) → InOrder (held_in g) → Taken g → Called (run c) a g d → d.coded.number ≡ 19 → ⊥
  -- where the setting was changed from C, the host holds the machine that it held, with that setting
  pub c_set_strict : (a : List ℕ) (g : CHeld) → Taken g → (strict : Bool) (d : CDone) → Through (ask (set_strict strict)) a g d → d.coded.number ≡ 0 → SetIn strict g d
  -- calls from C are host calls; they keep good order, and machines that mean the same say the same to them
  pub c_chain_is_a_chain : (cs : List Call) (g k : CHeld) (ds : List CDone) → Taken g → CChain cs g ds k → HostChain cs g ds k
  pub c_chain_kept : (cs : List Call) (g k : CHeld) (ds : List CDone) → AllTyped cs → Taken g → CChain cs g ds k → InOrder (held_in g) → InOrder (held_in k)
  pub c_chains_alike : (again : Bool) (cs : List Call) (g g' k k' : CHeld) (ds es : List CDone) → Taken g → Taken g' → AlikeHeld again (held_in g) (held_in g')
      → (anew cs ≡ true → again ≡ true) → AllTyped cs → CChain cs g ds k → CChain cs g' es k' → SameSaid cs g ds k g' es k'
  -- however units were dealt out to a run from C: where its record tells the same number of them, what the host holds agrees
  pub c_dealings_agree : (g k d : CHeld) → Taken g → Waiting g k → Waiting g d → (held_in k).vm.run.given ≡ (held_in d).vm.run.given → Agree (held_in k) (held_in d)
  -- demand 3 from C: a run that ends in a fault or is abandoned, its number, units, root Returns and backtrace read from the words that came back
  pub c_fault_recovers : (g k : CHeld) (c : RunCall) (a : List ℕ) (d : CDone) → Taken g → Faulted g k c a d → CDemand3 g k c d
  -- what `chaffwheel_check` passed (0), run by `chaffwheel_begin`, `chaffwheel_continue` and `chaffwheel_abandon` over the record, the stores and the frames
  -- that it left
  pub host_runs_so : (image w a heights : List ℕ) (s s' : Stores) (fs fs' : List Frame) (x : Coded) (hs : List ℕ) → Bytes image
      → CheckThrough image w a heights s fs x hs s' fs' → x.number ≡ 0 → (e e' : Lent) → e.frames ≡ fs' → (g : ℕ) (y : Result Halt Refusal)
      → Answers (FromC s') (vm_in x.vm) e g y e' → FaultsSo (vm_in x.vm) s' e g e' y
  pub host_stays_within : (image w a heights : List ℕ) (s s' : Stores) (fs fs' : List Frame) (x : Coded) (hs : List ℕ) → Bytes image
      → CheckThrough image w a heights s fs x hs s' fs' → x.number ≡ 0 → (e : Lent) → e.frames ≡ fs' → StaysWithin (FromC s') (vm_in x.vm) s' e hs
  -- ---- NO SECOND ANSWER fits a contract

  pub run_one : (c : RunCall) (m : Vm) (s : Stores) (e : Lent) (x y : Result Halt Refusal) (e' k' : Lent) → RunPost c m s e x e' → RunPost c m s e y k' → SameRun m x y e' k'
  pub check_one : (image heights : List ℕ) (s : Stores) (x y : Result Counts Rejected) (hs ks : List ℕ) (t u : Stores) → CheckAs image heights s x hs t → CheckAs image heights s y ks u
      → SameCheck x y hs ks t u
  pub check_through_one : (image w a heights : List ℕ) (s : Stores) (fs : List Frame) (x y : Coded) (hs ks : List ℕ) (t u : Stores) (gs rs : List Frame)
      → CheckThrough image w a heights s fs x hs t gs → CheckThrough image w a heights s fs y ks u rs → SameThrough x y hs ks t u gs rs
  pub heights_one_answer : (main : Bool) (count : ℕ) (code : List ℕ) (x y : Option ℕ) → HeightsPost main count code x → HeightsPost main count code y → x ≡ y
  -- and what is told to break its rule does
  pub a_flaw_breaks : (main : Bool) (count : ℕ) (code : List ℕ) (x : Flaw) → BreaksAt main count code x → Heights main count code → ⊥
  pub ask_one : (q : Ask) (h h' k' : Held) (a b : Answer) → After (ask q) h a h' → After (ask q) h b k' → (a ≡ b) × (h' ≡ k')
  -- ---- THE EXAMPLES, and the mistakes that invite themselves

  pub examples_hold : map (λ (e : Example). e.gives) examples ≡ map (λ (e : Example). e.says) examples
  pub entries_answer : map (λ (x : EntryRow). x.shown) entries ≡ map (λ (x : EntryRow). x.is) entries
  pub mistakes_show : map (λ (x : Row). x.shown) mistakes ≡ map (λ (x : Row). x.is) mistakes
