-- All that is promised is kept.
use mathlib.Core.Path.{◌≡◌}
use Prim.Native.Nat.{◌≤◌}
use lib.ListN.{length}
use native.Mathlib.Omega.{arith}
use Rattle.model.specs.Stores as t
use Rattle.model.specs.Machines as w
use Rattle.model.specs.Examples.{examples_hold}
use Rattle.model.specs.Entries.{entries_answer}
use Rattle.model.specs.Mistakes.{mistakes_show}
use Rattle.laws_checks.proofs.Keeping.{keeps_the_table}
use Rattle.laws_runs.proofs.Paths.{returns_counted}
use Rattle.laws_runs.proofs.Entered.{every_frame_tells_when_it_was_entered, a_paused_run_tells_when_its_frames_were_entered}
use Rattle.laws_runs.proofs.More.{more_units}
use Rattle.laws_runs.proofs.Strict.{a_strict_run_does_as_any_other_unless_it_ends_in_26}
use Rattle.laws_runs.proofs.Parts.{a_run_begun_at_its_end_is_over_at_once, a_run_begun_before_an_instruction_is_paused_there, dealt_as_one, parts_are_one_run}
use Rattle.laws_meaning.proofs.Runs.{begin_alike, continue_alike, abandon_alike}
use Rattle.laws_meaning.proofs.Blocks.{lists_alike, structs_alike, strings_alike, references_alike}
use Rattle.laws_runs.proofs.Programs.{parts_of_lem, length_functions}
use Rattle.laws_runs.proofs.Ordered.{order_world, order_sane}
use Rattle.laws_programs.proofs.Known.{limited}
use Rattle.laws_rust.specs.Same.{rust_of}
use Rattle.laws_rust.proofs.Turns.{step_same}
use Rattle.laws_rust.proofs.Loop.{run_same}
use Rattle.laws_rust.proofs.Back.{more_turns, rust_same, ok_same}
use Rattle.laws_rust.proofs.Strict.{a_machine_not_strict_never_faults_by_26}
use Rattle.image.proofs.Trip.{image_back, image_only, one_program_one_image, load_then_save, save_then_load, saved_loads}
use Rattle.demands.specs.Host.{Held}
use Rattle.demands.specs.Kept.{InOrder}
use Rattle.demands.specs.Meant.{Fine, world_in, machine_of}
use Rattle.demands.specs.Relent.{Relent}
use Rattle.demands.proofs.Refusing.{refuses}
use Rattle.demands.proofs.WhileRunning.{kept_while_running}
use Rattle.demands.proofs.Parting.{parts_come_to, over_is_one, any_call_goes_on, dealings_agree, dealt_ends_agree, more_units_change_nothing}
use Rattle.demands.proofs.Written.{steps_within, run_written, pause_written, paused_where_one_run_ends_in_13}
use Rattle.demands.proofs.Orderly.{new_in_order, load_in_order, chain_kept, run_in_order}
use Rattle.check_rules.proofs.One.{check_one}
use Rattle.check_heights.proofs.Answers.{heights_one_answer, a_flaw_breaks}
use Rattle.check_words.proofs.One.{check_through_one}
use Rattle.laws_check.proofs.Rows.{a_step_keeps_its_row, the_row_counts_the_values}
use Rattle.laws_check.proofs.Theorems.{passed_never_faults_so, passed_asks_in_range, passed_runs_so, passed_runs_ask_in_range, passed_frames_fit, passed_ends_in_main}
use Rattle.laws_installed.proofs.Running.{a_setting_keeps_what_is_installed, installed_runs_so, installed_stays_within}
use Rattle.laws_installed.proofs.Entries.{checked_runs_so, loaded_runs_so, checked_stays_within, host_runs_so, host_stays_within}
use Rattle.noted_listing.proofs.Walking.{notes_show_the_walk}
use Rattle.noted_report.proofs.Fits.{noter_fits}
use Rattle.laws_code.proofs.Numbers.{listing_numbers}
use Rattle.laws_code.proofs.Walks.{step_takes_the_walk, listing_shows_the_walk}
use Rattle.demands.proofs.Paying.{step_cost, fault_cost, path_units, run_is_steps}
use Rattle.demands.proofs.Growing.{as_trees}
use Rattle.demands.proofs.Traces.{a_backtrace_tells_when_its_frames_were_entered}
use Rattle.demands.proofs.Bytes.{fine_kept}
use Rattle.demands.proofs.Recovering.{fault_leaves, fault_recovers, set_up_alike}
use Rattle.demands.proofs.MeantChains.{chain_alike, self_alike}
use Rattle.demands.proofs.Chains.{chains_agree, past_counts_unseen, ask_one}
use Rattle.demands.proofs.OneRun.{run_one}
use Rattle.demands.proofs.Relending.{values_anew, functions_anew, relent_stands, relent_alike}
use Rattle.demands.proofs.AnewChains.{relent_chain_says}
use Rattle.embed_words.proofs.Back.{record_back}
use Rattle.laws_hosts.proofs.Records.{order_fine}
use Rattle.laws_hosts.proofs.Crossing.{crossing}
use Rattle.laws_hosts.proofs.Refusing.{c_refuses, no_record_refused}
use Rattle.laws_hosts.proofs.Short.{short_answer}
use Rattle.laws_hosts.proofs.Made.{c_new_made, c_load_made}
use Rattle.laws_hosts.proofs.Set.{c_set_strict}
use Rattle.laws_hosts.proofs.Chains.{c_chain_is_a_chain, c_chain_kept, c_run_in_order, c_chains_alike}
use Rattle.laws_hosts.proofs.Recovering.{c_dealings_agree, c_fault_recovers}
use Rattle.promises.specs.Promises.{Promises}
use Rattle.promises.proofs.Calls.{parts_are_under_way}

-- a machine in good order has at most 65,536 functions
few : (h : Held) → Fine h → length (world_in h).functions ≤ 65536
unfolding w.world_of t.world_in
few h f =
    let known = limited h.vm.program (parts_of_lem h.vm.program h.stores f.order.program).counts in
    let most = known.functions in
    let many = length_functions h.stores h.vm.program.functions 0 in
    omega arith

-- the Rust knows of no rooms
same_rust : (h k : Held) → InOrder h → Relent h k → rust_of (world_in k) (machine_of k) ≡ rust_of (world_in h) (machine_of h)
unfolding w.world_of t.world_in rust_of
same_rust h k o g =
    let c = h.vm.program in
    rw (
      (relent_stands o g).machine,
      g.vm,
      values_anew c h.stores k.stores g.program o.program c.constants 0 (omega arith),
      g.program.text.front.front,
      functions_anew c h.stores k.stores g.program o.program c.functions 0 (omega arith),
    )

pub kept : Promises
kept = record {
  refuses = λ c h h' a p. refuses c p;
  steps_within = λ w m u n j k t p. steps_within m p;
  listing_numbers = listing_numbers;
  new_in_order = λ h h' m p. new_in_order h p;
  load_in_order = λ h h' m image b p. load_in_order h image b p;
  chain_kept = λ calls h k xs t p o. chain_kept t p o;
  fine_kept = λ c a h h' t p o. fine_kept c a t p o;
  run_in_order = λ c h h' a o p e. run_in_order o p e;
  as_the_rust = λ h f u turns. run_same (world_in h) (order_world _ _ _ f.order.machine f.code) (few h f) _ u (order_sane _ _ _ f.order.machine u) turns;
  from_the_rust = λ h f u turns l. rust_same (world_in h) (order_world _ _ _ f.order.machine f.code) (few h f) _ u (order_sane _ _ _ f.order.machine u) l turns;
  ok_same = ok_same;
  a_machine_not_strict_never_faults_by_26 = a_machine_not_strict_never_faults_by_26;
  a_strict_run_does_as_any_other_unless_it_ends_in_26 = a_strict_run_does_as_any_other_unless_it_ends_in_26;
  more_turns = more_turns;
  step_same = step_same;
  run_written = λ h k u x p. run_written p;
  pause_written = λ h k g r p. pause_written p;
  run_is_steps = run_is_steps;
  returns_counted = λ w n m k s t p. returns_counted w p;
  step_cost = λ w s. step_cost w s;
  fault_cost = λ w s n t e. fault_cost w s e;
  path_units = λ w n m k s t p. path_units p;
  every_frame_tells_when_it_was_entered = λ w n m k s t p. every_frame_tells_when_it_was_entered w p;
  a_paused_run_tells_when_its_frames_were_entered = λ w m u us r e. a_paused_run_tells_when_its_frames_were_entered w m u us e;
  a_backtrace_tells_when_its_frames_were_entered = λ w m u n did trace r. a_backtrace_tells_when_its_frames_were_entered w r;
  keeps_the_table = keeps_the_table;
  step_takes_the_walk = step_takes_the_walk;
  listing_shows_the_walk = listing_shows_the_walk;
  as_trees = as_trees;
  a_run_begun_at_its_end_is_over_at_once = λ w m e. a_run_begun_at_its_end_is_over_at_once w m e;
  a_run_begun_before_an_instruction_is_paused_there = λ w m e. a_run_begun_before_an_instruction_is_paused_there w m e;
  dealt_as_one = dealt_as_one;
  parts_are_one_run = parts_are_one_run;
  parts_come_to = λ h k g x p. parts_come_to p;
  over_is_one = λ h k g x p. over_is_one p;
  paused_where_one_run_ends_in_13 = λ h k g x p. paused_where_one_run_ends_in_13 p;
  any_call_goes_on = λ h k k' g r q c a p. any_call_goes_on q c a p;
  kept_while_running = λ h on q. kept_while_running h on q;
  dealings_agree = λ h k d g x y p q. dealings_agree p q;
  dealt_ends_agree = λ h k d g x y p q. dealt_ends_agree p q;
  more_units = more_units;
  more_units_change_nothing = λ h k d g i x y n p q. more_units_change_nothing i n p q;
  image_back = image_back;
  image_only = image_only;
  one_program_one_image = one_program_one_image;
  load_then_save = load_then_save;
  save_then_load = save_then_load;
  saved_loads = saved_loads;
  fault_leaves = λ h k u n did trace x p e. fault_leaves p e;
  fault_recovers = λ h k u n did trace x p e. fault_recovers p e;
  chain_alike = λ again cs h d e f xs ys a n t p q. chain_alike a n t p q;
  begin_alike = begin_alike;
  continue_alike = continue_alike;
  abandon_alike = abandon_alike;
  lists_alike = lists_alike;
  structs_alike = structs_alike;
  strings_alike = λ t t' H H' o n o' n' b. strings_alike t t' H H' b;
  references_alike = λ t t' H H' o n o' n' b. references_alike t t' H H' b;
  self_alike = λ again h d o p c strict s r b u. self_alike again o p c strict s r b u;
  set_up_alike = λ again x h k d a b o p. set_up_alike again a b o p;
  chains_agree = λ calls h k e f xs ys a p q. chains_agree a p q;
  past_counts_unseen = λ calls h k e f xs ys a p q. past_counts_unseen a p q;
  relent_stands = λ h k o g. relent_stands o g;
  relent_rust = same_rust;
  relent_alike = λ again h k f c g s l. relent_alike again f c g s l;
  relent_chain_says = λ again cs h d e f xs ys a n t p q. relent_chain_says a n t p q;
  passed_never_faults_so = passed_never_faults_so;
  passed_asks_in_range = passed_asks_in_range;
  passed_runs_so = passed_runs_so;
  passed_runs_ask_in_range = passed_runs_ask_in_range;
  passed_frames_fit = passed_frames_fit;
  passed_ends_in_main = passed_ends_in_main;
  a_step_keeps_its_row = a_step_keeps_its_row;
  the_row_counts_the_values = the_row_counts_the_values;
  checked_runs_so = λ image heights s s' k hs b p e e' f g x q. checked_runs_so image heights s b p e f g x e' q;
  loaded_runs_so = λ running image p b j o s s' fs fs' m l e e' f g x q. loaded_runs_so image s b p j o running fs l e f g x e' q;
  parts_are_under_way = λ h k g r p. parts_are_under_way p;
  installed_runs_so = λ p ok m s e e' here g x answer. installed_runs_so m s e ok here x answer;
  installed_stays_within = λ p ok m s e here hs tells. installed_stays_within ok here hs tells;
  a_setting_keeps_what_is_installed = λ p m k s e here strict set. a_setting_keeps_what_is_installed here strict set;
  checked_stays_within = λ image heights s s' k hs b p e f. checked_stays_within image heights s b p e f;
  notes_show_the_walk = notes_show_the_walk;
  noter_fits = noter_fits;
  host_runs_so = λ image w a heights s s' fs fs' x hs b p z e e' f g y q. host_runs_so image w a heights s fs b p z e f g y e' q;
  host_stays_within = λ image w a heights s s' fs fs' x hs b p z e f. host_stays_within image w a heights s fs b p z e f;
  record_back = λ h w o t n. record_back w h.vm n (order_fine h.vm h.stores h.lent o.machine t);
  crossing = λ a g ok c handed d p. crossing a g ok c handed p;
  c_refuses = λ c a g d ok exact p. c_refuses c a g d ok exact p;
  short_answer = λ a g ok c exact short d p. short_answer a g ok c exact short p;
  no_record_refused = λ a g no c made d p. no_record_refused a g no c made p;
  c_new_made = λ a g long room d p zero. c_new_made a g long room p zero;
  c_load_made = λ a g long room image bytes d p zero. c_load_made a g long room image bytes p zero;
  c_set_strict = λ a g ok strict d p zero. c_set_strict a g ok strict p zero;
  c_run_in_order = λ c a g d o ok p e. c_run_in_order o ok p e;
  c_dealings_agree = λ g k d ok p q e. c_dealings_agree ok p q e;
  c_chain_is_a_chain = λ cs g k ds ok p. c_chain_is_a_chain ok p;
  c_chain_kept = λ cs g k ds typed ok p o. c_chain_kept typed ok p o;
  c_chains_alike = λ again cs g g' k k' ds es ok ok' alike made typed p q. c_chains_alike ok ok' alike made typed p q;
  c_fault_recovers = λ g k c a d ok p. c_fault_recovers ok p;
  run_one = λ c m s e x y e' k' p q. run_one c m s e p q;
  check_one = λ image heights s x y hs ks t u a b. check_one image heights s a b;
  check_through_one = λ image w a heights s fs x y hs ks t u gs rs p q. check_through_one image w a heights s fs p q;
  heights_one_answer = λ main count code x y p q. heights_one_answer x y p q;
  a_flaw_breaks = λ main count code x b k. a_flaw_breaks b k;
  ask_one = λ q h h' k' a b p r. ask_one q h p r;
  examples_hold = examples_hold;
  entries_answer = entries_answer;
  mistakes_show = mistakes_show;
}
