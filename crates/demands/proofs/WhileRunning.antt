-- While a run is under way no call but those of the run changes anything: readers look, and all else is refused.
use mathlib.Core.Path.{◌≡◌, refl, sym, ap, ◌∙◌}
use mathlib.Core.Bool.{Bool, true, false}
use mathlib.Core.List.{List}
use mathlib.Core.Option.{none, some}
use Prim.Native.Nat.{ℕ}
use native.Mathlib.Omega.{arith}
use Rattle.demands.specs.Host.{Held, Ask, new, load, add_op, add_op1, add_op2, add_op3, patch, add_constant, add_struct, begin_function, end_function, set_strict, current_offset, function_idx, save, disassemble, backtrace, last_result, stack_value, block_header, element, text_bytes, looks as seen, done}
use Rattle.demands.specs.Jobs.{Job, makes, writes, sets, looks, handed, job_of}
use Rattle.demands.specs.Refusals.{Check, first_of, code_checks, writing, making, ask_checks, refused_by}
use Rattle.demands.proofs.Refusing.{Says, ask_says}

-- it would change the program, the machine or its setting
abbrev changes : Job → Bool
changes (makes image) = true
changes (writes operands) = true
changes sets = true
changes looks = false
changes handed = false

module _ (h : Held) where
  -- what only looks keeps everything; all else is refused
  pub data WhileRunning (q : Ask) : Type 0 where
    only_looks : changes (job_of q) ≡ false → (done q h).held ≡ h → WhileRunning q
    is_refused : (n : ℕ) → refused_by (done q h).answer ≡ some n → WhileRunning q

  module _ (on : h.vm.run.on ≡ true) where
    writing_refused : (q : Ask) (inOrder : Bool) (cs : List Check) → Says h (writing h inOrder cs) (done q h) → WhileRunning q
    unfolding first_of
    writing_refused q true cs s = is_refused 25 (s.number ∙ rw on)
    writing_refused q false cs s = is_refused 19 s.number

    making_refused : (q : Ask) (cs : List Check) → Says h (making h cs) (done q h) → WhileRunning q
    unfolding first_of
    making_refused q cs s = is_refused 25 (s.number ∙ rw on)

    pub while_running : (q : Ask) → WhileRunning q
    unfolding job_of ask_checks code_checks done seen
    while_running new = making_refused new _ (ask_says h new)
    while_running (load image) = making_refused (load image) _ (ask_says h (load image))
    while_running (add_op op place) = writing_refused (add_op op place) _ _ (ask_says h (add_op op place))
    while_running (add_op1 op a place) = writing_refused (add_op1 op a place) _ _ (ask_says h (add_op1 op a place))
    while_running (add_op2 op a b place) = writing_refused (add_op2 op a b place) _ _ (ask_says h (add_op2 op a b place))
    while_running (add_op3 op a b c place) = writing_refused (add_op3 op a b c place) _ _ (ask_says h (add_op3 op a b c place))
    while_running (patch offset word) = writing_refused (patch offset word) _ _ (ask_says h (patch offset word))
    while_running (add_constant x bytes) = writing_refused (add_constant x bytes) _ _ (ask_says h (add_constant x bytes))
    while_running (add_struct name) = writing_refused (add_struct name) _ _ (ask_says h (add_struct name))
    while_running (begin_function name) = writing_refused (begin_function name) _ _ (ask_says h (begin_function name))
    while_running end_function = writing_refused end_function _ _ (ask_says h end_function)
    while_running (set_strict b) = writing_refused (set_strict b) _ _ (ask_says h (set_strict b))
    while_running current_offset = only_looks refl refl
    while_running (function_idx name) = only_looks refl refl
    while_running (save out) = only_looks refl refl
    while_running (disassemble out) = only_looks refl refl
    while_running (backtrace out) = only_looks refl refl
    while_running last_result = only_looks refl refl
    while_running (stack_value i) = only_looks refl refl
    while_running (block_header x) = only_looks refl refl
    while_running (element x i) = only_looks refl refl
    while_running (text_bytes x out) = only_looks refl refl

    kept_by : (q : Ask) → WhileRunning q → (done q h).held ≡ h
    kept_by q (only_looks e k) = k
    kept_by q (is_refused n e) = ((ask_says h q).kept n e).0

    -- so that no call but those of the run changes anything
    pub kept_while_running : (q : Ask) → (done q h).held ≡ h
    kept_while_running q = kept_by q (while_running q)

  -- what was written, was written while no run was under way
  pub written_idle : (q : Ask) {ws : List ℕ} → job_of q ≡ writes ws → refused_by (done q h).answer ≡ none → h.vm.run.on ≡ false
  written_idle q {ws} e w = by h.vm.run.on refl
    where
      not_so : {A : Type 0} → WhileRunning q → A
      not_so (only_looks k s) = absurd (let z : changes (writes ws) ≡ false = sym (ap changes e) ∙ k in let y : ◌≡◌ {A = ℕ} 0 1 = cc in let x : ⊥ = omega arith in x)
      not_so (is_refused n k) = absurd (let z : some n ≡ none = sym k ∙ w in let y : ◌≡◌ {A = ℕ} 0 1 = cc in let x : ⊥ = omega arith in x)

      by : (b : Bool) → h.vm.run.on ≡ b → h.vm.run.on ≡ false
      by true on = not_so (while_running on q)
      by false off = off
