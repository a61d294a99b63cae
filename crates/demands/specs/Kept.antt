-- Demand 1: every call keeps good order, so that a host that only makes calls never sees a run refused 19.
use Rattle.std.specs.Prelude.{◌≡◌, true, ℕ, ◌≤◌, ◌<◌, length, take}
use Rattle.model.specs.declared.Counts.{Counts}
use Rattle.model.specs.Programs.{function_at}
use Rattle.model.specs.Steps.{World}
use Rattle.model.specs.Stores.{Stores, size, code_word}
use Rattle.model.specs.Orders.{program_ok}
use Rattle.model.specs.Machines.{run_order}
use Rattle.demands.specs.Host.{Held}

-- the whole program and the whole machine
pub record InOrder (h : Held) : Type 0 where
  pub program : program_ok h.vm.program h.stores ≡ true
  pub machine : run_order h.vm h.stores h.lent ≡ true

-- a program that grew: no less text, and the former text at its front; no fewer functions, no code shorter
pub record Grew (c : Counts) (s : Stores) (c' : Counts) (s' : Stores) : Type 0 where
  pub text : c.text ≤ c'.text
  pub front : take c.text s'.text ≡ take c.text s.text
  pub functions : c.functions ≤ c'.functions
  pub codes : (i : ℕ) → i < c.functions → size (code_word s.functions i) ≤ size (code_word s'.functions i)

-- the same of a world, whose rooms may grow too
pub record WorldGrew (w w' : World) : Type 0 where
  pub text : length w.text ≤ length w'.text
  pub stack : w.stack_room ≤ w'.stack_room
  pub frames : w.frame_room ≤ w'.frame_room
  pub cells : w.cell_room ≤ w'.cell_room
  pub functions : length w.functions ≤ length w'.functions
  pub codes : (i : ℕ) → i < length w.functions → length (function_at w.functions i).code ≤ length (function_at w'.functions i).code
