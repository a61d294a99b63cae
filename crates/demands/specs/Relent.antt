-- Stores lent anew: between two calls a host may lend other stores, elsewhere or longer, with what stands below the counts the same.
use Rattle.std.specs.Prelude.{◌≡◌, List, [], ◌∷◌, ℕ, ◌*◌, ◌≤◌, length}
use Rattle.model.specs.declared.Counts.{Counts}
use Rattle.model.specs.Stores.{Stores, program_in}
use Rattle.model.specs.Orders.{main_taken, other_taken}
use Rattle.laws_runs.specs.Ordered.{CodeBytes}
use Rattle.demands.specs.Host.{Held, Call, Answer, After}
use Rattle.demands.specs.Kept.{InOrder}
use Rattle.demands.specs.Agree.{Front, Rooms}
use Rattle.demands.specs.Meant.{machine_of, under_of, AsLong, Said, says}

-- b is lent for a: the first n entries are the same, and it is no shorter
pub record Anew {A : Type 0} (n : ℕ) (a b : List A) : Type 0 where
  pub front : Front n b a
  pub room : length a ≤ length b

-- the program's stores: the same below the counts, and code and places as far as codes are taken
pub record ProgramAnew (c : Counts) (s s' : Stores) : Type 0 where
  pub constants : Anew (2 * c.constants) s.constants s'.constants
  pub structs : Anew (2 * c.structs) s.structs s'.structs
  pub functions : Anew (2 * c.functions) s.functions s'.functions
  pub text : Anew c.text s.text s'.text
  pub main : Anew (main_taken s.functions) s.main s'.main
  pub main_places : Anew (main_taken s.functions) s.main_places s'.main_places
  pub other : Anew (other_taken c s.functions) s.other s'.other
  pub other_places : Anew (other_taken c s.functions) s.other_places s'.other_places

-- k holds the machine of h in stores lent anew. Of the copy no more is asked than that it holds the stack that a run under way has saved there, and of the
-- backtrace nothing: nothing reads them.
pub record Relent (h k : Held) : Type 0 where
  pub vm : k.vm ≡ h.vm
  pub program : ProgramAnew h.vm.program h.stores k.stores
  pub stack : Anew (2 * h.vm.stack) h.lent.stack k.lent.stack
  pub cells : Anew (2 * h.vm.cells) h.lent.cells k.lent.cells
  pub frames : Anew h.vm.frames h.lent.frames k.lent.frames
  pub copy : Front (2 * h.vm.run.saved) k.lent.copy h.lent.copy

-- k is in good order, and stands for the program and the machine that h stands for, and for its run under way
pub record StandsFor (h k : Held) : Type 0 where
  pub order : InOrder k
  pub program : program_in k.vm.program k.stores ≡ program_in h.vm.program h.stores
  pub machine : machine_of k ≡ machine_of h
  pub under : under_of k ≡ under_of h

-- ---- calls one after another, where the host lends other stores in between

-- k holds the machine of h in other stores that are as long
pub record Elsewhere (h k : Held) : Type 0 where
  pub relent : Relent h k
  pub long : AsLong k.stores h.stores
  pub rooms : Rooms k.lent h.lent
  pub code : CodeBytes k.stores

pub data ChainAnew : List Call → Held → List Answer → Held → Type 0 where
  none : {h : Held} → ChainAnew [] h [] h
  more : {c : Call} {cs : List Call} {h h' k : Held} {a : Answer} {as' : List Answer} → After c h a h' → ChainAnew cs h' as' k → ChainAnew (c ∷ cs) h (a ∷ as') k
  anew : {cs : List Call} {h h' k : Held} {as' : List Answer} → Elsewhere h h' → ChainAnew cs h' as' k → ChainAnew cs h as' k

-- what such calls say
unfoldable pub said_anew : {cs : List Call} {h k : Held} {xs : List Answer} → ChainAnew cs h xs k → List Said
said_anew none = []
said_anew (more {c = c} {h' = h'} {a = a} p ps) = says c h' a ∷ said_anew ps
said_anew (anew l ps) = said_anew ps
