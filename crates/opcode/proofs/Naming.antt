-- What an arm of a `match` says that an operand names is what the model's table says: kinds compared as numbers.
use mathlib.Core.Path.{◌≡◌, refl, ap, ◌∙◌}
use mathlib.Core.List.{[], ◌∷◌}
use Prim.Native.Nat.{ℕ}
use lib.ListN.{get_or}
use Rattle.model.specs.declared.Names.{Names}
use Rattle.model.specs.declared.Names.TheVariants as n
use Rattle.model.specs.Opcodes.{Opcode}

abbrev number_of : Names → ℕ
number_of n.Constant = 0
number_of n.Slot = 1
number_of n.Function = 2
number_of n.Struct = 3
number_of n.Field = 4
number_of n.Count = 5
number_of n.Offset = 6
number_of n.Nothing = 7

abbrev kind_of : ℕ → Names
kind_of k = get_or (n.Constant ∷ n.Slot ∷ n.Function ∷ n.Struct ∷ n.Field ∷ n.Count ∷ n.Offset ∷ []) k n.Nothing

back : (x : Names) → kind_of (number_of x) ≡ x
back n.Constant = refl
back n.Slot = refl
back n.Function = refl
back n.Struct = refl
back n.Field = refl
back n.Count = refl
back n.Offset = refl
back n.Nothing = refl

-- the number of what operand i names
abbrev pub named : ℕ → Opcode → ℕ
named i c = number_of (get_or c.names i n.Nothing)

pub names_it : (k : ℕ) {x : Names} → k ≡ number_of x → kind_of k ≡ x
names_it k {x} e = ap kind_of e ∙ back x
