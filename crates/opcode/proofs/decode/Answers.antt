-- `decode`: the ranges of the table by a test at all of their numbers.
use Rattle.std.proofs.Common.{◌≡◌, refl, Bool, true, false, List, [], ◌∷◌, map, ℕ, arith}
use lib.Dec.{T}
use Rattle.model.specs.Basics.{ascii}
use Rattle.model.specs.Opcodes.{opcodes, opcode_at}
use Rattle.model.specs.declared.Decoded.{Decoded}
use Rattle.model.specs.declared.Decoded.TheVariants.{Carried, NotCarried, Unknown}
use Rattle.opcode.proofs.Arms.{ranged}
use Rattle.opcode.proofs.decode.Goals as goal

-- the arms with a number, the last first
abbrev arms : List (List ℕ)
arms =
    map (λ (k : ℕ). k ∷ [])
    (7 ∷ 37 ∷ 36 ∷ 35 ∷ 34 ∷ 31 ∷ 28 ∷ 27 ∷ 26 ∷ 22 ∷ 21 ∷ 20 ∷ 19 ∷ 18 ∷ 17 ∷ 16 ∷ 15 ∷ 14 ∷ 11 ∷ 10 ∷ 9 ∷ 8 ∷ 6 ∷ 5 ∷ 4 ∷ 3
    ∷ 0 ∷ [])

abbrev isNotCarried : Decoded → Bool
isNotCarried (Carried o) = false
isNotCarried NotCarried = true
isNotCarried Unknown = false

not_carried : (d : Decoded) → T (isNotCarried d) → NotCarried ≡ d
not_carried (Carried o) t = absurd t
not_carried NotCarried t = refl
not_carried Unknown t = absurd t

abbrev isUnknown : Decoded → Bool
isUnknown (Carried o) = false
isUnknown NotCarried = false
isUnknown Unknown = true

unknown : (d : Decoded) → T (isUnknown d) → Unknown ≡ d
unknown (Carried o) t = absurd t
unknown NotCarried t = absurd t
unknown Unknown t = refl

pub returns-in-38-to-255 : goal.returns-in-38-to-255
unfolding ascii opcodes opcode_at
returns-in-38-to-255 c =
    unknown _ (ranged (λ x. isUnknown (opcode_at x).what) arms 34 222 tt _ c.in-38-to-255.in_default-own.rest (omega arith) (omega arith))

pub returns-in-1-to-2-2 : goal.returns-in-1-to-2-2
unfolding ascii opcodes opcode_at
returns-in-1-to-2-2 c =
    not_carried _ (ranged (λ x. isNotCarried (opcode_at x).what) arms 0 34 tt _ c.in-1-to-2.in_default-own.rest (omega arith) (omega arith))
