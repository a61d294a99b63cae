-- [numbers] The number that each answer of an entry comes back as, 0 where it is no refusal. The number of each fault of a step is `fault_number`; a fault is
-- no refusal: its number stands in the answer.
use Rattle.std.specs.Prelude.{ℕ, Result, Ok, Err}
use Rattle.model.specs.declared.Refusal.{Refusal}
use Rattle.model.specs.declared.Refusal.TheVariants as why

-- an image that breaks a rule is refused 20; the answer holds the offset of the first item that does
abbrev pub refusal_number : Refusal → ℕ
refusal_number why.UnknownOpcode = 1
refusal_number why.CodeEnds = 3
refusal_number why.WrongKind = 5
refusal_number why.NoSuchPlace = 6
refusal_number why.NoLastResult = 7
refusal_number why.NoFunction = 14
refusal_number why.PlaceOutsideCode = 16
refusal_number why.ResultTooShort = 17
refusal_number why.NoRunUnderWay = 18
refusal_number why.NotInOrder = 19
refusal_number (why.BrokenImage offset) = 20
refusal_number why.StoreFull = 21
refusal_number why.OverLimit = 22
refusal_number why.PatchOutsideCode = 23
refusal_number why.RunUnderWay = 25

abbrev pub answer_number : {A : Type 0} → Result A Refusal → ℕ
answer_number (Ok x) = 0
answer_number (Err e) = refusal_number e
