-- [notes] Examples: what every sort of operand is noted as, unknown numbers, a text that is cut; and P1, from its image.
use Rattle.std.specs.Prelude.{◌≡◌, refl, false, List, [], ◌∷◌, ◌++◌, ℕ}
use Rattle.model.specs.Basics.{ascii}
use Rattle.model.specs.Programs.{scalar, boolean, string, reference, Program, main_name}
use Rattle.model.specs.Listings.{text}
use Rattle.model.specs.Basics as basics
use Rattle.model.specs.Opcodes as opcodes
use Rattle.model.specs.Numbers as numbers
use Rattle.model.specs.Values as values
use Rattle.model.specs.Equality as equality
use Rattle.model.specs.Programs as programs
use Rattle.model.specs.Images as images
use Rattle.model.specs.Listings as listings
use Rattle.model.specs.Stores as stores
use Rattle.model.specs.Loading as loading
use Rattle.model.specs.Reports as reports
use Rattle.notes.specs.Notes as notes
use Rattle.notes.specs.Notes.{noted_listing, noter_text}

-- LoadConstant 0 to 4, Call 1 and 2, BuildStructInstance 0 and 1, Jump 3; the places ascend from 10 on
unfoldable named : Program
named = record {
  constants = scalar 0x4045_0000_0000_0000 ∷ boolean false ∷ string (ascii "longer than 24 bytes of text") ∷ reference (ascii "day" ++ (7 ∷ [])) ∷ [];
  structs = ascii "Tariff" ∷ [];
  functions = record {
    name = main_name;
    code = 0 ∷ 0 ∷ 0 ∷ 0 ∷ 1 ∷ 0 ∷ 0 ∷ 2 ∷ 0 ∷ 0 ∷ 3 ∷ 0 ∷ 0 ∷ 4 ∷ 0 ∷ 27 ∷ 3 ∷ 0 ∷ [];
    places = 10 ∷ 11 ∷ 12 ∷ 13 ∷ 14 ∷ 15 ∷ 16 ∷ 17 ∷ 18 ∷ 19 ∷ 20 ∷ 21 ∷ 22 ∷ 23 ∷ 24 ∷ 25 ∷ 26 ∷ 27 ∷ [];
  } ∷ record {
    name = ascii "day";
    code = 28 ∷ 1 ∷ 0 ∷ 2 ∷ 0 ∷ 28 ∷ 2 ∷ 0 ∷ 0 ∷ 0 ∷ 34 ∷ 0 ∷ 0 ∷ 1 ∷ 0 ∷ 34 ∷ 1 ∷ 0 ∷ 0 ∷ 0 ∷ 37 ∷ [];
    places = 5 ∷ 5 ∷ 5 ∷ 5 ∷ 5 ∷ 6 ∷ 6 ∷ 6 ∷ 6 ∷ 6 ∷ 7 ∷ 7 ∷ 7 ∷ 7 ∷ 7 ∷ 8 ∷ 8 ∷ 8 ∷ 8 ∷ 8 ∷ 9 ∷ [];
  } ∷ [];
}

named_main : List ℕ
named_main =
    ascii ".CODE 0 (<main>)\n"
    ++ ascii "  0000 LoadConstant  0  ; scalar 4045000000000000  ; place 10\n"
    ++ ascii "  0003 LoadConstant  1  ; false  ; place 13\n"
    ++ ascii "  0006 LoadConstant  2  ; string longer than 24 bytes of ..  ; place 16\n"
    ++ ascii "  0009 LoadConstant  3  ; function day.  ; place 19\n"
    ++ ascii "  0012 LoadConstant  4  ; no constant  ; place 22\n"
    ++ ascii "  0015 Jump          3  ; to 0021  ; place 25\n"

named_day : List ℕ
named_day =
    ascii ".CODE 1 (day)\n"
    ++ ascii "  0000 Call          1 2  ; day  ; place 5\n"
    ++ ascii "  0005 Call          2 0  ; no function  ; place 6\n"
    ++ ascii "  0010 BuildStructInstance 0 1  ; Tariff  ; place 7\n"
    ++ ascii "  0015 BuildStructInstance 1 0  ; no struct  ; place 8\n"
    ++ ascii "  0020 Return          ; place 9\n"

named_holds : noted_listing named ≡ text (named_main ++ named_day)
unfolding named named_main named_day basics.computes opcodes.computes programs.computes listings.computes reports.computes notes.computes
named_holds = refl

-- P1's image with places, and what the noter prints of it
unfoldable pub p1_image : List ℕ
p1_image =
    2 ∷ 0 ∷ 0 ∷ 0 ∷ 0 ∷ 0 ∷ 0 ∷ 0 ∷ 0x45 ∷ 0x40 ∷ 0 ∷ 0 ∷ 0 ∷ 0 ∷ 0 ∷ 0 ∷ 0 ∷ 0xF0 ∷ 0x3F ∷ 0 ∷ 1 ∷ 6 ∷ main_name
    ++ (8 ∷ 0 ∷ 0 ∷ 0 ∷ 0 ∷ 1 ∷ 0 ∷ 8 ∷ 37 ∷ 3 ∷ 6 ∷ 3 ∷ 7 ∷ 1 ∷ 8 ∷ 1 ∷ 9 ∷ [])

unfoldable pub p1_text : List ℕ
p1_text =
    ascii ".CODE 0 (<main>)\n"
    ++ ascii "  0000 LoadConstant  0  ; scalar 4045000000000000  ; place 6\n"
    ++ ascii "  0003 LoadConstant  1  ; scalar 3FF0000000000000  ; place 7\n"
    ++ ascii "  0006 Add             ; place 8\n"
    ++ ascii "  0007 Return          ; place 9\n"

pub p1_holds : noter_text p1_image ≡ p1_text
unfolding p1_image p1_text basics.computes opcodes.computes numbers.computes values.computes equality.computes programs.computes images.computes
    listings.computes stores.computes loading.computes reports.computes notes.computes
p1_holds = refl
