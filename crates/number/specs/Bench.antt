-- The bench cases P9 and P10 as one table over the definitions.
use Rattle.std.specs.Prelude.{◌≡◌, false, List, [], ◌∷◌}
use Rattle.number.specs.Bytes.{Bytes, text}
use Rattle.number.specs.Whole.{Whole, no_int, int, int_of}
use Rattle.number.specs.Positive.{Number, no_number, number, number_of}

-- a text, and what it is as an Int or as a positive number
pub data Case : Type 0 where
  whole : Bytes → Whole → Case
  positive : Bytes → Number → Case

-- "P9 ints `-0` is 0, ` +01 ` is 1, `1.0` is bad. P10 numbers `160.50` is 160500000, `.5` is 500000, `0.0000010` is 1, `0.0000001` and `0`
-- are bad."
abbrev pub bench : List Case
bench =
    whole (text "-0") (int false 0)
    ∷ whole (text " +01 ") (int false 1)
    ∷ whole (text "1.0") no_int
    ∷ positive (text "160.50") (number 160500000)
    ∷ positive (text ".5") (number 500000)
    ∷ positive (text "0.0000010") (number 1)
    ∷ positive (text "0.0000001") no_number
    ∷ positive (text "0") no_number
    ∷ []

abbrev pub Holds : Case → Type 0
Holds (whole w x) = int_of w ≡ x
Holds (positive w x) = number_of w ≡ x

abbrev pub Bench : List Case → Type 0
Bench [] = Unit {0}
Bench (c ∷ cs) = Holds c × Bench cs
