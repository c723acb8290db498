-- The bench cases P1 to P8 of document 01: one table, whose test computes, and what it says of the definitions.
use Rattle.std.specs.Prelude.{List, [], ◌∷◌}
use Prim.Native.String.{String}
use Rattle.grammar.specs.Bytes.{Bytes, text}
use Rattle.grammar.specs.Answer.{Answer, ends_at, more_from, malformed_at, Answers}
use Rattle.model.specs.Answers.{answer_of}

pub record Case : Type 0 where
  pub input : Bytes
  pub answer : Answer

abbrev pub case : String → Answer → Case
case s a = record { input = text s; answer = a }

abbrev pub cases : List Case
cases =
    case "" (more_from 0)
    ∷ case "<Hermes><CheckAlive/></Hermes>" (ends_at 0 30)
    ∷ case "<Hermes></Hermes>" (malformed_at 0 9)
    ∷ case "<Hermes><X a=\"1\" a=\"2\"/></Hermes>" (malformed_at 0 18)
    ∷ case "<Hermes><X><Hermes></Hermes></X></Hermes>" (ends_at 0 41)
    ∷ case "<hermes" (malformed_at 0 1)
    ∷ case "<Hermes><X a=\"1" (more_from 0)
    ∷ case "<Hermes><X a=\"&#x110000" (malformed_at 0 22)
    ∷ []

abbrev pub found : List Case → List Answer
found [] = []
found (c ∷ l) = answer_of c.input ∷ found l

abbrev pub stated : List Case → List Answer
stated [] = []
stated (c ∷ l) = c.answer ∷ stated l

-- every row holds of the definitions
abbrev pub Holds : List Case → Type 0
Holds [] = Unit {0}
Holds (c ∷ l) = Answers c.input c.answer × Holds l
