-- What the promises of `read` and `outline` determine, and what each answer of `read` says: `Answers s (paper r)` is what it
-- promises of its answer r. Of every result it is said in Demand3.
use Rattle.std.specs.Prelude.{◌≡◌, List, [], ◌∷◌, ◌+◌, ◌≤◌, length, drop}
use Rattle.grammar.specs.Bytes.{Bytes}
use Rattle.grammar.specs.Limits.{MESSAGE}
use Rattle.grammar.specs.Cut.{Piece, Cut}
use Rattle.reader.specs.declared.answer.Answer.{Answer}
use Rattle.reader.specs.declared.answer.Answer.TheVariants.{Ends, More}

-- each message of a cut keeps the limit
pub data EachFits : List Piece → Type 0 where
  fits_none : EachFits []
  fits_piece : {p : Piece} {l : List Piece} → length p.bytes ≤ MESSAGE → EachFits l → EachFits (p ∷ l)

-- what reading finds of a cut: at glue alone that there is no message yet; else the first piece, and the rest of the
-- cut behind it
abbrev pub Finds : Bytes → List Piece → Bytes → Answer → Type 0
Finds s [] g a = a ≡ More (length g)
Finds s (p ∷ l) g a = (a ≡ Ends (length p.glue) (length p.glue + length p.bytes)) × Cut (drop (length p.glue + length p.bytes) s) l g
