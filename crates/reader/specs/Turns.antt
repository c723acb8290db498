-- Reading again and again, each time from the end of the message that was found: "a run of bytes cuts into messages and glue in
-- one way at most, and the library finds it where each message keeps the limit".
use Rattle.std.specs.Prelude.{◌≡◌, List, [], ◌∷◌, ℕ, ◌+◌, length, drop}
use Rattle.grammar.specs.Bytes.{Bytes}
use Rattle.grammar.specs.Answer.{Answers}
use Rattle.grammar.specs.Cut.{Piece}
use Rattle.reader.specs.Answer.{paper}
use Rattle.reader.specs.declared.answer.Answer.{Answer}
use Rattle.reader.specs.declared.answer.Answer.TheVariants.{Ends, More, Malformed, TooLong}

-- the results of reading in turn: each meets the promise of `read` on what is left behind the message before
pub data InTurn : Bytes → List Answer → Type 0 where
  reads_on : {s : Bytes} {l : List Answer} (start end : ℕ) → Answers s (paper (Ends start end)) → InTurn (drop end s) l → InTurn s (Ends start end ∷ l)
  waits : {s : Bytes} (start : ℕ) → Answers s (paper (More start)) → InTurn s (More start ∷ [])
  stops : {s : Bytes} (start place : ℕ) → Answers s (paper (Malformed start place)) → InTurn s (Malformed start place ∷ [])
  gives_up : {s : Bytes} (start : ℕ) → Answers s (paper (TooLong start)) → InTurn s (TooLong start ∷ [])

-- the answers that a cut asks for: where each message starts and ends, behind the one before, and last the glue alone
abbrev pub answers_of : List Piece → Bytes → List Answer
answers_of [] g = More (length g) ∷ []
answers_of (p ∷ l) g = Ends (length p.glue) (length p.glue + length p.bytes) ∷ answers_of l g

-- what is read in turn ends at glue alone
abbrev pub EndsInGlue : Bytes → List Answer → Type 0
EndsInGlue s [] = ⊥
EndsInGlue s (Ends start end ∷ l) = EndsInGlue (drop end s) l
EndsInGlue s (More start ∷ l) = start ≡ length s
EndsInGlue s (Malformed start place ∷ l) = ⊥
EndsInGlue s (TooLong start ∷ l) = ⊥
