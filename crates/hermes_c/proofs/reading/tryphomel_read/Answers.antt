-- The numbers that C is handed are those of the answer.
use mathlib.Core.Path.{◌≡◌, subst}
use Rattle.grammar.specs.Bytes.{Bytes}
use Rattle.grammar.specs.Answer.{Answers, answer_number}
use Rattle.reader.specs.Answer.{paper}
use Rattle.reader.specs.declared.answer.Answer.{Answer}
use Rattle.c_promises.specs.Reading.{start_of, place_of, Told}
use Rattle.c_promises.proofs.ReadLaws.{told}
use Rattle.hermes_c.proofs.reading.tryphomel_read.Goals as goal

-- The numbers that C is handed are those of the answer.
-- the answer r, which is a
read_told : (s : Bytes) (r a : Answer) → r ≡ a → Answers s (paper r) → Told s (answer_number (paper a)) (start_of (paper a)) (place_of (paper a))
read_told s r a e p = told s (paper a) (subst (λ (x : Answer). Answers s (paper x)) e p)

pub returns-in-Ends : goal.returns-in-Ends
returns-in-Ends c = read_told _ _ _ c.in-Ends.is c.read-answer.ensures

pub returns-in-More : goal.returns-in-More
returns-in-More c = read_told _ _ _ c.in-More.is c.read-answer.ensures

pub returns-in-Malformed : goal.returns-in-Malformed
returns-in-Malformed c = read_told _ _ _ c.in-Malformed.is c.read-answer.ensures

pub returns-in-TooLong : goal.returns-in-TooLong
returns-in-TooLong c = read_told _ _ _ c.in-TooLong.is c.read-answer.ensures
