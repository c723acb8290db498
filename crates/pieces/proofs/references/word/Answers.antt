-- The same outcome, with the number that the word stands for.
use Rattle.scan.proofs.Chain.{exits, known}
use Rattle.pieces.proofs.Answers.{spoken}
use Rattle.pieces.proofs.references.word.Goals as goal

-- The same outcome, with the number that the word stands for.
pub returns-in_err-next : goal.returns-in_err-next
returns-in_err-next c = rw (exits c.from_residual.ensures.1) (record { says = c.in_err-next.ensures.says })

pub returns : goal.returns
returns c = spoken _ (known c.in_ok-next.was c.literal.ensures)
