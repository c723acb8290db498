-- One test, two answers.
use borrow.Author.Tests.{eq-eqb, ne_eqb}
use Rattle.pieces.proofs.characters.bound.Goals as goal

-- One test, two answers.
pub returns-then-odd-b : goal.returns-then-odd-b
returns-then-odd-b c = rw (eq-eqb _ _ c.if-odd-b.true)

pub returns-else-odd-b : goal.returns-else-odd-b
returns-else-odd-b c = rw (ne_eqb _ _ c.if-odd-b.false)
