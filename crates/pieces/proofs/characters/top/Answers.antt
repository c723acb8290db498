-- One test, two answers.
use borrow.Author.Tests.{eq-eqb, ne_eqb}
use Rattle.pieces.proofs.characters.top.Goals as goal

-- One test, two answers.
pub returns-then-c-eq191 : goal.returns-then-c-eq191
returns-then-c-eq191 c = rw (eq-eqb _ _ c.if-c-eq191.true)

pub returns-else-c-eq191 : goal.returns-else-c-eq191
returns-else-c-eq191 c = rw (ne_eqb _ _ c.if-c-eq191.false)
