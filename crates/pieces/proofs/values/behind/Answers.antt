-- The first byte says which kind.
use Rattle.scan.proofs.Chain.{exits}
use Rattle.pieces.proofs.Answers.{unread, next, read}
use Rattle.pieces.proofs.ValueLaws.{item_ref, step_raw}
use Rattle.pieces.proofs.values.behind.Goals as goal

-- The first byte says which kind.
pub returns-in_err-reference : goal.returns-in_err-reference
returns-in_err-reference c = rw (exits c.from_residual.ensures.1) (unread (item_ref _ _ _ c.requires c.if-s-at-eq38.true c.in_err-reference.ensures))

pub returns-then-s-at-eq38 : goal.returns-then-s-at-eq38
returns-then-s-at-eq38 c = next (item_ref _ _ _ c.requires c.if-s-at-eq38.true (read c.in_ok-reference.was c.reference.ensures))

pub returns : goal.returns
returns c = step_raw _ _ _ c.requires c.if-s-at-eq38.false c.behind.ensures
