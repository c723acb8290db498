-- The first byte decides between the two ends.
use Rattle.scan.proofs.Chain.{exits, known}
use Rattle.tags.proofs.AttributeLaws.{end_bare, end_refused, end-fails, end_empty}
use Rattle.tags.proofs.attributes.tag_end.Goals as goal

pub returns-then-s-at-eq62 : goal.returns-then-s-at-eq62
returns-then-s-at-eq62 c = end_bare _ _ _ _ c.requires c.if-s-at-eq62.true

pub returns-then-not-may : goal.returns-then-not-may
returns-then-not-may c = end_refused _ _ _ _ c.requires c.if-s-at-eq62.false c.if-not-may.true

pub returns-in_err-end : goal.returns-in_err-end
returns-in_err-end c = rw (exits c.from_residual.ensures.1) (end-fails _ _ _ _ c.requires c.if-s-at-eq62.false c.if-not-may.false c.in_err-end.ensures)

pub returns : goal.returns
returns c = end_empty _ _ _ _ c.requires c.if-s-at-eq62.false c.if-not-may.false (known c.in_ok-end.was c.literal.ensures)
