-- `child_at` meets its contract: the tag into the table that is kept, the content with another.
use native.Mathlib.Omega.{arith}
use Rattle.scan.proofs.Chain.{exits, known}
use Rattle.reader.proofs.elements.Laws.{known_start}
use Rattle.reader.proofs.message.Laws.{child_fails, child_empty, child-content-fails, child-full}
use Rattle.reader.proofs.message.child_at.Goals as goal

pub returns-in_err-t : goal.returns-in_err-t
returns-in_err-t c = rw (exits c.from_residual.ensures.1) (child_fails _ _ _ _ _ c.in_err-t.ensures)

pub returns-then-t : goal.returns-then-t
returns-then-t c = child_empty _ _ _ _ _ _ (known_start c.in_ok-t.was c.start_tag.ensures) c.if-t.true

pub content-requires : goal.content-requires
content-requires c = let g = known_start c.in_ok-t.was c.start_tag.ensures in omega arith

pub returns-in_err-next : goal.returns-in_err-next
returns-in_err-next c = rw (exits c.from_residual-in_err-next.ensures.1) (child-content-fails _ _ _ _ _ _ (known_start c.in_ok-t.was c.start_tag.ensures) c.if-t.false c.in_err-next.ensures)

pub returns : goal.returns
returns c = child-full _ _ _ _ _ _ (known_start c.in_ok-t.was c.start_tag.ensures) c.if-t.false (known c.in_ok-next.was c.content.ensures)
