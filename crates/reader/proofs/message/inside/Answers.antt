-- `inside` meets its contract: the child, filler and the end tag, one law for each return.
use native.Mathlib.Omega.{arith}
use Rattle.scan.proofs.Chain.{exits, known}
use Rattle.reader.proofs.elements.Laws.{known_filler}
use Rattle.reader.proofs.message.Laws.{known_inner, inside_child_fails, inside_filler_fails, inside-end-fails, inside-read}
use Rattle.reader.proofs.message.inside.Goals as goal

pub returns-in_err-child : goal.returns-in_err-child
returns-in_err-child c = rw (exits c.from_residual.ensures.1) (inside_child_fails _ _ _ _ _ c.in_err-child.ensures)

pub filler_lt-requires : goal.filler_lt-requires
filler_lt-requires c = (known_inner c.in_ok-child.was c.child_at.ensures).upto

pub returns-in_err-i : goal.returns-in_err-i
returns-in_err-i c = rw (exits c.from_residual-in_err-i.ensures.1) (inside_filler_fails _ _ _ _ _ _ (known_inner c.in_ok-child.was c.child_at.ensures) c.in_err-i.ensures)

pub end_tag-requires : goal.end_tag-requires
end_tag-requires c = let g = known_filler c.in_ok-i.was c.filler_lt.ensures in omega arith

pub returns-in_err-next : goal.returns-in_err-next
returns-in_err-next c = rw (exits c.from_residual-in_err-next.ensures.1) (inside-end-fails _ _ _ _ _ _ (known_inner c.in_ok-child.was c.child_at.ensures) _ (known_filler c.in_ok-i.was c.filler_lt.ensures) c.in_err-next.ensures)

pub returns : goal.returns
returns c = inside-read _ _ _ _ _ _ (known_inner c.in_ok-child.was c.child_at.ensures) _ (known_filler c.in_ok-i.was c.filler_lt.ensures) (known c.in_ok-next.was c.end_tag.ensures)
