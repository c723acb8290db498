-- `--` and the marks.
use native.Mathlib.Omega.{arith}
use Rattle.scan.proofs.Chain.{exits, known}
use Rattle.fillers.proofs.CommentLaws.{comment_fails, comment_read}
use Rattle.fillers.proofs.comments.comment.Goals as goal

-- `--` and the marks.
pub returns-in_err-i : goal.returns-in_err-i
returns-in_err-i c = rw (exits c.from_residual.ensures.1) (comment_fails _ _ c.in_err-i.ensures)

pub marks-requires : goal.marks-requires
marks-requires c = let g = known c.in_ok-i.was c.literal.ensures in omega arith

pub returns : goal.returns
returns c = comment_read _ _ (known c.in_ok-i.was c.literal.ensures) c.marks.ensures
