-- 4, 5, 6 decide before 8.
use Rattle.handover.proofs.SendLaws.{refused_first, refused_then}
use Rattle.handover.proofs.sending.may_not.Goals as goal

-- 4, 5, 6 decide before 8.
pub returns-then-r-ne0 : goal.returns-then-r-ne0
returns-then-r-ne0 c = refused_first _ _ c.refusal_of_cells-r.ensures c.if-r-ne0.true

pub returns : goal.returns
returns c = refused_then _ _ c.refusal_of_cells-r.ensures c.if-r-ne0.false
