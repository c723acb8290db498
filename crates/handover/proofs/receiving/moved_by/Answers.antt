-- By the refusal.
use Rattle.handover.proofs.IdLaws.{moved_on, moved_kept, moved_ended}
use Rattle.handover.proofs.receiving.moved_by.Goals as goal

-- By the refusal.
pub returns-then-refusal-eq0 : goal.returns-then-refusal-eq0
returns-then-refusal-eq0 c = moved_on c.args.lane c.args.refusal c.args.event c.if-refusal-eq0.true c.received.ensures

pub returns-then-refusal-eq1 : goal.returns-then-refusal-eq1
returns-then-refusal-eq1 c = moved_kept c.args.lane c.args.refusal c.args.event c.if-refusal-eq1.true

pub returns : goal.returns
returns c = moved_ended c.args.lane c.args.refusal c.args.event c.if-refusal-eq0.false c.if-refusal-eq1.false c.ended.ensures
