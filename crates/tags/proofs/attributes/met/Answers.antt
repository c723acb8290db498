-- An unmarked name is fresh. Else the tag is walked.
use Rattle.tags.proofs.MarkLaws.{met_new, met_old}
use Rattle.tags.proofs.attributes.met.Goals as goal

-- An unmarked name is fresh. Else the tag is walked.
pub returns-then-marks-h-eq0 : goal.returns-then-marks-h-eq0
returns-then-marks-h-eq0 c = met_new _ _ _ _ _ _ c.mark-h.ensures.1 c.if-marks-h-eq0.true

pub again-requires : goal.again-requires
again-requires c = (c.requires.0.stood, c.requires.1, c.requires.2, c.requires.3)

pub returns : goal.returns
returns c = met_old _ _ _ _ _ _ c.mark-h.ensures.1 _ c.if-marks-h-eq0.false c.again.ensures
