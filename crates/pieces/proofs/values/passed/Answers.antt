-- None, or the run.
use Rattle.pieces.proofs.ValueLaws.{ran_none, ran_run}
use Rattle.pieces.proofs.values.passed.Goals as goal

-- None, or the run.
pub returns-then-s-at-gt127 : goal.returns-then-s-at-gt127
returns-then-s-at-gt127 c = ran_none _ c.requires.0 _ _

pub returns : goal.returns
returns c = ran_run _ c.requires.0 _ _ _ c.run.ensures
