-- By what writing answered, and by the lane.
use mathlib.Core.Path.{refl}
use Rattle.handover.specs.Inner.{lacks_room, refuses, tells}
use Rattle.handover.proofs.receiving.finish.Goals as goal

-- By what writing answered, and by the lane.
pub returns-then-w-ne0 : goal.returns-then-w-ne0
returns-then-w-ne0 c = lacks_room c.if-w-ne0.true c.clear.ensures c.no_room.ensures

pub returns-then-moved-ne0 : goal.returns-then-moved-ne0
returns-then-moved-ne0 c = refuses c.if-w-ne0.false c.if-moved-ne0.true c.clear-then-moved-ne0.ensures c.refused.ensures

pub returns : goal.returns
returns c = tells c.if-w-ne0.false c.if-moved-ne0.false refl c.told.ensures
