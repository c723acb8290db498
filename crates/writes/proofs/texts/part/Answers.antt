-- Outside, cut off, or whole.
use Rattle.writes.proofs.TextLaws.{part_outside, part_cut, part_whole}
use Rattle.writes.proofs.texts.part.Goals as goal

-- Outside, cut off, or whole.
pub returns-then-texts-start : goal.returns-then-texts-start
returns-then-texts-start c = part_outside c.args.texts.now c.args.p c.if-texts-start.true

pub returns-then-texts-start-2 : goal.returns-then-texts-start-2
returns-then-texts-start-2 c = part_cut c.args.texts.now c.args.p c.if-texts-start-2.true

pub returns : goal.returns
returns c = part_whole c.args.texts.now c.args.p
