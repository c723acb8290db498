-- `yes_no` meets its contract: the first byte says which word.
use Rattle.reader.proofs.declaration.Laws.{yes_open, yes_yes, yes_no}
use Rattle.reader.proofs.declaration.yes_no.Goals as goal

-- `yes_no` meets its contract: the first byte says which word.
pub returns-then-s-at : goal.returns-then-s-at
returns-then-s-at c = yes_open _ _ c.if-s-at.true

pub returns-then-s-at-eq121 : goal.returns-then-s-at-eq121
returns-then-s-at-eq121 c = yes_yes _ _ c.if-s-at.false c.if-s-at-eq121.true c.literal.ensures

pub returns : goal.returns
returns c = yes_no _ _ c.if-s-at.false c.if-s-at-eq121.false c.literal-2.ensures
