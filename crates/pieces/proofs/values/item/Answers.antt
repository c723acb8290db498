-- The first byte says which kind.
use Rattle.pieces.proofs.ValueLaws.{item_open, item_ref, item_raw}
use Rattle.pieces.proofs.values.item.Goals as goal

-- The first byte says which kind.
pub returns-then-s-at : goal.returns-then-s-at
returns-then-s-at c = item_open _ _ _ c.if-s-at.true

pub returns-then-s-at-eq38 : goal.returns-then-s-at-eq38
returns-then-s-at-eq38 c = item_ref _ _ _ c.if-s-at.false c.if-s-at-eq38.true c.reference.ensures

pub returns : goal.returns
returns c = item_raw _ _ _ c.if-s-at.false c.if-s-at-eq38.false c.character.ensures
