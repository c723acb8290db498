-- A byte by a range, told by its two bounds.
use Rattle.pieces.proofs.CharacterLaws.{tail_open, tail_out, tail_in}
use Rattle.pieces.proofs.characters.tail.Goals as goal

-- A byte by a range, told by its two bounds.
pub returns-then-s-at : goal.returns-then-s-at
returns-then-s-at c = tail_open _ _ _ _ c.if-s-at.true

pub returns-then-b-low : goal.returns-then-b-low
returns-then-b-low c = tail_out _ _ _ _ c.if-s-at.false c.then-b-low.either

pub returns : goal.returns
returns c = tail_in _ _ _ _ _ c.from.ensures c.if-s-at.false c.if-b-low.false c.if-high-b.false
