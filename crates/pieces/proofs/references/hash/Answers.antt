-- The first byte says which base.
use Rattle.pieces.proofs.ReferenceLaws.{hash_open, hash_hex, hash_dec}
use Rattle.pieces.proofs.references.hash.Goals as goal

-- The first byte says which base.
pub returns-then-s-at : goal.returns-then-s-at
returns-then-s-at c = hash_open _ _ c.if-s-at.true

pub returns-then-s-at-eq120 : goal.returns-then-s-at-eq120
returns-then-s-at-eq120 c = hash_hex _ _ c.if-s-at.false c.if-s-at-eq120.true c.number.ensures

pub returns : goal.returns
returns c = hash_dec _ _ c.if-s-at.false c.if-s-at-eq120.false c.number-2.ensures
