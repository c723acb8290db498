-- The first byte says which kind.
use Rattle.pieces.proofs.ReferenceLaws.{ref_open, ref_hash, ref_name}
use Rattle.pieces.proofs.references.reference.Goals as goal

-- The first byte says which kind.
pub returns-then-s-at : goal.returns-then-s-at
returns-then-s-at c = ref_open _ _ c.if-s-at.true

pub returns-then-s-at-eq35 : goal.returns-then-s-at-eq35
returns-then-s-at-eq35 c = ref_hash _ _ c.if-s-at.false c.if-s-at-eq35.true c.hash.ensures

pub returns : goal.returns
returns c = ref_name _ _ c.if-s-at.false c.if-s-at-eq35.false c.named.ensures
