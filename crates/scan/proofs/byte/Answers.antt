use Rattle.scan.proofs.Walk.{byte_end, byte_hit, byte_miss}
use Rattle.scan.proofs.byte.Goals as goal

pub returns-then-s-at : goal.returns-then-s-at
returns-then-s-at c = byte_end _ _ _ c.if-s-at.true

pub returns-then-s-at-2 : goal.returns-then-s-at-2
returns-then-s-at-2 c = byte_hit _ _ _ c.if-s-at.false c.if-s-at-2.true

pub returns : goal.returns
returns c = byte_miss _ _ _ c.if-s-at.false c.if-s-at-2.false
