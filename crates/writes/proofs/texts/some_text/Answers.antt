-- By its length, then by its bytes.
use Rattle.writes.proofs.TextLaws.{long_some, no_some, good_some, bad_some}
use Rattle.writes.proofs.texts.some_text.Goals as goal

-- By its length, then by its bytes.
pub returns-then-most-p : goal.returns-then-most-p
returns-then-most-p c = long_some c.args.texts.now c.args.p c.args.most c.if-most-p.true

pub returns-then-p-eq0 : goal.returns-then-p-eq0
returns-then-p-eq0 c = no_some c.args.texts.now c.args.p c.args.most c.if-most-p.false c.if-p-eq0.true

pub returns-then-is_sendable : goal.returns-then-is_sendable
returns-then-is_sendable c = good_some c.args.texts.now c.args.p c.args.most c.if-most-p.false c.if-p-eq0.false c.is_sendable.ensures c.if-is_sendable.true

pub returns : goal.returns
returns c = bad_some c.args.texts.now c.args.p c.args.most c.if-most-p.false c.is_sendable.ensures c.if-is_sendable.false
