-- By its length, then by its bytes.
use Rattle.writes.proofs.TextLaws.{long_text, good_text, bad_text}
use Rattle.writes.proofs.texts.text.Goals as goal

-- By its length, then by its bytes.
pub returns-then-most-p : goal.returns-then-most-p
returns-then-most-p c = long_text c.args.texts.now c.args.p c.args.most c.if-most-p.true

pub returns-then-is_sendable : goal.returns-then-is_sendable
returns-then-is_sendable c = good_text c.args.texts.now c.args.p c.args.most c.if-most-p.false c.is_sendable.ensures c.if-is_sendable.true

pub returns : goal.returns
returns c = bad_text c.args.texts.now c.args.p c.args.most c.if-most-p.false c.is_sendable.ensures c.if-is_sendable.false
