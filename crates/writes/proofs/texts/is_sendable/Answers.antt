-- Outside or inside of the texts.
use Rattle.writes.proofs.TextLaws.{sent_outside, sent_inside}
use native.Mathlib.Omega.{arith}
use Rattle.writes.proofs.texts.is_sendable.Goals as goal

-- Outside or inside of the texts.
pub returns-then-texts-start : goal.returns-then-texts-start
returns-then-texts-start c = sent_outside c.args.texts.now c.args.p (omega arith)

pub returns-then-texts-start-2 : goal.returns-then-texts-start-2
returns-then-texts-start-2 c = sent_outside c.args.texts.now c.args.p (omega arith)

pub returns : goal.returns
returns c = sent_inside c.args.texts.now c.args.p (omega arith) c.is_text.ensures
