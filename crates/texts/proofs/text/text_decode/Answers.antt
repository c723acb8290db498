-- Each answer by where the place is.
use native.Mathlib.Omega.{arith}
use Rattle.decodes.proofs.TextLaws.{text_absent, text_outside, text_there}
use Rattle.texts.proofs.text.text_decode.Goals as goal

-- Each answer by where the place is.
pub returns-in_default : goal.returns-in_default
returns-in_default c = text_absent _ _ c.in_default.is

pub returns-then-msg-start : goal.returns-then-msg-start
returns-then-msg-start c = text_outside _ _ _ c.in-Some.is (omega arith)

pub returns-then-msg-start-2 : goal.returns-then-msg-start-2
returns-then-msg-start-2 c = text_outside _ _ _ c.in-Some.is (omega arith)

pub returns : goal.returns
returns c = text_there _ _ _ c.in-Some.is (omega arith) c.text_of.ensures
