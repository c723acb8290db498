-- Each answer by what was found.
use mathlib.Core.Path.{refl, ap}
use mathlib.Core.Bool.{not}
use Rattle.decodes.proofs.DecodeLaws.{length_known}
use Rattle.decodes.proofs.TextLaws.{answer_not, answer_unquoted, answer_plain, answer_stands, answer_short, answer_decoded}
use Rattle.texts.proofs.text.text_of.Goals as goal

-- Each answer by what was found.
pub returns-then-not-is_quotable : goal.returns-then-not-is_quotable
returns-then-not-is_quotable c = answer_unquoted _ _ _ c.is_quotable.ensures (ap not c.if-not-is_quotable.true)

pub returns-then-is_plain : goal.returns-then-is_plain
returns-then-is_plain c = answer_plain _ _ _ c.is_quotable.ensures (ap not c.if-not-is_quotable.false) refl c.is_plain.ensures c.if-is_plain.true

pub returns-in_default : goal.returns-in_default
returns-in_default c = answer_not _ _ _ c.in_default.is c.text_len.ensures

pub returns-then-is_as_read : goal.returns-then-is_as_read
returns-then-is_as_read c = answer_stands _ _ _ c.is_quotable.ensures (ap not c.if-not-is_quotable.false) c.is_as_read.ensures c.if-is_as_read.true (length_known c.in-Some.is c.text_len.ensures)

pub returns-then-scratch-n : goal.returns-then-scratch-n
returns-then-scratch-n c = answer_short _ _ _ c.is_quotable.ensures (ap not c.if-not-is_quotable.false) c.is_as_read.ensures c.if-is_as_read.false (length_known c.in-Some.is c.text_len.ensures) c.if-scratch-n.true

pub returns : goal.returns
returns c = answer_decoded _ _ _ c.is_quotable.ensures (ap not c.if-not-is_quotable.false) c.is_as_read.ensures c.if-is_as_read.false (length_known c.in-Some.is c.text_len.ensures) c.if-scratch-n.false c.decode.ensures
