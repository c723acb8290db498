-- By the number that is said of the Id.
use mathlib.Core.Path.{refl}
use Rattle.written_back.proofs.AskLaws.{says_text, says_absent, says_no_text, says_no_room}
use Rattle.written_back.proofs.alive.reply.Goals as goal

-- By the number that is said of the Id.
pub returns-in-0 : goal.returns-in-0
returns-in-0 c = says_text _ c.text_decode-at.ensures c.refusal_of.ensures _ _ c.text_part-v.ensures c.in-0.is c.reply_with.ensures

pub returns-in-4 : goal.returns-in-4
returns-in-4 c = says_absent _ c.text_decode-at.ensures c.refusal_of.ensures c.in-4.is c.reply_bare.ensures

pub returns-in-6 : goal.returns-in-6
returns-in-6 c = says_no_text _ c.text_decode-at.ensures c.refusal_of.ensures c.in-6.is

pub returns-in_default : goal.returns-in_default
returns-in_default c = says_no_room _ c.text_decode-at.ensures c.refusal_of.ensures refl c.in_default.in_default-own.rest
