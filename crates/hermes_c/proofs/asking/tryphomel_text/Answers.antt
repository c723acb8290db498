-- The numbers that C is handed are those of the answer.
use Rattle.c_promises.proofs.TextLaws.{text_told}
use Rattle.hermes_c.proofs.asking.tryphomel_text.Goals as goal

-- The numbers that C is handed are those of the answer.
pub returns-in-InMessage : goal.returns-in-InMessage
returns-in-InMessage c = text_told _ _ _ _ _ _ _ _ _ c.text_from-t.ensures c.in-InMessage.is c.text_decode-answer.ensures

pub returns-in-InScratch : goal.returns-in-InScratch
returns-in-InScratch c = text_told _ _ _ _ _ _ _ _ _ c.text_from-t.ensures c.in-InScratch.is c.text_decode-answer.ensures

pub returns-in-No : goal.returns-in-No
returns-in-No c = text_told _ _ _ _ _ _ _ _ _ c.text_from-t.ensures c.in-No.is c.text_decode-answer.ensures
