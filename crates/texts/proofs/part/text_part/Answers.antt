-- Each answer has its part.
use Rattle.value.proofs.PartLaws.{part_message, part_scratch, part_none}
use Rattle.texts.proofs.part.text_part.Goals as goal

-- Each answer has its part.
pub returns-in-InMessage : goal.returns-in-InMessage
returns-in-InMessage c = part_message _ _ _ _ _ c.in-InMessage.is c.part_or.ensures

pub returns-in-InScratch : goal.returns-in-InScratch
returns-in-InScratch c = part_scratch _ _ _ _ _ c.in-InScratch.is c.part_or-in-InScratch.ensures

pub returns-in-No : goal.returns-in-No
returns-in-No c = part_none _ _ _ _ _ c.in-No.is c.part_of.ensures
