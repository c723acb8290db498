-- Each answer has its number.
use Rattle.value.specs.Asked.{refusal_of}
use Rattle.texts.proofs.ask.refusal_of.Goals as goal

-- Each answer has its number.
pub returns-in-InMessage : goal.returns-in-InMessage
unfolding refusal_of
returns-in-InMessage c = rw c.in-InMessage.is

pub returns-in-InScratch : goal.returns-in-InScratch
unfolding refusal_of
returns-in-InScratch c = rw c.in-InScratch.is

pub returns-in-No : goal.returns-in-No
unfolding refusal_of
returns-in-No c = rw c.in-No.is
