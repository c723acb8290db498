-- By the refusal: nothing, a Notification, a reply.
use Rattle.handover.proofs.ReceiveLaws.{answers_nothing_yet, answers_notice, answers_reply, answers_none}
use Rattle.handover.proofs.receiving.answer.Goals as goal

-- By the refusal: nothing, a Notification, a reply.
pub returns-then-refusal-eq1 : goal.returns-then-refusal-eq1
returns-then-refusal-eq1 c = answers_nothing_yet c.args.out.now c.if-refusal-eq1.true

pub returns-then-refusal-ne0 : goal.returns-then-refusal-ne0
returns-then-refusal-ne0 c = answers_notice c.if-refusal-eq1.false c.if-refusal-ne0.true c.notify.ensures

pub returns-then-asks : goal.returns-then-asks
returns-then-asks c = answers_reply c.if-refusal-ne0.false c.if-asks.true c.requires c.reply.ensures

pub returns : goal.returns
returns c = answers_none c.args.out.now c.if-refusal-ne0.false c.if-asks.false
