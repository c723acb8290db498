-- The Notification with the description of its number.
use mathlib.Core.Path.{sym}
use Rattle.written_back.proofs.ReplyLaws.{notified, part_short}
use Rattle.written_back.proofs.notices.notify.Goals as goal

pub describe-requires : goal.describe-requires
describe-requires c = part_short _ _ _ c.described-p.ensures.short

pub returns : goal.returns
returns c = notified c.args.refusal (sym c.described-p.ensures.is) c.describe.ensures
