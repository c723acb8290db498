-- A CheckAlive of Type 2 with an Id.
use native.Mathlib.Omega.{arith}
use Rattle.written_back.proofs.ReplyLaws.{same_short, same_long}
use Rattle.written_back.proofs.alive.reply_with.Goals as goal

-- A CheckAlive of Type 2 with an Id.
pub returns-then-v-gt80 : goal.returns-then-v-gt80
returns-then-v-gt80 c = same_long c.if-v-gt80.true

pub framed-requires : goal.framed-requires
framed-requires c = (omega arith, c.if-v-gt80.false, omega arith)

pub returns : goal.returns
returns c = same_short c.if-v-gt80.false c.framed.ensures
