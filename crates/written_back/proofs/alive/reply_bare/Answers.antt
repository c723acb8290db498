-- A CheckAlive of Type 2 without an Id.
use native.Mathlib.Omega.{arith}
use Rattle.written_back.proofs.alive.reply_bare.Goals as goal

-- A CheckAlive of Type 2 without an Id.
pub framed-requires : goal.framed-requires
framed-requires c = (omega arith, omega arith, omega arith)

pub returns : goal.returns
returns c = c.framed.ensures
