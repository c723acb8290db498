-- A Notification with the description.
use native.Mathlib.Omega.{arith}
use Rattle.written_back.proofs.notices.describe.Goals as goal

-- A Notification with the description.
pub framed-requires : goal.framed-requires
framed-requires c = (omega arith, c.requires, omega arith)

pub returns : goal.returns
returns c = c.framed.ensures
