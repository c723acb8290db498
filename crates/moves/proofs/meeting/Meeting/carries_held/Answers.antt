-- Of other messages the chart does not ask which id they carry.
use native.Mathlib.Omega.{arith}
use Rattle.moves.proofs.AskedLaws.{below, above}
use Rattle.moves.proofs.meeting.Meeting.carries_held.Goals as goal

pub returns-in_default : goal.returns-in_default
returns-in_default c = below c.args.self.lane c.args.self.event (omega arith)

pub returns-in_default-2 : goal.returns-in_default-2
returns-in_default-2 c = above c.args.self.lane c.args.self.event (omega arith)
