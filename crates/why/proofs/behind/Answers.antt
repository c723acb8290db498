-- By the refusal.
use mathlib.Core.Bool.{false}
use native.Mathlib.Omega.{arith}
use lib.ListN.{length}
use Rattle.windows.proofs.LineLaws.{left_room}
use Rattle.why.proofs.ReasonLaws.{behind_none, behind_some}
use Rattle.why.proofs.behind.Goals as goal

-- By the refusal.
pub returns-then-refusal-eq0 : goal.returns-then-refusal-eq0
returns-then-refusal-eq0 g c = behind_none c.if-refusal-eq0.true (omega arith)

pub explained-put-requires : goal.explained-put-requires
explained-put-requires g c = record { held = c.requires.held; waiting_in_bounds = left_room false (length c.args.out.now) c.args.waiting c.made_room-room.ensures (omega arith) }

pub returns : goal.returns
returns g c = behind_some c.if-refusal-eq0.false c.made_room-room.ensures c.explained-put.ensures
