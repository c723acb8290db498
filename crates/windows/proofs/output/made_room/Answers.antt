-- What waits stays where there is room, and nothing is waited for.
use Rattle.std.proofs.Common.{length, arith}
use Rattle.windows.proofs.LineLaws.{left_all, left_none}
use Rattle.windows.proofs.output.made_room.Goals as goal

-- What waits stays where there is room, and nothing is waited for.
pub returns-then-at-most : goal.returns-then-at-most
returns-then-at-most g c = left_all c.args.dry (length c.args.out.now) c.args.at c.most.ensures (omega arith) c.if-at-most.true

pub returns : goal.returns
returns g c = left_none c.args.dry (length c.args.out.now) c.args.at c.most.ensures c.if-at-most.false c.emptied.ensures
