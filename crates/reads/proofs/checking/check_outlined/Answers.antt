-- By whether the message is refused.
use native.Mathlib.Omega.{arith}
use lib.ListN.{length}
use Rattle.reads.proofs.CheckLaws.{into_accepted, into_refused, all_cells, cleared_so}
use Rattle.reads.proofs.checking.check_outlined.Goals as goal

-- By whether the message is refused.
pub returns-then-o-eq0 : goal.returns-then-o-eq0
returns-then-o-eq0 c = into_accepted c.requires.0 c.tell-o.ensures c.if-o-eq0.true c.take_id-id.ensures c.told.ensures (let n = all_cells c.requires.0 in omega arith)

pub returns : goal.returns
returns c = into_refused c.tell-o.ensures c.if-o-eq0.false (cleared_so (length c.tell-o.new.cells) c.clear.ensures (let n = all_cells c.requires.0 in omega arith)) c.told-2.ensures
