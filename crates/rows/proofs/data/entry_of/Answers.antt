-- The entry at the place before the number.
use Rattle.std.proofs.Common.{arith}
use Rattle.rows.proofs.EntryLaws.{no_kind, entered}
use Rattle.rows.proofs.data.entry_of.Goals as goal

-- The entry at the place before the number.
pub returns-in_err-place : goal.returns-in_err-place
returns-in_err-place c = rw c.from_residual.ensures (no_kind c.args.kind (let n = c.in_err-place.ensures in omega arith))

pub returns : goal.returns
returns c = entered c.entries.ensures c.args.kind c.in_ok-place.place c.get.result (let n = c.in_ok-place.ensures in omega arith) c.get.ensures.lookup.0 c.get.ensures.lookup.1
