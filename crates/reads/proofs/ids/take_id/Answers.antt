-- By whether the kind has an id, and whether it is there.
use Rattle.std.proofs.Common.{sym, arith}
use Rattle.reads.proofs.IdLaws.{takes_none, takes_absent, takes_there}
use Rattle.reads.proofs.ids.take_id.Goals as goal

-- By whether the kind has an id, and whether it is there.
pub returns-in_default : goal.returns-in_default
returns-in_default c = takes_none c.args.s.now c.args.kind c.args.cells.now (sym c.in_default.ensures) c.requires (omega arith)

pub returns-then-there-eq0 : goal.returns-then-there-eq0
returns-then-there-eq0 c = takes_absent c.args.s.now c.args.kind c.args.cells.now (sym c.in-Some.ensures.0) c.requires (let n = c.in-Some.ensures.1 in omega arith) c.put.ensures c.if-there-eq0.true

pub returns : goal.returns
returns c = takes_there c.args.s.now c.args.kind c.args.cells.now (sym c.in-Some.ensures.0) c.requires (let n = c.in-Some.ensures.1 in omega arith) c.put.ensures c.if-there-eq0.false c.id_at.ensures
