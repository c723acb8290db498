-- By whether the kind has an id, and whether it is there.
use Rattle.std.proofs.Common.{sym, arith}
use Rattle.cells.proofs.IdLaws.{named_none, named_absent, named_there}
use Rattle.cells.proofs.ids.named_id.Goals as goal

-- By whether the kind has an id, and whether it is there.
pub returns-in-Some : goal.returns-in-Some
returns-in-Some c = named_there c.args.kind c.args.cells.now c.args.id (sym c.in-Some.ensures.0) (let n = c.in-Some.ensures.1 in omega arith) c.number_at.ensures c.if-number_at-ne0.true

pub returns-in_default : goal.returns-in_default
returns-in_default c = named_absent c.args.kind c.args.cells.now c.args.id (sym c.in-Some.ensures.0) (let n = c.in-Some.ensures.1 in omega arith) c.number_at.ensures c.if-number_at-ne0.false

pub returns-in_default-2 : goal.returns-in_default-2
returns-in_default-2 c = named_none c.args.kind c.args.cells.now c.args.id (sym c.in_default.ensures) (omega arith)
