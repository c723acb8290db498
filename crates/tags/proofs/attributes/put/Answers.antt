-- Four stores are the row that is stored.
use mathlib.Core.Path.{refl}
use native.Mathlib.Omega.{arith}
use lib.ListN.{length-set}
use Rattle.tags.specs.Places.{stored}
use Rattle.tags.proofs.PlaceLaws.{stored_long}
use Rattle.tags.proofs.attributes.put.Goals as goal

-- Four stores are the row that is stored.
pub returns-then-table-n : goal.returns-then-table-n
returns-then-table-n c = record { long = refl; row = λ h k. absurd (omega (arith, h, c.if-table-n.true)) }

pub returns-then-end-gt65535 : goal.returns-then-end-gt65535
returns-then-end-gt65535 c = record { long = refl; row = λ h k. absurd (omega (arith, k, c.if-end-gt65535.true)) }

pub bounds-table-n-2 : goal.bounds-table-n-2
bounds-table-n-2 c = simp length-set (omega (arith, c.if-table-n.false))

pub bounds-table-n-3 : goal.bounds-table-n-3
bounds-table-n-3 c = simp length-set (omega (arith, c.if-table-n.false))

pub returns : goal.returns
unfolding stored
returns c = record { long = stored_long c.args.table.now c.args.n c.args.name c.args.past c.args.value c.args.end; row = λ h k. refl }
