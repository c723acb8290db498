-- No point where no digit stands behind it; else the point and the digits.
use mathlib.Core.Path.{ap}
use native.Mathlib.Omega.{arith}
use lib.ListN.{length}
use Rattle.printing.specs.Writes.{wrote_none, ◌then◌}
use Rattle.spelling.proofs.DecimalLaws.{point_none, point_digits}
use Rattle.spells.proofs.numbers.put_part.Goals as goal

-- No point where no digit stands behind it; else the point and the digits.
pub cut-p-requires : goal.cut-p-requires
cut-p-requires c = c.requires.0

pub returns-then-k-eq0 : goal.returns-then-k-eq0
returns-then-k-eq0 c = rw (point_none c.args.n c.args.least _ _ c.cut-p.ensures.1 c.if-k-eq0.true) (wrote_none _ _)

pub put_byte-behind-requires : goal.put_byte-behind-requires
put_byte-behind-requires c = omega (arith, ap length (point_digits c.args.n c.args.least _ _ c.cut-p.ensures.1 c.if-k-eq0.false), c.requires.1)

pub put_places-requires : goal.put_places-requires
put_places-requires c = omega (arith, ap length (point_digits c.args.n c.args.least _ _ c.cut-p.ensures.1 c.if-k-eq0.false), c.requires.1, c.put_byte-behind.ensures.next)

pub returns : goal.returns
returns c = rw (point_digits c.args.n c.args.least _ _ c.cut-p.ensures.1 c.if-k-eq0.false) (c.put_byte-behind.ensures then c.put_places.ensures)
