use mathlib.Core.Path.{sym}
use Rattle.numerals.specs.Scan.{power_end}
use Rattle.numerals.proofs.positive.power_end.Goals as goal

pub returns-then-minus : goal.returns-then-minus
unfolding power_end
returns-then-minus c = rw (c.if-minus.true, sym c.far-up.ensures, sym c.far.ensures) c.scaled.ensures

pub returns-else-minus : goal.returns-else-minus
unfolding power_end
returns-else-minus c = rw (c.if-minus.false, sym c.far-up.ensures, sym c.far-else-minus.ensures) c.scaled-else-minus.ensures
