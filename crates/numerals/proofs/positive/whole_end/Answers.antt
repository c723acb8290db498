use Rattle.numerals.specs.Scan.{whole_end, millionths_of}
use Rattle.numerals.proofs.positive.whole_end.Goals as goal

pub returns-then-minus : goal.returns-then-minus
unfolding whole_end millionths_of
returns-then-minus c = rw c.if-minus.true

pub returns-else-minus : goal.returns-else-minus
unfolding whole_end
returns-else-minus c = rw c.if-minus.false c.power_end.ensures
