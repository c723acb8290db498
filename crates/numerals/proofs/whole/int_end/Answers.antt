-- `int_end` is the definition, test by test.
use Rattle.numerals.specs.Scan.{int_end}
use Rattle.numerals.proofs.Picks.{picks}
use Rattle.numerals.proofs.whole.int_end.Goals as goal

pub returns-then-is_broken : goal.returns-then-is_broken
unfolding int_end
returns-then-is_broken c = search picks

pub returns : goal.returns
unfolding int_end
returns c = search picks
