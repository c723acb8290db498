-- `sized_as` is the definition, test by test.
use native.Mathlib.Omega.{arith}
use Rattle.numerals.specs.Scan.{sized_as}
use Rattle.numerals.proofs.CodeLaws.{size_told}
use Rattle.numerals.proofs.Picks.{picks}
use Rattle.numerals.proofs.whole.sized_as.Goals as goal

pub returns-then-d-eq0 : goal.returns-then-d-eq0
unfolding sized_as
returns-then-d-eq0 c = search picks

pub returns : goal.returns
returns c = size_told c.args.minus c.args.d _ c.if-d-eq0.false (omega arith)
