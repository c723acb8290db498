-- The product is cut at the top, which is none too, and the tests are the limits.
use mathlib.Core.Path.{ap}
use Rattle.numerals.specs.Scan.{millionths_of}
use Rattle.numerals.proofs.CodeLaws.{limit_in, limit_out}
use Rattle.numerals.proofs.positive.limit.Goals as goal

pub returns-then-m-lt-TOP : goal.returns-then-m-lt-TOP
unfolding millionths_of
returns-then-m-lt-TOP c = ap millionths_of (limit_in _ c.shifted-m.ensures c.if-m-gt0.true c.if-m-lt-TOP.true)

pub returns-else-m-gt0 : goal.returns-else-m-gt0
unfolding millionths_of
returns-else-m-gt0 c = ap millionths_of (limit_out _ c.shifted-m.ensures c.else-m-gt0.either)
