-- `number_end` is the definition, test by test.
use mathlib.Core.Path.{sym, ◌∙◌}
use Rattle.numerals.specs.Scan.{number_end}
use Rattle.numerals.proofs.positive.number_end.Goals as goal

pub returns-then-is_broken : goal.returns-then-is_broken
unfolding number_end
returns-then-is_broken c = rw (sym c.is_broken.ensures ∙ c.if-is_broken.true)

pub returns : goal.returns
unfolding number_end
returns c = rw (sym c.is_broken.ensures ∙ c.if-is_broken.false) c.body_end.ensures
