-- The run takes the state behind the point to the one behind its digits.
use mathlib.Core.Path.{◌∙◌}
use Rattle.numerals.specs.Ahead.{part_of}
use Rattle.numerals.proofs.AheadLaws.{part_steps, behind_run}
use Rattle.numerals.proofs.ahead.part_ahead.Goals as goal

pub returns : goal.returns
returns c = c.stepped.ensures ∙ behind_run c.args.v.now c.args.n part_of part_steps c.digit_run-r.ensures
