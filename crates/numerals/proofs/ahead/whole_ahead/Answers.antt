-- The run takes the state behind the first digit to the one behind the last before the point.
use mathlib.Core.Path.{◌∙◌}
use native.Mathlib.Omega.{arith}
use Rattle.numerals.specs.Ahead.{whole_of}
use Rattle.numerals.proofs.AheadLaws.{whole_steps, behind_run, point_first}
use Rattle.numerals.proofs.ahead.whole_ahead.Goals as goal

pub returns-in-46 : goal.returns-in-46
returns-in-46 c = c.part_ahead.ensures ∙ point_first _ c.digit_run-r.result.n c.digit_run-r.result.len c.in-46.len_at_least (omega arith) ∙ behind_run c.args.v.now c.args.n whole_of whole_steps c.digit_run-r.ensures

pub returns : goal.returns
returns c = c.stepped.ensures ∙ behind_run c.args.v.now c.args.n whole_of whole_steps c.digit_run-r.ensures
