-- Digits with no point behind them, or another body.
use mathlib.Core.Path.{ap}
use Rattle.std.specs.Prelude.{Some}
use Rattle.numerals.specs.Scan.{int_body_end}
use Rattle.numerals.proofs.Picks.{known}
use Rattle.numerals.proofs.Cases.{no_int_lem}
use Rattle.numerals.proofs.whole.body_end.Goals as goal

pub returns-in_default : goal.returns-in_default
returns-in_default c = no_int_lem _ c.in_default.not-Whole

pub returns-in-Whole : goal.returns-in-Whole
unfolding int_body_end
returns-in-Whole c = known int_body_end c.in-Whole.is (ap Some c.sized_as.ensures)
