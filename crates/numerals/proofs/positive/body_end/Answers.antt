-- A number with its digits behind the point, or none.
use mathlib.Core.Path.{refl}
use native.Mathlib.Omega.{arith}
use Rattle.numerals.specs.Scan.{body_end, number_body_end, body_decimals}
use Rattle.numerals.proofs.Picks.{known}
use Rattle.numerals.proofs.Cases.{no_end}
use Rattle.numerals.proofs.CodeLaws.{told_none, told_some}
use Rattle.numerals.proofs.positive.body_end.Goals as goal

pub returns-in_err-whole_end-in-Whole : goal.returns-in_err-whole_end-in-Whole
unfolding body_end number_body_end body_decimals
returns-in_err-whole_end-in-Whole c = known body_end c.in-Whole.is (told_none _ 0 c.whole_end.ensures c.in_err-whole_end-in-Whole.was c.from_residual.ensures)

pub returns-in_ok-whole_end-in-Whole : goal.returns-in_ok-whole_end-in-Whole
unfolding body_end number_body_end body_decimals
returns-in_ok-whole_end-in-Whole c = known body_end c.in-Whole.is (told_some _ 0 0 c.whole_end.ensures c.in_ok-whole_end-in-Whole.was refl)

pub returns-in_err-power_end-in-Part : goal.returns-in_err-power_end-in-Part
unfolding body_end number_body_end body_decimals
returns-in_err-power_end-in-Part c = known body_end c.in-Part.is (told_none _ _ c.power_end.ensures c.in_err-power_end-in-Part.was c.from_residual-in_err-power_end-in-Part.ensures)

pub returns-in_ok-power_end-in-Part : goal.returns-in_ok-power_end-in-Part
unfolding body_end number_body_end body_decimals
returns-in_ok-power_end-in-Part c = known body_end c.in-Part.is (told_some _ _ _ c.power_end.ensures c.in_ok-power_end-in-Part.was (omega arith))

pub returns-in_err-power_end-in-Power : goal.returns-in_err-power_end-in-Power
unfolding body_end number_body_end body_decimals
returns-in_err-power_end-in-Power c = known body_end c.in-Power.is (told_none _ 0 c.power_end-in-Power.ensures c.in_err-power_end-in-Power.was c.from_residual-in_err-power_end-in-Power.ensures)

pub returns-in_ok-power_end-in-Power : goal.returns-in_ok-power_end-in-Power
unfolding body_end number_body_end body_decimals
returns-in_ok-power_end-in-Power c = known body_end c.in-Power.is (told_some _ 0 0 c.power_end-in-Power.ensures c.in_ok-power_end-in-Power.was refl)

pub returns-in_default : goal.returns-in_default
returns-in_default c = no_end _ c.in_default.not-Whole c.in_default.not-Part c.in_default.not-Power
