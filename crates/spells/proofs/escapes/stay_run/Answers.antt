-- The invariant: what lies behind is written as it is.
use native.Mathlib.Omega.{arith}
use Rattle.spells.proofs.RunLaws.{kept_one, kept_all}
use Rattle.spells.proofs.escapes.stay_run.Goals as goal

pub stay_eights-i-requires : goal.stay_eights-i-requires
stay_eights-i-requires c = c.requires

pub loop-i-init : goal.loop-i-init
loop-i-init c = c.stay_eights-i.ensures

pub returns-then-stays-eq0 : goal.returns-then-stays-eq0
returns-then-stays-eq0 c = c.loop-i.invariant

pub loop-i-preserved : goal.loop-i-preserved
loop-i-preserved c = kept_one c.loop-i.invariant c.loop-i-test.true (c.stays.ensures.same (omega (arith, c.stays.ensures.small, c.if-stays-eq0.false)))

pub returns : goal.returns
returns c = kept_all c.loop-i.invariant c.loop-i-test.false
