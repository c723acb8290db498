-- The invariant: what lies behind is written as it is.
use native.Mathlib.Omega.{arith}
use Rattle.spells.proofs.RunLaws.{kept_none, kept_on}
use Rattle.spells.proofs.escapes.stay_eights.Goals as goal

pub loop-i-init : goal.loop-i-init
loop-i-init c = kept_none _ _ c.requires

pub returns-then-not-eight_stay : goal.returns-then-not-eight_stay
returns-then-not-eight_stay c = c.loop-i.invariant

pub loop-i-preserved : goal.loop-i-preserved
loop-i-preserved c = kept_on 8 c.loop-i.invariant (omega arith) (c.eight_stay.ensures c.if-not-eight_stay.false)

pub returns : goal.returns
returns c = c.loop-i.invariant
