-- The invariant: whole characters lie behind.
use native.Mathlib.Omega.{arith}
use Rattle.spells.proofs.TextLaws.{passes_none, passes_on}
use Rattle.spells.proofs.characters.ascii_eights.Goals as goal

pub loop-i-init : goal.loop-i-init
loop-i-init c = passes_none _ _ c.requires

pub returns-then-not-eight_clear : goal.returns-then-not-eight_clear
returns-then-not-eight_clear c = c.loop-i.invariant

pub loop-i-preserved : goal.loop-i-preserved
loop-i-preserved c = passes_on 8 _ c.loop-i.invariant (omega arith) (c.eight_clear.ensures c.if-not-eight_clear.false)

pub returns : goal.returns
returns c = c.loop-i.invariant
