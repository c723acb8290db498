-- The invariant: what lies behind is plain.
use native.Mathlib.Omega.{arith}
use Rattle.pieces.proofs.RunLaws.{run_none, run_many}
use Rattle.pieces.proofs.runs.eights.Goals as goal

pub loop-i-init : goal.loop-i-init
loop-i-init c = run_none _ _ _ c.requires

pub returns-then-not-eight_clear : goal.returns-then-not-eight_clear
returns-then-not-eight_clear c = c.loop-i.invariant

pub loop-i-preserved : goal.loop-i-preserved
loop-i-preserved c = run_many _ _ _ 8 _ c.loop-i.invariant (omega arith) (c.eight_clear.ensures c.if-not-eight_clear.false)

pub returns : goal.returns
returns c = c.loop-i.invariant
