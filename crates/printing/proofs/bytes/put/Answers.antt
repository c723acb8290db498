-- The invariant: the first i bytes are put.
use native.Mathlib.Omega.{arith}
use Rattle.printing.proofs.PutLaws.{putting_none, putting_more, putting_end}
use Rattle.printing.proofs.bytes.put.Goals as goal

pub loop-i-init : goal.loop-i-init
loop-i-init c = putting_none _ _ _

pub loop-i-preserved : goal.loop-i-preserved
loop-i-preserved c = putting_more c.loop-i.invariant (omega arith)

pub returns : goal.returns
returns c = putting_end c.loop-i.invariant (omega arith)
