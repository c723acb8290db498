-- The invariant: none of the bytes so far is the one that is looked for.
use native.Mathlib.Omega.{arith}
use Rattle.tags.proofs.CompareLaws.{lacks_eight}
use Rattle.tags.proofs.attributes.clear_eights.Goals as goal

pub loop-i-preserved : goal.loop-i-preserved
loop-i-preserved c = (omega arith, omega arith, lacks_eight c.args.s.now c.args.at c.loop-i.i c.loop-i.invariant.0 (omega arith) c.loop-i.invariant.2 c.if-not-contains.true c.contains.ensures.value)
