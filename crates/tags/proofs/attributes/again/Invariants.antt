use Prim.Native.Nat.{◌-◌}
use Rattle.tags.proofs.WalkLaws.{Walk}
use Rattle.tags.proofs.attributes.again.Given as goal

abbrev pub invariant-loop-first : goal.invariant-loop-first
invariant-loop-first l = Walk l.s l.first l.at l.to l.i

abbrev pub decreases-loop-first : goal.decreases-loop-first
decreases-loop-first l = l.at - l.i
