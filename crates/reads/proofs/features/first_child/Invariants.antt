use Prim.Native.Nat.{◌-◌}
use lib.ListN.{length}
use Rattle.reads.proofs.ChildLaws.{Searched}
use Rattle.reads.proofs.features.first_child.Given as goal

abbrev pub invariant-loop-child : goal.invariant-loop-child
invariant-loop-child l = Searched l.s l.inside l.name l.at

abbrev pub decreases-loop-child : goal.decreases-loop-child
decreases-loop-child l = length l.s - l.at
