use Prim.Native.Nat.{◌-◌}
use lib.ListN.{length}
use Rattle.tags.proofs.HeadLaws.{InHead}
use Rattle.tags.proofs.attributes.head.Given as goal

abbrev pub invariant-loop-j : goal.invariant-loop-j
invariant-loop-j l = InHead l.may l.s l.at l.initial.table l.table l.marks l.n l.i

abbrev pub decreases-loop-j : goal.decreases-loop-j
decreases-loop-j l = length l.s - l.i
