use Prim.Native.Nat.{◌-◌}
use lib.ListN.{length}
use Rattle.fillers.specs.Fills.{site_of}
use Rattle.fillers.proofs.FillLaws.{InFill}
use Rattle.fillers.proofs.bits.Given as goal

abbrev pub invariant-loop-j : goal.invariant-loop-j
invariant-loop-j l = InFill (site_of l.below) l.s l.at l.i

abbrev pub decreases-loop-j : goal.decreases-loop-j
decreases-loop-j l = length l.s - l.i
