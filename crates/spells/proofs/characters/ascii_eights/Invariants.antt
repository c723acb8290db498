use Prim.Native.Nat.{◌-◌}
use lib.ListN.{length}
use Rattle.spells.specs.Along.{Passes}
use Rattle.spells.proofs.characters.ascii_eights.Given as goal

abbrev pub invariant-loop-i : goal.invariant-loop-i
invariant-loop-i l = Passes l.v l.at l.i

abbrev pub decreases-loop-i : goal.decreases-loop-i
decreases-loop-i l = length l.v - l.i
