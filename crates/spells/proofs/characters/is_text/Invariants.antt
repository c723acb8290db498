use Prim.Native.Nat.{◌-◌}
use lib.ListN.{length}
use Rattle.spells.specs.Along.{Along}
use Rattle.spells.proofs.characters.is_text.Given as goal

abbrev pub invariant-loop-i : goal.invariant-loop-i
invariant-loop-i l = Along l.v l.i

abbrev pub decreases-loop-i : goal.decreases-loop-i
decreases-loop-i l = length l.v - l.i
