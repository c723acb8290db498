use Prim.Native.Nat.{◌-◌}
use lib.ListN.{length}
use Rattle.pieces.specs.Parts.{InValue}
use Rattle.pieces.proofs.values.value.Given as goal

abbrev pub invariant-loop-i : goal.invariant-loop-i
invariant-loop-i l = InValue l.q l.s l.at l.i

abbrev pub decreases-loop-i : goal.decreases-loop-i
decreases-loop-i l = length l.s - l.i
