use Prim.Native.Nat.{◌-◌, ◌≤◌}
use Rattle.tags.specs.Names.{Part}
use Rattle.tags.proofs.attributes.letter_eights.Given as goal

abbrev pub invariant-loop-i : goal.invariant-loop-i
invariant-loop-i l = Part l.s l.at l.i × (l.i ≤ l.stop)

abbrev pub decreases-loop-i : goal.decreases-loop-i
decreases-loop-i l = l.stop - l.i
