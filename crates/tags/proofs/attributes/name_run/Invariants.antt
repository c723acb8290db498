use Prim.Native.Nat.{◌-◌}
use Rattle.tags.specs.Names.{Part}
use Rattle.tags.proofs.attributes.name_run.Given as goal

abbrev pub invariant-loop-i : goal.invariant-loop-i
invariant-loop-i l = Part l.s l.at l.i

abbrev pub decreases-loop-i : goal.decreases-loop-i
decreases-loop-i l = l.stop - l.i
