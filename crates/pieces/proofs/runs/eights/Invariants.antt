use Prim.Native.Nat.{◌-◌}
use lib.ListN.{length}
use Rattle.pieces.specs.Parts.{PlainRun}
use Rattle.pieces.proofs.runs.eights.Given as goal

abbrev pub invariant-loop-i : goal.invariant-loop-i
invariant-loop-i l = PlainRun l.q l.s l.at l.i

abbrev pub decreases-loop-i : goal.decreases-loop-i
decreases-loop-i l = length l.s - l.i
