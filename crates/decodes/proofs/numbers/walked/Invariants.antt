use Prim.Native.Nat.{◌-◌}
use lib.ListN.{length}
use Rattle.decodes.proofs.NumberLaws.{Scanned}
use Rattle.decodes.proofs.numbers.walked.Given as goal

abbrev pub invariant-loop-i : goal.invariant-loop-i
invariant-loop-i l = Scanned l.raw l.i l.s

abbrev pub decreases-loop-i : goal.decreases-loop-i
decreases-loop-i l = length l.raw - l.i
