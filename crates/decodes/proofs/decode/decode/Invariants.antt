use Prim.Native.Nat.{◌-◌}
use lib.ListN.{length}
use Rattle.decodes.proofs.DecodeLaws.{Filled}
use Rattle.decodes.proofs.decode.decode.Given as goal

abbrev pub invariant-loop-i : goal.invariant-loop-i
invariant-loop-i l = Filled l.raw l.initial.out l.out l.i l.n

abbrev pub decreases-loop-i : goal.decreases-loop-i
decreases-loop-i l = length l.raw - l.i
