use Prim.Native.Nat.{◌-◌}
use lib.ListN.{length}
use Rattle.decodes.proofs.DecodeLaws.{Counted}
use Rattle.decodes.proofs.decode.text_len.Given as goal

abbrev pub invariant-loop-i : goal.invariant-loop-i
invariant-loop-i l = Counted l.raw l.i l.n

abbrev pub decreases-loop-i : goal.decreases-loop-i
decreases-loop-i l = length l.raw - l.i
