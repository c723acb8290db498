use Prim.Native.Nat.{◌-◌}
use lib.ListN.{length}
use Rattle.fillers.proofs.TextLaws.{InText}
use Rattle.fillers.proofs.texts.text.Given as goal

abbrev pub invariant-loop-i : goal.invariant-loop-i
invariant-loop-i l = InText l.s l.at l.i l.n

abbrev pub decreases-loop-i : goal.decreases-loop-i
decreases-loop-i l = length l.s - l.i
