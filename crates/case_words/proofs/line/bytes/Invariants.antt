use Prim.Native.Nat.{◌-◌}
use lib.ListN.{length}
use Rattle.case_words.proofs.line.bytes.Given as goal

abbrev pub decreases-loop-at : goal.decreases-loop-at
decreases-loop-at l = length l.s - l.at
