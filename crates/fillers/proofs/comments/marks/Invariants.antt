use Prim.Native.Nat.{◌-◌}
use lib.ListN.{length}
use Rattle.fillers.proofs.CommentLaws.{InMarks}
use Rattle.fillers.proofs.comments.marks.Given as goal

abbrev pub invariant-loop-i : goal.invariant-loop-i
invariant-loop-i l = InMarks l.s l.at l.i

abbrev pub decreases-loop-i : goal.decreases-loop-i
decreases-loop-i l = length l.s - l.i
