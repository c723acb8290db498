use Prim.Native.Nat.{◌+◌, ◌≤◌}
use lib.ListN.{length}
use Rattle.scan.proofs.Chain.{Rest}
use Rattle.scan.proofs.literal.Given as goal

abbrev pub invariant-loop-b : goal.invariant-loop-b
invariant-loop-b l = (l.at + l.b-index ≤ l.i) × (l.i ≤ length l.s) × Rest l.s l.at l.word l.b-index l.i
