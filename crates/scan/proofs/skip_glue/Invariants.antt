use Prim.Native.Nat.{◌-◌}
use lib.ListN.{length}
use Rattle.model.specs.Glue.{always}
use Rattle.grammar.specs.Bytes.{every}
use Rattle.grammar.specs.Glue.{is_glue}
use Rattle.scan.specs.Pieces.{Walked}
use Rattle.scan.proofs.skip_glue.Given as goal

abbrev pub invariant-loop-i : goal.invariant-loop-i
invariant-loop-i l = Walked (every is_glue) always l.s l.at l.i

abbrev pub decreases-loop-i : goal.decreases-loop-i
decreases-loop-i l = length l.s - l.i
