use Rattle.spelling.proofs.DecimalLaws.{Cutting}
use Rattle.spells.proofs.numbers.cut.Given as goal

abbrev pub invariant-loop-k : goal.invariant-loop-k
invariant-loop-k l = Cutting l.n l.least l.m l.k

abbrev pub decreases-loop-k : goal.decreases-loop-k
decreases-loop-k l = l.k
