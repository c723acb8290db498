use Rattle.reader.proofs.declaration.Laws.{Fold}
use Rattle.reader.proofs.declaration.folded.Given as goal

abbrev pub invariant-loop-k : goal.invariant-loop-k
invariant-loop-k l = Fold l.s l.at l.a l.c l.k
