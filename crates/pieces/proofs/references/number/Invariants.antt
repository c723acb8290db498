use Rattle.pieces.proofs.NumeralLaws.{Counted}
use Rattle.pieces.proofs.references.number.Given as goal

abbrev pub invariant-loop-i : goal.invariant-loop-i
invariant-loop-i l = Counted l.hex l.s l.at l.v l.i l.left
