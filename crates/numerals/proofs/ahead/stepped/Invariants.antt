use Rattle.numerals.proofs.CodeLaws.{Passed}
use Rattle.numerals.proofs.ahead.stepped.Given as goal

abbrev pub invariant-loop-b : goal.invariant-loop-b
invariant-loop-b l = Passed l.fn.from l.v l.b-index l.s
