use Rattle.numerals.proofs.CodeLaws.{Passed}
use Rattle.decodes.proofs.numbers.char_step.Given as goal

abbrev pub invariant-loop-b : goal.invariant-loop-b
invariant-loop-b l = Passed l.fn.from l.b-items l.b-index l.s
