use Rattle.pieces.specs.Parts.{PlainRun}
use Rattle.pieces.proofs.runs.run.Given as goal

abbrev pub invariant-loop-i : goal.invariant-loop-i
invariant-loop-i l = PlainRun l.q l.s l.at l.i
