use Rattle.spells.specs.Runs.{Kept}
use Rattle.spells.proofs.escapes.stay_run.Given as goal

abbrev pub invariant-loop-i : goal.invariant-loop-i
invariant-loop-i l = Kept l.text l.at l.i
