use mathlib.Core.List.{[]}
use Rattle.model.specs.Names.{live, new}
use Rattle.scan.specs.Pieces.{Walked}
use Rattle.scan.proofs.name.Given as goal

abbrev pub invariant-loop-i : goal.invariant-loop-i
invariant-loop-i l = Walked (live []) (new []) l.s l.at l.i
