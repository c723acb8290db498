use Rattle.printing.proofs.PutLaws.{Putting}
use Rattle.printing.proofs.bytes.put.Given as goal

abbrev pub invariant-loop-i : goal.invariant-loop-i
invariant-loop-i l = Putting l.initial.out l.at l.m l.out l.i
