use Prim.Native.Nat.{◌-◌}
use Rattle.numerals.proofs.CodeLaws.{Lowering}
use Rattle.numerals.proofs.positive.lowered.Given as goal

abbrev pub invariant-loop : goal.invariant-loop
invariant-loop l = Lowering l.n l.k l.m (l.k - l.counter)
