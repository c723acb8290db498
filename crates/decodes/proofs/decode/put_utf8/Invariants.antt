use Prim.Native.Nat.{min}
use lib.ListN.{length}
use Rattle.grammar.specs.Character.{utf8}
use Rattle.decodes.proofs.DecodeLaws.{Putting}
use Rattle.decodes.proofs.decode.put_utf8.Given as goal

abbrev pub invariant-loop-k : goal.invariant-loop-k
invariant-loop-k l = Putting l.initial.out l.n (utf8 l.c) l.out (min l.k (length (utf8 l.c)))
