use mathlib.Core.Path.{◌≡◌}
use lib.ListN.{length}
use Rattle.reads.proofs.IdLaws.{Clear}
use Rattle.reads.proofs.ids.is_clear.Given as goal

abbrev pub invariant-loop-byte : goal.invariant-loop-byte
invariant-loop-byte l = (length l.raw ≡ 36) × Clear l.raw l.least l.byte-index
