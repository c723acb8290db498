use mathlib.Core.Path.{◌≡◌}
use lib.ListN.{length}
use Rattle.listing.proofs.ListLaws.{Going}
use Rattle.listing.proofs.list.Given as goal

abbrev pub invariant-loop-turns : goal.invariant-loop-turns
invariant-loop-turns g l = (length l.buf ≡ length l.initial.buf) × (length l.out ≡ length l.initial.out) × Going l.turns l.w l.buf l.waiting l.out

abbrev pub decreases-loop-turns : goal.decreases-loop-turns
decreases-loop-turns g l = l.turns
