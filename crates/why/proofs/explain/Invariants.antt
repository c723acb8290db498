use mathlib.Core.Path.{◌≡◌}
use Prim.Native.Nat.{◌≤◌}
use lib.ListN.{length}
use Rattle.windows.specs.Held.{Held}
use Rattle.why.proofs.explain.Given as goal

abbrev pub invariant-loop-turns : goal.invariant-loop-turns
invariant-loop-turns g l = (length l.buf ≡ length l.initial.buf) × (length l.out ≡ length l.initial.out) × Held l.w (length l.buf) × (l.waiting ≤ length l.out)

abbrev pub decreases-loop-turns : goal.decreases-loop-turns
decreases-loop-turns g l = l.turns
