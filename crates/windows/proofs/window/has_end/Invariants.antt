use Rattle.std.proofs.Common.{◌≡◌, ◌-◌, length, drop}
use Rattle.windows.specs.Held.{has_end}
use Rattle.windows.proofs.window.has_end.Given as goal

abbrev pub invariant-loop-k : goal.invariant-loop-k
invariant-loop-k l = has_end l.s ≡ has_end (drop l.k l.s)

abbrev pub decreases-loop-k : goal.decreases-loop-k
decreases-loop-k l = length l.s - l.k
