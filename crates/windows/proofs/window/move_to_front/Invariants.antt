use Rattle.windows.proofs.WindowLaws.{Moved}
use Rattle.std.proofs.Common.{◌-◌}
use Rattle.windows.proofs.window.move_to_front.Given as goal

abbrev pub invariant-loop-i : goal.invariant-loop-i
invariant-loop-i l = Moved l.initial.buf l.from l.n l.buf l.i

abbrev pub decreases-loop-i : goal.decreases-loop-i
decreases-loop-i l = l.n - l.i
