use Rattle.std.proofs.Common.{◌-◌, length}
use Rattle.windows.proofs.WindowLaws.{Reading}
use Rattle.windows.proofs.window.fill.Given as goal

abbrev pub invariant-loop-len : goal.invariant-loop-len
invariant-loop-len g l = Reading l.from l.initial.buf l.buf l.len

abbrev pub decreases-loop-len : goal.decreases-loop-len
decreases-loop-len g l = length l.buf - l.len
