use Prim.Native.Nat.{◌≤◌, ◌-◌}
use lib.ListN.{length, take}
use Rattle.spelling.specs.Written.{escape}
use Rattle.printing.specs.Put.{Wrote}
use Rattle.spells.proofs.escapes.put_escaped.Given as goal

abbrev pub invariant-loop-i : goal.invariant-loop-i
invariant-loop-i l = (l.i ≤ length l.text) × Wrote l.initial.out l.at (escape (take l.i l.text)) l.out l.next

abbrev pub decreases-loop-i : goal.decreases-loop-i
decreases-loop-i l = length l.text - l.i
