use Prim.Native.Nat.{◌-◌, ◌≤◌}
use Rattle.tags.specs.Names.{Lacks}
use Rattle.tags.proofs.attributes.next.Given as goal

abbrev pub invariant-loop-i : goal.invariant-loop-i
invariant-loop-i l = (l.at ≤ l.i) × (l.i ≤ l.stop) × Lacks l.q l.s l.at (l.i - l.at)
