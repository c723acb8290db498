use Prim.Native.Nat.{◌≤◌}
use Rattle.refusals.specs.Numbers.{told}
use Rattle.reads.proofs.LoopLaws.{Going}
use Rattle.reads.proofs.kind_rows.check_rows.Given as goal

abbrev pub invariant-loop-i : goal.invariant-loop-i
invariant-loop-i l = Going l.attributes.message.now l.attributes.base l.attributes.table.now l.attributes.count l.sort.features l.rows l.initial.cells l.cells (told l.answer) l.i × (l.guess ≤ l.i)
