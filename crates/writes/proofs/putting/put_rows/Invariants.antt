use Rattle.rows.specs.Coding.{as_rows}
use Rattle.rows.proofs.RowLaws.{left}
use Rattle.writes.specs.Rows.{attributes_from}
use Rattle.writes.proofs.StepLaws.{Going}
use Rattle.writes.proofs.putting.put_rows.Given as goal

abbrev pub invariant-loop-i : goal.invariant-loop-i
invariant-loop-i l = Going l.initial.out l.at (attributes_from (as_rows l.rows) 0 l.values.cells.now l.values.id.now l.values.texts.now) (attributes_from (left l.rows l.i) l.i l.values.cells.now l.values.id.now l.values.texts.now) l.out l.next
