use Rattle.rows.specs.Coding.{as_rows}
use Rattle.rows.proofs.RowLaws.{left}
use Rattle.writes.specs.Rows.{children_from}
use Rattle.writes.proofs.StepLaws.{Going}
use Rattle.writes.proofs.children.put_children.Given as goal

abbrev pub invariant-loop-i : goal.invariant-loop-i
invariant-loop-i l = Going l.initial.out l.at (children_from (as_rows l.rows) 0 l.cells) (children_from (left l.rows l.i) l.i l.cells) l.out l.next
