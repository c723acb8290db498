use Rattle.std.proofs.Common.{◌≡◌}
use Rattle.grammar.specs.Bytes.{non_empty}
use Rattle.rows.specs.Coding.{as_rows}
use Rattle.rows.proofs.RowLaws.{left}
use Rattle.writes.specs.Rows.{children_from}
use Rattle.writes.proofs.children.has_child.Given as goal

abbrev pub invariant-loop-i : goal.invariant-loop-i
invariant-loop-i l = non_empty (children_from (as_rows l.rows) 0 l.cells) ≡ non_empty (children_from (left l.rows l.i) l.i l.cells)
