use Rattle.std.proofs.Common.{◌≡◌}
use Rattle.rows.specs.Coding.{as_rows}
use Rattle.rows.proofs.RowLaws.{left}
use Rattle.writes.specs.Rows.{refusal_from}
use Rattle.writes.proofs.refusing.rows_allow.Given as goal

abbrev pub invariant-loop-i : goal.invariant-loop-i
invariant-loop-i l = refusal_from (as_rows l.rows) 0 l.values.cells.now l.values.id.now l.values.texts.now ≡ refusal_from (left l.rows l.i) l.i l.values.cells.now l.values.id.now l.values.texts.now
