-- The word, then four columns.
use native.Mathlib.Omega.{arith}
use Rattle.windows.proofs.LineLaws.{column_fits, column_put}
use Rattle.why.proofs.ReasonLaws.{reason_put}
use Rattle.why.proofs.reason.Goals as goal

-- The word, then four columns.
pub put_column-b-requires : goal.put_column-b-requires
put_column-b-requires c = column_fits _ _ _ (omega arith) (omega (arith, c.requires, c.put-a.ensures.next))

pub put_column-c-requires : goal.put_column-c-requires
put_column-c-requires c = column_fits _ _ _ (omega arith) (omega (arith, c.requires, c.put-a.ensures.next, (column_put (omega arith) c.put_column-b.ensures).reach))

pub put_column-d-requires : goal.put_column-d-requires
put_column-d-requires c = column_fits _ _ _ (omega arith) (omega (arith, c.requires, c.put-a.ensures.next, (column_put (omega arith) c.put_column-b.ensures).reach, (column_put (omega arith) c.put_column-c.ensures).reach))

pub put_column-requires : goal.put_column-requires
put_column-requires c = column_fits _ _ _ (omega arith) (omega (arith, c.requires, c.put-a.ensures.next, (column_put (omega arith) c.put_column-b.ensures).reach, (column_put (omega arith) c.put_column-c.ensures).reach, (column_put (omega arith) c.put_column-d.ensures).reach))

pub returns : goal.returns
returns c = reason_put c.requires c.put-a.ensures (column_put (omega arith) c.put_column-b.ensures) (column_put (omega arith) c.put_column-c.ensures) (column_put (omega arith) c.put_column-d.ensures) (column_put (omega arith) c.put_column.ensures)
