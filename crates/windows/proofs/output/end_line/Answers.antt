-- The word, then two columns.
use Rattle.std.proofs.Common.{arith}
use Rattle.windows.proofs.LineLaws.{column_fits, column_put, last_put}
use Rattle.windows.proofs.output.end_line.Goals as goal

-- The word, then two columns.
pub put_column-b-requires : goal.put_column-b-requires
put_column-b-requires c = column_fits _ _ _ (omega (arith, c.counted-byte.ensures)) (omega (arith, c.requires, c.put-a.ensures.next))

pub put_column-requires : goal.put_column-requires
put_column-requires c = column_fits _ _ _ (omega arith) (omega (arith, c.requires, c.put-a.ensures.next, (column_put (omega (arith, c.counted-byte.ensures)) c.put_column-b.ensures).reach))

pub returns : goal.returns
returns c = last_put c.args.base c.args.place c.requires c.counted-byte.ensures c.put-a.ensures (column_put (omega (arith, c.counted-byte.ensures)) c.put_column-b.ensures) (column_put (omega arith) c.put_column.ensures)
