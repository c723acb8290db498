-- Column by column: each is short, so that the four fit.
use Rattle.std.proofs.Common.{arith}
use Rattle.windows.proofs.LineLaws.{column_fits, column_put, line_put}
use Rattle.windows.proofs.output.line.Goals as goal

-- Column by column: each is short, so that the four fit.
pub put_column-a-requires : goal.put_column-a-requires
put_column-a-requires c = column_fits _ _ _ (omega (arith, c.counted-first.ensures)) (omega arith)

pub put_column-b-requires : goal.put_column-b-requires
put_column-b-requires c = column_fits _ _ _ (omega (arith, c.counted-past.ensures)) (omega (arith, c.requires, (column_put (omega (arith, c.counted-first.ensures)) c.put_column-a.ensures).reach))

pub put_column-c-requires : goal.put_column-c-requires
put_column-c-requires c = column_fits _ _ _ (omega arith) (omega (arith, c.requires, (column_put (omega (arith, c.counted-first.ensures)) c.put_column-a.ensures).reach, (column_put (omega (arith, c.counted-past.ensures)) c.put_column-b.ensures).reach))

pub put_column-requires : goal.put_column-requires
put_column-requires c = column_fits _ _ _ (omega arith) (omega (arith, c.requires, (column_put (omega (arith, c.counted-first.ensures)) c.put_column-a.ensures).reach, (column_put (omega (arith, c.counted-past.ensures)) c.put_column-b.ensures).reach, (column_put (omega arith) c.put_column-c.ensures).reach))

pub returns : goal.returns
returns c = line_put c.args.base c.args.start c.args.end c.requires c.counted-first.ensures c.counted-past.ensures (column_put (omega (arith, c.counted-first.ensures)) c.put_column-a.ensures) (column_put (omega (arith, c.counted-past.ensures)) c.put_column-b.ensures) (column_put (omega arith) c.put_column-c.ensures) (column_put (omega arith) c.put_column.ensures)
