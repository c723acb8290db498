-- The digits, then the byte.
use Rattle.std.proofs.Common.{arith, length-append}
use Rattle.printing.specs.Writes.{◌then◌}
use Rattle.lines.specs.Text.{column}
use Rattle.windows.proofs.output.put_column.Goals as goal

-- The digits, then the byte.
pub put_digits-next-requires : goal.put_digits-next-requires
unfolding column
put_digits-next-requires c = omega (arith, rw length-append at c.requires)

pub put_byte-requires : goal.put_byte-requires
unfolding column
put_byte-requires c = omega (arith, rw length-append at c.requires, c.put_digits-next.ensures.next)

pub returns : goal.returns
unfolding column
returns c = c.put_digits-next.ensures then c.put_byte.ensures
