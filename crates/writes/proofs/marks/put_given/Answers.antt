-- Two bytes, one behind the other.
use native.Mathlib.Omega.{arith}
use Rattle.printing.specs.Writes.{◌then◌}
use Rattle.writes.proofs.marks.put_given.Goals as goal

-- Two bytes, one behind the other.
pub put_byte-a-requires : goal.put_byte-a-requires
put_byte-a-requires c = omega (arith, c.requires)

pub put_byte-requires : goal.put_byte-requires
put_byte-requires c = omega (arith, c.requires, c.put_byte-a.ensures.next)

pub returns : goal.returns
returns c = c.put_byte-a.ensures then c.put_byte.ensures
