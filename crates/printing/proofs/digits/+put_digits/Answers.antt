use Rattle.std.proofs.Common.{arith}
use Rattle.printing.specs.Writes.{◌then◌}
use Rattle.number.proofs.DigitLaws.{print_small, print_more, print_length}
use Rattle.printing.proofs.digits.+put_digits.Goals as goal

pub put_byte-requires : goal.put_byte-requires
put_byte-requires t c = rw (print_small _ c.if-n-lt10.true) at c.requires

pub returns-then-n-lt10 : goal.returns-then-n-lt10
returns-then-n-lt10 t c = rw (print_small _ c.if-n-lt10.true, ← c.last_digit.ensures) c.put_byte.ensures

pub put_digits-mid-requires : goal.put_digits-mid-requires
put_digits-mid-requires t c = (omega arith, omega (arith, print_length _ c.if-n-lt10.false, c.requires))

pub put_byte-requires-2 : goal.put_byte-requires-2
put_byte-requires-2 t c = omega (arith, print_length _ c.if-n-lt10.false, c.requires, c.put_digits-mid.ensures.next)

pub returns : goal.returns
returns t c = rw (print_more _ c.if-n-lt10.false, ← c.last_digit-2.ensures) (c.put_digits-mid.ensures then c.put_byte-2.ensures)
