use Rattle.std.proofs.Common.{arith}
use Rattle.printing.specs.Writes.{wrote_none, ◌then◌}
use Rattle.number.proofs.DigitLaws.{places_none, places_more, places_length}
use Rattle.printing.proofs.digits.+put_places.Goals as goal

pub returns-then-k-eq0 : goal.returns-then-k-eq0
returns-then-k-eq0 t c = rw (places_none _ _ c.if-k-eq0.true) (wrote_none _ _)

pub put_places-mid-requires : goal.put_places-mid-requires
put_places-mid-requires t c = (omega arith, omega (arith, places_length c.args.k c.args.n c.if-k-eq0.false, c.requires))

pub put_byte-requires : goal.put_byte-requires
put_byte-requires t c = omega (arith, places_length c.args.k c.args.n c.if-k-eq0.false, c.requires, c.put_places-mid.ensures.next)

pub returns : goal.returns
returns t c = rw (places_more _ _ c.if-k-eq0.false, ← c.last_digit.ensures) (c.put_places-mid.ensures then c.put_byte.ensures)
