-- A CR is one space, with the LF behind it if one stands there.
use Rattle.decodes.proofs.UnitLaws.{unit_cr_end, unit_cr, unit_cr_lf}
use Rattle.decodes.proofs.units.line_end.Goals as goal

-- A CR is one space, with the LF behind it if one stands there.
pub returns-then-s-next : goal.returns-then-s-next
returns-then-s-next c = unit_cr_end _ _ c.requires.0 c.requires.1 c.if-s-next.true

pub returns-then-s-next-eq10 : goal.returns-then-s-next-eq10
returns-then-s-next-eq10 c = unit_cr_lf _ _ c.requires.0 c.requires.1 c.if-s-next.false c.if-s-next-eq10.true

pub returns : goal.returns
returns c = unit_cr _ _ c.requires.0 c.requires.1 c.if-s-next.false c.if-s-next-eq10.false
