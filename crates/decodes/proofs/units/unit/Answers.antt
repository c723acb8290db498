-- The byte at hand says which law.
use native.Mathlib.Omega.{arith}
use Rattle.decodes.proofs.UnitLaws.{unit_blank, unit_item}
use Rattle.decodes.proofs.units.unit.Goals as goal

-- The byte at hand says which law.
pub returns-in-13 : goal.returns-in-13
returns-in-13 c = record { says = c.line_end.ensures }

pub returns-in-9 : goal.returns-in-9
returns-in-9 c = record { says = unit_blank _ _ c.requires (omega arith) (omega arith) }

pub returns-in_default : goal.returns-in_default
returns-in_default c = unit_item _ _ c.requires (λ e. omega arith) (λ e. omega arith) (λ e. omega arith) c.item.ensures c.ok.ensures.value
