-- By the kind.
use mathlib.Core.Path.{sym, ap}
use Rattle.events.specs.Says.{forecast_cell}
use Rattle.events.proofs.NameLaws.{cell_else}
use Rattle.events.proofs.named.forecast_cell.Goals as goal

-- By the kind.
pub returns-in-5 : goal.returns-in-5
returns-in-5 c = sym (ap forecast_cell c.in-5.is)

pub returns-in-11 : goal.returns-in-11
returns-in-11 c = sym (ap forecast_cell c.in-11.is)

pub returns-in_default : goal.returns-in_default
returns-in_default c = cell_else c.args.kind c.in_default.in_default-own.rest.0.1 c.in_default.in_default-own.rest.1
