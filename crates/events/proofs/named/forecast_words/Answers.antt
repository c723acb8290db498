-- By whether the kind has one.
use native.Mathlib.Omega.{arith}
use Rattle.events.proofs.NameLaws.{names_none, names_one}
use Rattle.events.proofs.named.forecast_words.Goals as goal

-- By whether the kind has one.
pub returns-then-at-ge72 : goal.returns-then-at-ge72
returns-then-at-ge72 c = names_none c.args.kind c.args.cells.now c.forecast_cell-at.ensures c.if-at-ge72.true

pub returns : goal.returns
returns c = names_one c.args.kind c.args.cells.now c.forecast_cell-at.ensures (omega arith) c.number_at.ensures c.number_at-2.ensures c.number_at-3.ensures c.text_from.ensures
