-- As the message that they are.
use Rattle.std.proofs.Common.{List, sym, ap, ◌∙◌}
use Rattle.table.specs.Table.{Row}
use Rattle.writes.specs.Rows.{refusal_from}
use Rattle.writes.proofs.KindLaws.{cells_refused}
use Rattle.writes.proofs.sending.refusal_of_cells.Goals as goal

-- As the message that they are.
pub returns : goal.returns
returns c = c.told.ensures ∙ c.rows_allow.ensures ∙ sym (ap (λ (l : List Row). refusal_from l 0 c.args.cells.now c.args.id.now c.args.texts.now) c.rows_of.ensures.all) ∙ cells_refused _ _ _ _
