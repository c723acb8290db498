-- As the message that the cells are.
use Rattle.writes.proofs.KindLaws.{cells_write}
use Rattle.handover.proofs.sending.put.Goals as goal

-- As the message that the cells are.
pub returns : goal.returns
returns c = cells_write c.args.kind c.args.cells.now _ c.args.texts.now c.write_cells.ensures
