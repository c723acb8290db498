-- As its cells are.
use Rattle.writes.proofs.KindLaws.{cells_write}
use Rattle.writes.proofs.sending.write.Goals as goal

-- As its cells are.
pub returns : goal.returns
returns c = cells_write c.args.m.kind c.args.m.cells c.args.m.id c.args.texts.now c.write_cells.ensures
