-- The message that the cells are.
use Rattle.handover.proofs.receiving.receive.Goals as goal

-- The message that the cells are.
pub returns : goal.returns
returns c = c.receive_into-r.ensures
