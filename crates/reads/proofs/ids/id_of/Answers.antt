-- What stands as it reads is copied.
use native.Mathlib.Omega.{arith}
use Rattle.reads.proofs.IdLaws.{clear_id, read_id}
use Rattle.reads.proofs.ids.id_of.Goals as goal

-- What stands as it reads is copied.
pub returns-then-is_clear : goal.returns-then-is_clear
returns-then-is_clear c = clear_id (c.is_clear.ensures c.if-is_clear.true).1 c.copied.ensures

pub returns : goal.returns
returns c = rw c.unwrap_or.ensures (read_id c.id_at.ensures)
