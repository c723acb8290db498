-- No entry, no rows.
use Rattle.std.proofs.Common.{rules}
use Rattle.rows.specs.Coding.{as_rows}
use Rattle.rows.proofs.data.rows_of.Goals as goal

-- No entry, no rows.
pub returns-in-None : goal.returns-in-None
unfolding as_rows
returns-in-None c = record { all = c.in-None.ensures.rows; few = search rules }
