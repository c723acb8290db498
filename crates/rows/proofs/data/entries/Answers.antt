-- Computed.
use Rattle.std.proofs.Common.{refl}
use Rattle.table.specs.Table.{table}
use Rattle.rows.specs.Coding.{as_rows}
use Rattle.rows.proofs.EntryLaws.{told}
use Rattle.rows.proofs.data.entries.Goals as goal

-- Computed.
pub returns : goal.returns
unfolding table as_rows
returns c = told refl refl refl
