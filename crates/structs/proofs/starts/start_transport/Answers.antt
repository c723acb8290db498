-- Field by field.
use mathlib.Core.Path.{◌≡◌, refl}
use mathlib.Core.List.{[]}
use Rattle.grammar.specs.Bytes.{Bytes}
use Rattle.lane.specs.Names.{StartTransport}
use Rattle.table.specs.Table.{table, rows_of}
use Rattle.message.specs.Cells.{fields_from, field_by, measure_by, guid_by}
use Rattle.structs.specs.Celled.{zeros}
use Rattle.structs.specs.Starts.{start_from}
use Rattle.structs.proofs.KindLaws.{made_of}
use Rattle.structs.proofs.starts.start_transport.Goals as goal

-- Field by field.
-- of zeros as of no fields
none : (id : Bytes) → start_from (fields_from (rows_of StartTransport) 0 zeros id) ≡ start_from []
unfolding table start_from fields_from field_by measure_by guid_by
none id = refl

pub returns : goal.returns
unfolding table start_from fields_from field_by
returns c = rw (c.id_at.ensures, c.at.ensures) (made_of start_from StartTransport c.args.m none c.cells_if-cells.ensures)
