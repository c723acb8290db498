-- Field by field.
use mathlib.Core.Path.{◌≡◌, refl}
use mathlib.Core.List.{[]}
use Rattle.grammar.specs.Bytes.{Bytes}
use Rattle.lane.specs.Names.{MachineReady}
use Rattle.table.specs.Table.{table, rows_of}
use Rattle.message.specs.Cells.{fields_from, field_by, words_by, whole_by}
use Rattle.structs.specs.Celled.{zeros}
use Rattle.structs.specs.Ready.{ready_from}
use Rattle.structs.proofs.KindLaws.{made_of}
use Rattle.structs.proofs.ready.machine_ready.Goals as goal

-- Field by field.
-- of zeros as of no fields
none : (id : Bytes) → ready_from (fields_from (rows_of MachineReady) 0 zeros id) ≡ ready_from []
unfolding table ready_from fields_from field_by words_by whole_by
none id = refl

pub returns : goal.returns
unfolding table ready_from fields_from field_by
returns c = rw (c.at.ensures, c.at-2.ensures) (made_of ready_from MachineReady c.args.m none c.cells_if-cells.ensures)
