-- Field by field.
use mathlib.Core.Path.{◌≡◌, refl}
use mathlib.Core.List.{[]}
use mathlib.Core.Bool.{Bool, true, false, ◌||◌}
use lib.Dec.{eqb, lit≤}
use borrow.Author.Tests.{eqb-true}
use Rattle.grammar.specs.Bytes.{Bytes}
use Rattle.lane.specs.Names.{StopTransport, TransportFinished}
use Rattle.table.specs.Table.{table, rows_of}
use Rattle.message.specs.Cells.{fields_from, field_by, whole_by, guid_by}
use Rattle.message.specs.Messages.{fields_of}
use Rattle.message.specs.declared.cells.Message.{Message}
use Rattle.structs.specs.Celled.{zeros}
use Rattle.structs.specs.Transfers.{transfer_from}
use Rattle.structs.proofs.KindLaws.{of_rows, made_if}
use Rattle.structs.proofs.transfers.transfer_in.Goals as goal

-- Field by field.
-- of zeros as of no fields
none : (id : Bytes) → transfer_from (fields_from (rows_of StopTransport) 0 zeros id) ≡ transfer_from []
unfolding table transfer_from fields_from field_by whole_by guid_by
none id = refl

-- the rows of both kinds have the same forms
either : (m : Message) → eqb m.kind StopTransport || eqb m.kind TransportFinished ≡ true → transfer_from (fields_from (rows_of StopTransport) 0 m.cells m.id) ≡ transfer_from (fields_of m)
unfolding table fields_from field_by
either m = go (eqb m.kind StopTransport) refl
  where
    go : (z : Bool) → eqb m.kind StopTransport ≡ z → z || eqb m.kind TransportFinished ≡ true → transfer_from (fields_from (rows_of StopTransport) 0 m.cells m.id) ≡ transfer_from (fields_of m)
    go true e h = of_rows transfer_from StopTransport m (eqb-true m.kind StopTransport e)
    go false e h = of_rows transfer_from TransportFinished m (eqb-true m.kind TransportFinished h)

pub returns : goal.returns
unfolding table transfer_from fields_from field_by
returns c = rw (c.at.ensures, c.id_at.ensures) (made_if transfer_from StopTransport c.args.m none c.cells_if-cells.ensures (either c.args.m))
