-- StopTransport and TransportFinished: their struct and its fields.
use Rattle.std.specs.Prelude.{List, [], ◌∷◌, ◌||◌, eqb}
use Rattle.lane.specs.Names.{StopTransport, TransportFinished}
use Rattle.message.specs.Fields.{Field, a_whole, a_guid, the_whole, the_id}
use Rattle.message.specs.declared.cells.Message.{Message}
use Rattle.structs.specs.OfKind.{nth, only}
use Rattle.structs.specs.declared.transfers.Transfer.{Transfer}

-- "TransferState 1..3; BoardId GUID": the struct of its fields; without fields all is absent
unfoldable pub transfer_from : List Field → Transfer
transfer_from l = record { state = the_whole (nth 0 l); id = the_id (nth 1 l) }

-- of a message; all is absent if it is of another kind
abbrev pub transfer_in : Message → Transfer
transfer_in m = transfer_from (only (eqb m.kind StopTransport || eqb m.kind TransportFinished) m)

-- its fields
unfoldable pub transfer_fields : Transfer → List Field
transfer_fields t = a_whole t.state ∷ a_guid t.id ∷ []
