-- StartTransport: its struct and its fields.
use Rattle.std.specs.Prelude.{List, [], ◌∷◌}
use Rattle.lane.specs.Names.{StartTransport}
use Rattle.message.specs.Fields.{Field, a_measure, a_guid, the_measure, the_id}
use Rattle.message.specs.declared.cells.Message.{Message}
use Rattle.structs.specs.OfKind.{nth, of_kind}
use Rattle.structs.specs.declared.starts.StartTransport.{StartTransport as Start}

-- "BoardId GUID; ConveyorSpeed positive opt": the struct of its fields; without fields all is absent
unfoldable pub start_from : List Field → Start
start_from l = record { id = the_id (nth 0 l); speed = the_measure (nth 1 l) }

-- of a message; all is absent if it is of another kind
abbrev pub start_in : Message → Start
start_in m = start_from (of_kind StartTransport m)

-- its fields
unfoldable pub start_fields : Start → List Field
start_fields s = a_guid s.id ∷ a_measure s.speed ∷ []
