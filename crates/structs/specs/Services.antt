-- ServiceDescription: its struct and its fields.
use Rattle.std.specs.Prelude.{List, [], ◌∷◌}
use Rattle.lane.specs.Names.{ServiceDescription}
use Rattle.message.specs.Fields.{Field, a_words, a_whole, a_features, the_words, the_whole, the_features}
use Rattle.message.specs.declared.cells.Message.{Message}
use Rattle.structs.specs.OfKind.{nth, of_kind}
use Rattle.structs.specs.declared.services.ServiceDescription.{ServiceDescription as Service}

-- "MachineId text 80; LaneId 1..65535; Version; child SupportedFeatures": the struct of its fields; without fields all is absent
unfoldable pub service_from : List Field → Service
service_from l = record { machine = the_words (nth 0 l); lane = the_whole (nth 1 l); version = the_words (nth 2 l); features = the_features (nth 3 l) }

-- of a message; all is absent if it is of another kind
abbrev pub service_in : Message → Service
service_in m = service_from (of_kind ServiceDescription m)

-- its fields
unfoldable pub service_fields : Service → List Field
service_fields s = a_words s.machine ∷ a_whole s.lane ∷ a_words s.version ∷ a_features s.features ∷ []
