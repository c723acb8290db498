-- MachineReady: its struct and its fields.
use Rattle.std.specs.Prelude.{List, [], ◌∷◌}
use Rattle.lane.specs.Names.{MachineReady}
use Rattle.message.specs.Fields.{Field, a_words, a_whole, the_words, the_whole}
use Rattle.message.specs.declared.cells.Message.{Message}
use Rattle.structs.specs.OfKind.{nth, of_kind}
use Rattle.structs.specs.declared.ready.MachineReady.{MachineReady as Ready}

-- "FailedBoard 0..2; ForecastId text 80 opt": the struct of its fields; without fields all is absent
unfoldable pub ready_from : List Field → Ready
ready_from l = record { failed = the_whole (nth 0 l); forecast = the_words (nth 1 l) }

-- of a message; all is absent if it is of another kind
abbrev pub ready_in : Message → Ready
ready_in m = ready_from (of_kind MachineReady m)

-- its fields
unfoldable pub ready_fields : Ready → List Field
ready_fields r = a_whole r.failed ∷ a_words r.forecast ∷ []
