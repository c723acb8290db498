-- CheckAlive: its struct and its fields.
use Rattle.std.specs.Prelude.{List, [], ◌∷◌}
use Rattle.lane.specs.Names.{CheckAlive}
use Rattle.message.specs.Fields.{Field, a_words, a_whole, the_words, the_whole}
use Rattle.message.specs.declared.cells.Message.{Message}
use Rattle.structs.specs.OfKind.{nth, of_kind}
use Rattle.structs.specs.declared.alive.CheckAlive.{CheckAlive as Alive}

-- "Type 1..2 opt; Id text 80 opt": the struct of its fields; without fields all is absent
unfoldable pub alive_from : List Field → Alive
alive_from l = record { ping = the_whole (nth 0 l); id = the_words (nth 1 l) }

-- of a message; all is absent if it is of another kind
abbrev pub alive_in : Message → Alive
alive_in m = alive_from (of_kind CheckAlive m)

-- its fields
unfoldable pub alive_fields : Alive → List Field
alive_fields a = a_whole a.ping ∷ a_words a.id ∷ []
