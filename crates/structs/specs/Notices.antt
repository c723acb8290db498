-- Notification: its struct and its fields.
use Rattle.std.specs.Prelude.{List, [], ◌∷◌}
use Rattle.lane.specs.Names.{Notification}
use Rattle.message.specs.Fields.{Field, a_words, a_whole, the_words, the_whole}
use Rattle.message.specs.declared.cells.Message.{Message}
use Rattle.structs.specs.OfKind.{nth, of_kind}
use Rattle.structs.specs.declared.notices.Notification.{Notification as Notice}

-- "NotificationCode 1..65535; Severity 1..4; Description text 254": the struct of its fields; without fields all is absent
unfoldable pub notice_from : List Field → Notice
notice_from l = record { code = the_whole (nth 0 l); severity = the_whole (nth 1 l); description = the_words (nth 2 l) }

-- of a message; all is absent if it is of another kind
abbrev pub notice_in : Message → Notice
notice_in m = notice_from (of_kind Notification m)

-- its fields
unfoldable pub notice_fields : Notice → List Field
notice_fields n = a_whole n.code ∷ a_whole n.severity ∷ a_words n.description ∷ []
