-- The Notifications that are sent before a connection ends.
use Rattle.std.specs.Prelude.{[], ◌∷◌, ◌++◌, cond, ℕ, eqb, length, Some}
use Rattle.lane.specs.Names.{Notification}
use Rattle.grammar.specs.Bytes.{Bytes, text}
use Rattle.message.specs.Fields.{a_words, a_whole}
use Rattle.message.specs.Messages.{message_from}
use Rattle.message.specs.declared.cells.Message.{Message}

-- "D is `malformed message`, `message too long`, `missing attribute`, `text too long`, `bad value` or `invalid transition` for 2, 3, 4, 5, 6, 9"
unfoldable pub description : ℕ → Bytes
description n =
    cond (eqb n 2) (text "malformed message")
    (cond (eqb n 3) (text "message too long")
    (cond (eqb n 4) (text "missing attribute")
    (cond (eqb n 5) (text "text too long")
    (cond (eqb n 6) (text "bad value")
    (cond (eqb n 9) (text "invalid transition") [])))))

-- "`<Hermes><Notification NotificationCode="1" Severity="1" Description="D"/></Hermes>`"
unfoldable pub notice : ℕ → Bytes
notice n = text "<Hermes><Notification NotificationCode=\"1\" Severity=\"1\" Description=\"" ++ (description n ++ text "\"/></Hermes>")

-- the message that it is: code 1, severity 1, and the whole of the texts
unfoldable pub notice_message : ℕ → Message
notice_message n = message_from Notification (a_whole (Some 1) ∷ a_whole (Some 1) ∷ a_words (Some (record { start = 0; len = length (description n) })) ∷ [])
