-- Answers as they stand: a text between bytes that are known.
use Rattle.std.specs.Prelude.{◌≡◌, [], ◌++◌, ◌≤◌, ◌<◌, length}
use Rattle.grammar.specs.Bytes.{Bytes, text}
use Rattle.spelling.specs.Written.{escape}
use Rattle.meant.specs.Writes.{refused_by}
use Rattle.meant.specs.declared.Written.{Written}
use Rattle.meant.specs.First.{First}

abbrev pub framed : Bytes → Bytes → Bytes → Bytes
framed front v back = front ++ (escape v ++ back)

-- the replies, and a Notification with a description
abbrev pub bare_reply : Bytes
bare_reply = framed (text "<Hermes><CheckAlive Type=\"2\"") [] (text "/></Hermes>")

abbrev pub same_reply : Bytes → Bytes
same_reply v = framed (text "<Hermes><CheckAlive Type=\"2\" Id=\"") v (text "\"/></Hermes>")

abbrev pub described : Bytes → Bytes
described d = framed (text "<Hermes><Notification NotificationCode=\"1\" Severity=\"1\" Description=\"") d (text "\"/></Hermes>")

-- the reply with an Id that is not too long
pub record SameReply (v old new : Bytes) (r : Written) : Type 0 where
  pub short : length v ≤ 80 → First (same_reply v) old new r
  pub long : 80 < length v → (r ≡ refused_by 5) × (new ≡ old)
