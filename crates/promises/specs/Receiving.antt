-- What receiving promises. (`take` is for an edit of must-fail/ alone.)
use Rattle.value.specs.declared.text.Span.{Span}
use Rattle.std.specs.Prelude.{◌≡◌, List, [], Bool, true, false, ◌&&◌, cond, ℕ, length, take, eqb, leb, Option, Some, None}
use Rattle.lane.specs.Names.{NoOrder, CheckAlive}
use Rattle.lane.specs.Record.{ended, kept, received}
use Rattle.lane.specs.declared.Event.{Event}
use Rattle.lane.specs.declared.Lane.{Lane}
use Rattle.lane.specs.declared.Moved.{Moved}
use Rattle.grammar.specs.Bytes.{Bytes}
use Rattle.message.specs.Fields.{the_words, the_whole}
use Rattle.message.specs.Checked.{Checks}
use Rattle.message.specs.Messages.{message_by, blank, called}
use Rattle.message.specs.declared.checking.Checked.{Checked}
use Rattle.message.specs.declared.cells.Message.{Message}
use Rattle.meant.specs.Notices.{notice}
use Rattle.meant.specs.First.{first_in}
use Rattle.meant.specs.Replies.{Reply}
use Rattle.meant.specs.Events.{Carried, event_of, forecast_id, Carries}
use Rattle.promises.specs.declared.Receipt.{Receipt}
use Rattle.promises.specs.declared.Received.{Received}

-- "A received CheckAlive of Type 1 is replied to"
abbrev pub is_ping : Option ℕ → Bool
is_ping None = false
is_ping (Some n) = eqb n 1

unfoldable pub asks_reply : Message → Bool
asks_reply m = eqb m.kind CheckAlive && is_ping (the_whole (called "Type" m))

-- the Id that a reply has too
unfoldable pub reply_id : Message → Option Span
reply_id m = the_words (called "Id" m)

-- "Attributes are tried in table order, each for 4, 5, 6; the first decides, then 9": what `check` refuses does not reach the chart. 1 keeps the record.
abbrev pub moved_for : Lane → ℕ → Event → Moved
moved_for l n e = cond (eqb n 0) (received l e) (cond (eqb n 1) (kept l 1) (ended l n))

unfoldable pub moved_by : Lane → ℕ → Event → Moved
moved_by l n e = moved_for l n e

-- the bytes b that are to be written where the refusal is n: "Notification" for one that ends the connection, the reply to a CheckAlive of Type 1,
-- and "Nothing else accepted has a reply."
pub data Owes (s : Bytes) (m : Message) (n : ℕ) (b : Bytes) : Type 0 where
  nothing_yet : n ≡ 1 → b ≡ [] → Owes s m n b
  a_notice : (n ≡ 0 → ⊥) → (n ≡ 1 → ⊥) → b ≡ notice n → Owes s m n b
  a_reply : n ≡ 0 → asks_reply m ≡ true → Reply s (reply_id m) b → Owes s m n b
  no_reply : n ≡ 0 → asks_reply m ≡ false → b ≡ [] → Owes s m n b

-- "7 .. replaces the answer that would write them": record and buffer are kept, and no byte is used
abbrev pub no_room : Lane → Received
no_room l = record { refusal = 7; lane = l; order = NoOrder; used = 0; written = 0; place = 0; message = blank 0 }

-- what is told of a checked input that moved the lane; "Bytes used" is `check`'s end, which is 0 where no message ends
unfoldable pub told : Checked → Moved → ℕ → Received
told c v n = record {
  refusal = v.refusal;
  lane = v.lane;
  order = v.order;
  used = c.end;
  written = n;
  place = c.place;
  message = cond (eqb v.refusal 0) c.message (blank 0);
}

-- "7 is given exactly if the bytes to be written, a Notification too, are more than the buffer holds"
unfoldable pub answer_of : Lane → Checked → Event → Bytes → ℕ → Received
answer_of l c e b room = cond (leb (length b) room) (told c (moved_by l c.refusal e) (length b)) (no_room l)

-- a lane l, an input s, a buffer that holds `old` before and `new` after: r is answered
pub record Receives (l : Lane) (s old new : Bytes) (r : Received) : Type 0 where
  pub checked : Checked
  pub checks : Checks s checked
  pub forecast : Carried
  pub carries : Carries s (forecast_id checked.message) forecast
  pub due : Bytes
  pub owes : Owes s checked.message (moved_by l checked.refusal (event_of checked.message forecast)).refusal due
  pub answer : r ≡ answer_of l checked (event_of checked.message forecast) due (length old)
  pub buffer : new ≡ first_in due old

-- the same with a message's cells instead of the message
abbrev pub received_by : Receipt → List ℕ → Received
received_by r cells = record {
  refusal = r.refusal;
  lane = r.lane;
  order = r.order;
  used = r.used;
  written = r.written;
  place = r.place;
  message = message_by r.kind cells r.id;
}

-- it is what receiving answers
abbrev pub ReceivesInto : Lane → Bytes → Bytes → Bytes → List ℕ → Receipt → Type 0
ReceivesInto l s old new cells r = Receives l s old new (received_by r cells)
