-- What sending tells C.
use Rattle.std.specs.Prelude.{◌≡◌, List, ℕ}
use Rattle.grammar.specs.Bytes.{Bytes}
use Rattle.lane.specs.declared.Lane.{Lane}
use Rattle.message.specs.declared.cells.Message.{Message}
use Rattle.message.specs.Messages.{at_most, message_by}
use Rattle.promises.specs.Sending.{Sends}
use Rattle.promises.specs.declared.Sent.{Sent}
use Rattle.c_promises.specs.Lanes.{Lent}

-- the message of a kind, its cells and its BoardId; a kind above 255 counts as 255, which is none
abbrev pub message_of : ℕ → List ℕ → Bytes → Message
message_of kind cells id = message_by (at_most 255 kind) cells id

-- a lane l, a message m with its texts, a buffer that holds `old` before and `new` after; the side is the lane's own
pub record SendsAs (l : Lane) (m : Message) (texts old new : Bytes) (refusal state : ℕ) (offered running : Bytes) (length : ℕ) (forecast : Bytes) (order written : ℕ) : Type 0 where
  pub sent : Sent
  pub sends : Sends l m texts old new sent
  pub refuses : refusal ≡ sent.refusal
  pub after : Lent sent.lane l.side state offered running length forecast
  pub orders : order ≡ sent.order
  pub writes : written ≡ sent.written
