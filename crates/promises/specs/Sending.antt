-- What sending promises.
use Rattle.std.specs.Prelude.{◌≡◌, ◌++◌, cond, ℕ, length, drop, eqb, leb}
use Rattle.lane.specs.Names.{NoOrder, MayNotBeSent}
use Rattle.lane.specs.Record.{sent}
use Rattle.lane.specs.declared.Lane.{Lane}
use Rattle.lane.specs.declared.Moved.{Moved}
use Rattle.grammar.specs.Bytes.{Bytes}
use Rattle.message.specs.declared.cells.Message.{Message}
use Rattle.meant.specs.Meant.{refusal_of}
use Rattle.meant.specs.Written.{written_of}
use Rattle.meant.specs.Events.{event_sent}
use Rattle.promises.specs.declared.Sent.{Sent}

-- "every refusal keeps record and buffer"
abbrev pub kept : Lane → ℕ → Sent
kept l n = record { refusal = n; lane = l; order = NoOrder; written = 0 }

-- what the message does to the lane
abbrev pub moved_by : Lane → Message → Bytes → Moved
moved_by l m texts = sent l (event_sent m texts)

-- the refusal of a message that may not be sent: "4, 5, 6 in table order, then 8"
unfoldable pub may_not : Message → Bytes → ℕ
may_not m texts = cond (eqb (refusal_of m texts) 0) MayNotBeSent (refusal_of m texts)

-- "In sending, 4, 5, 6 in table order, then 8, then 7": a is answered for an accepted message, and otherwise b for the refusal
abbrev pub decided : {A : Type 0} → Lane → Message → Bytes → ℕ → A → (ℕ → A) → A
decided l m texts room a b =
    cond (eqb (refusal_of m texts) 0)
    (cond (eqb (moved_by l m texts).refusal 0) (cond (leb (length (written_of m texts)) room) a (b 7)) (b MayNotBeSent))
    (b (refusal_of m texts))

unfoldable pub answer_of : Lane → Message → Bytes → ℕ → Sent
answer_of l m texts room =
    decided l m texts room (record { refusal = 0; lane = (moved_by l m texts).lane; order = (moved_by l m texts).order; written = length (written_of m texts) }) (kept l)

-- "message first, rest kept"
unfoldable pub buffer_of : Lane → Message → Bytes → Bytes → Bytes
buffer_of l m texts old = decided l m texts (length old) (written_of m texts ++ drop (length (written_of m texts)) old) (λ n. old)

-- a lane l, a message m with its texts, a buffer that holds `old` before and `new` after: r is answered
pub record Sends (l : Lane) (m : Message) (texts old new : Bytes) (r : Sent) : Type 0 where
  pub answer : r ≡ answer_of l m texts (length old)
  pub buffer : new ≡ buffer_of l m texts old
