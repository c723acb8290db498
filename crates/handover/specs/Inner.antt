-- What the inner functions of receiving promise.
use Rattle.value.specs.declared.text.Span.{Span}
use Rattle.std.specs.Prelude.{◌≡◌, List, Bool, true, ◌&&◌, ℕ, length, replicate, eqb, Option}
use Rattle.lane.specs.Names.{NoOrder, CheckAlive}
use Rattle.lane.specs.Record.{no_id}
use Rattle.lane.specs.declared.Lane.{Lane}
use Rattle.lane.specs.declared.Moved.{Moved}
use Rattle.grammar.specs.Bytes.{Bytes}
use Rattle.message.specs.Cells.{whole_by}
use Rattle.message.specs.declared.checking.Found.{Found}
use Rattle.message.specs.declared.cells.Message.{Message}
use Rattle.meant.specs.First.{First}
use Rattle.meant.specs.declared.Written.{Written as Count}
use Rattle.promises.specs.Receiving.{is_ping, asks_reply, reply_id, Owes}
use Rattle.promises.specs.declared.Receipt.{Receipt}

-- what is written back
pub record Written (s : Bytes) (m : Message) (n : ℕ) (old new : Bytes) (w : Count) : Type 0 where
  pub due : Bytes
  pub owes : Owes s m n due
  pub first : First due old new w

-- so for each message that asks for a reply or not, and has that Id
pub record Answers (s : Bytes) (n : ℕ) (asks : Bool) (id : Option Span) (old new : Bytes) (w : Count) : Type 0 where
  pub says : (m : Message) → asks ≡ asks_reply m → (asks ≡ true → id ≡ reply_id m) → Written s m n old new w

-- The same with a message's cells and its BoardId instead of the message.
abbrev pub asks_by : ℕ → ℕ → ℕ → Bool
asks_by k t n = eqb k CheckAlive && is_ping (whole_by t n)

abbrev pub no_receipt : Lane → Receipt
no_receipt l = record { refusal = 7; lane = l; order = NoOrder; used = 0; written = 0; place = 0; kind = 0; id = no_id }

abbrev pub refused_by : Found → Moved → ℕ → Receipt
refused_by f v n = record { refusal = v.refusal; lane = v.lane; order = v.order; used = f.end; written = n; place = f.place; kind = 0; id = no_id }

abbrev pub told_by : Found → Moved → ℕ → Receipt
told_by f v n = record { refusal = v.refusal; lane = v.lane; order = v.order; used = f.end; written = n; place = f.place; kind = f.kind; id = f.id }

-- which of the three; cells that no accepted message stands in are zeros
pub data Finishes (l : Lane) (f : Found) (v : Moved) (w : Count) (before after : List ℕ) (r : Receipt) : Type 0 where
  lacks_room : (w.refusal ≡ 0 → ⊥) → after ≡ replicate (length before) 0 → r ≡ no_receipt l → Finishes l f v w before after r
  refuses : w.refusal ≡ 0 → (v.refusal ≡ 0 → ⊥) → after ≡ replicate (length before) 0 → r ≡ refused_by f v w.count → Finishes l f v w before after r
  tells : w.refusal ≡ 0 → v.refusal ≡ 0 → after ≡ before → r ≡ told_by f v w.count → Finishes l f v w before after r
