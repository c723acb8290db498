-- Runs of calls on a lane.
use Rattle.std.specs.Prelude.{◌≡◌, List, [], ◌∷◌, true, ℕ, ◌≤◌, ◌<◌, length, Option, Some, None}
use Rattle.lane.specs.Names.{Accepted, MayNotBeSent, ProtocolError}
use Rattle.lane.specs.Chart.{among}
use Rattle.lane.specs.Record.{blank, step_in, step_out}
use Rattle.lane.specs.StepForStep.{gets, sends as puts, Charted}
use Rattle.lane.specs.declared.Lane.{Lane}
use Rattle.grammar.specs.Bytes.{Bytes}
use Rattle.message.specs.Checked.{Checks}
use Rattle.message.specs.declared.checking.Checked.{Checked}
use Rattle.message.specs.declared.cells.Message.{Message}
use Rattle.meant.specs.Meant.{refusal_of}
use Rattle.meant.specs.Written.{written_of}
use Rattle.meant.specs.Events.{Carried, event_of, forecast_id, Carries, event_sent}
use Rattle.promises.specs.Receiving.{Owes, Receives}
use Rattle.promises.specs.Sending.{Sends}
use Rattle.promises.specs.declared.Received.{Received}
use Rattle.promises.specs.declared.Sent.{Sent}

-- what happens to a lane: an input is received into a buffer, a message is sent into one, the connection is lost
pub data Call : Type 0 where
  receives : (s old : Bytes) → Call
  sends : (m : Message) → (texts old : Bytes) → Call
  loses : Call

-- the call answers n, and promises the record l'
pub data Makes (l : Lane) (n : ℕ) (l' : Lane) : Call → Type 0 where
  by_receiving : {s old : Bytes} (new : Bytes) (r : Received) → Receives l s old new r → n ≡ r.refusal → l' ≡ r.lane → Makes l n l' (receives s old)
  by_sending : {m : Message} {texts old : Bytes} (new : Bytes) (r : Sent) → Sends l m texts old new r → n ≡ r.refusal → l' ≡ r.lane → Makes l n l' (sends m texts old)
  by_losing : n ≡ 0 → l' ≡ blank l → Makes l n l' loses

-- "accepted" with a transition, and else the refusal
abbrev pub numbered : Option ℕ → ℕ → ℕ
numbered (Some s) refusal = Accepted
numbered None refusal = refusal

-- what a checked input, which carries the forecast f, makes of a lane, room put aside: the refusal n and the record l'
pub data Outcome (l : Lane) (c : Checked) (f : Carried) (n : ℕ) (l' : Lane) : Type 0 where
  -- "1 | more needed | kept"
  waits : c.refusal ≡ 1 → n ≡ 1 → l' ≡ l → Outcome l c f n l'
  -- "2, 3 | malformed .., too long | NotConnected"; "4, 5, 6 .. | NotConnected"
  ends : among c.refusal (2 ∷ 3 ∷ 4 ∷ 5 ∷ 6 ∷ []) ≡ true → n ≡ c.refusal → l' ≡ blank l → Outcome l c f n l'
  -- "0 | accepted | next"; ".. the first decides, then 9": "9 .. protocol error | NotConnected"
  moves : c.refusal ≡ 0 → n ≡ numbered (step_in l (event_of c.message f)) ProtocolError → Charted l (gets (event_of c.message f)) l' → Outcome l c f n l'

-- what document 01 says of a call: one refusal and one record
pub data Follows (l : Lane) (n : ℕ) (l' : Lane) : Call → Type 0 where
  -- "7 is given exactly if the bytes to be written, a Notification too, are more than the buffer holds; it replaces the answer that would write them"
  answers : {s old : Bytes} (c : Checked) (f : Carried) (due : Bytes) → Checks s c → Carries s (forecast_id c.message) f → Outcome l c f n l' → Owes s c.message n due → length due ≤ length old → Follows l n l' (receives s old)
  lacks : {s old : Bytes} (c : Checked) (f : Carried) (due : Bytes) (k : ℕ) (x : Lane) → Checks s c → Carries s (forecast_id c.message) f → Outcome l c f k x → Owes s c.message k due → length old < length due → n ≡ 7 → l' ≡ l → Follows l n l' (receives s old)
  -- "In sending, 4, 5, 6 in table order, then 8, then 7; every refusal keeps record and buffer."
  refuses : {m : Message} {texts old : Bytes} → (refusal_of m texts ≡ 0 → ⊥) → n ≡ refusal_of m texts → l' ≡ l → Follows l n l' (sends m texts old)
  may_not_case : {m : Message} {texts old : Bytes} → refusal_of m texts ≡ 0 → step_out l (event_sent m texts) ≡ None → n ≡ MayNotBeSent → l' ≡ l → Follows l n l' (sends m texts old)
  no_room_case : {m : Message} {texts old : Bytes} (x : ℕ) → refusal_of m texts ≡ 0 → step_out l (event_sent m texts) ≡ Some x → length old < length (written_of m texts) → n ≡ 7 → l' ≡ l → Follows l n l' (sends m texts old)
  goes : {m : Message} {texts old : Bytes} (x : ℕ) → refusal_of m texts ≡ 0 → step_out l (event_sent m texts) ≡ Some x → length (written_of m texts) ≤ length old → n ≡ Accepted → Charted l (puts (event_sent m texts)) l' → Follows l n l' (sends m texts old)
  -- "a lost connection brings it back there"
  lost : n ≡ Accepted → l' ≡ blank l → Follows l n l' loses

-- a call and what it answered
pub record Turn : Type 0 where
  pub call : Call
  pub refusal : ℕ
  pub lane : Lane

-- each call is met by the record that the one before left
abbrev pub Run : (Lane → ℕ → Lane → Call → Type 0) → Lane → List Turn → Type 0
Run Meets l [] = Unit {0}
Run Meets l (t ∷ ts) = Meets l t.refusal t.lane t.call × Run Meets t.lane ts

abbrev pub calls_of : List Turn → List Call
calls_of [] = []
calls_of (t ∷ ts) = t.call ∷ calls_of ts
