-- What `tryphomel_send` answers, and that no second answer satisfies its promise.
use Rattle.std.specs.Prelude.{Option, Some, None}
use mathlib.Core.Path.{◌≡◌, refl, sym, ap, subst, ◌∙◌}
use mathlib.Core.List.{List}
use Prim.Native.Nat.{ℕ}
use lib.ListN.{length}
use lib.Dec.{eqb, leb}
use Rattle.grammar.specs.Bytes.{Bytes}
use Rattle.lane.specs.Names.{MayNotBeSent}
use Rattle.lane.specs.Chart.{Sent as IsSent}
use Rattle.lane.specs.Record.{kept, answer, step_out, sent}
use Rattle.lane.specs.declared.Event.{Event}
use Rattle.lane.specs.declared.Lane.{Lane}
use Rattle.message.specs.Messages.{at_most, message_by}
use Rattle.message.specs.declared.cells.Message.{Message}
use Rattle.meant.specs.Meant.{refusal_of}
use Rattle.meant.specs.Written.{written_of}
use Rattle.meant.specs.Events.{event_sent}
use Rattle.promises.specs.Sending.{moved_by, answer_of, Sends}
use Rattle.promises.specs.declared.Sent.{Sent}
use Rattle.promises.proofs.Theorems.{send_only}
use Rattle.c_promises.specs.Lanes.{Lent}
use Rattle.c_promises.specs.Sending.{message_of, SendsAs}
use Rattle.c_promises.proofs.LaneLaws.{in_parts, Same, lent_only}
use Rattle.c_promises.proofs.ReceiveLaws.{either}

-- the side is the lane's own, whatever is sent
sent_side : (l : Lane) (e : Event) → (sent l e).lane.side ≡ l.side
unfolding sent
sent_side l e = go (step_out l e)
  where
    go : (s : Option ℕ) → (answer IsSent s l e (kept l MayNotBeSent)).lane.side ≡ l.side
    go (Some n) = refl
    go None = refl

answer_side : (l : Lane) (m : Message) (texts : Bytes) (room : ℕ) → (answer_of l m texts room).lane.side ≡ l.side
unfolding answer_of
answer_side l m texts room =
    either (λ (r : Sent). r.lane.side ≡ l.side) (eqb (refusal_of m texts) 0)
    (either (λ (r : Sent). r.lane.side ≡ l.side) (eqb (moved_by l m texts).refusal 0)
    (either (λ (r : Sent). r.lane.side ≡ l.side) (leb (length (written_of m texts)) room) (sent_side l (event_sent m texts)) refl) refl) refl

send_side : {l : Lane} {m : Message} {texts old new : Bytes} {r : Sent} → Sends l m texts old new r → r.lane.side ≡ l.side
send_side {l} {m} {texts} {old} p = ap (λ (r : Sent). r.lane.side) p.answer ∙ answer_side l m texts (length old)

pub sends_as : {l : Lane} {k : ℕ} (kind : ℕ) {cells : List ℕ} {id texts old new : Bytes} {r : Sent} → k ≡ at_most 255 kind → Sends l (message_by k cells id) texts old new r
    → SendsAs l (message_of kind cells id) texts old new r.refusal r.lane.state r.lane.offered r.lane.running r.lane.forecast.length r.lane.forecast.bytes r.order r.written
sends_as {l} kind {cells = cells} {id} {texts} {old} {new} {r} e p =
    let q = subst (λ (k : ℕ). Sends l (message_by k cells id) texts old new r) e p in
    record { sent = r; sends = q; refuses = refl; after = in_parts (send_side q); orders = refl; writes = refl }

pub sends_as_only : {l : Lane} {m : Message} {texts old new new' : Bytes} {a b a' b' : ℕ} {o q o' q' : Bytes} {k k' : ℕ} {g g' : Bytes} {c d c' d' : ℕ}
    → SendsAs l m texts old new a b o q k g c d → SendsAs l m texts old new' a' b' o' q' k' g' c' d'
    → (new ≡ new') × (a ≡ a') × Same l.side b l.side b' o q o' q' k k' g g' × (c ≡ c') × (d ≡ d')
sends_as_only {l} {b' = b'} {o' = o'} {q' = q'} {k' = k'} {g' = g'} x y =
    let (one, buffer) = send_only x.sends y.sends in (
      buffer,
      x.refuses ∙ ap (λ (r : Sent). r.refusal) one ∙ sym y.refuses,
      lent_only x.after (subst (λ (r : Sent). Lent r.lane l.side b' o' q' k' g') (sym one) y.after),
      x.orders ∙ ap (λ (r : Sent). r.order) one ∙ sym y.orders,
      x.writes ∙ ap (λ (r : Sent). r.written) one ∙ sym y.writes,
    )
