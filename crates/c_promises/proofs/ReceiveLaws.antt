-- What `tryphomel_receive` answers, and that no second answer satisfies its promise.
use Rattle.std.specs.Prelude.{Option, Some, None}
use mathlib.Core.Path.{◌≡◌, refl, sym, ap, subst, ◌∙◌}
use mathlib.Core.List.{List}
use mathlib.Core.Bool.{Bool, true, false, cond}
use Prim.Native.Nat.{ℕ}
use lib.ListN.{length}
use lib.Dec.{eqb, leb}
use Rattle.grammar.specs.Bytes.{Bytes}
use Rattle.lane.specs.Names.{ProtocolError}
use Rattle.lane.specs.Chart.{Received as IsReceived}
use Rattle.lane.specs.Record.{ended, answer, step_in, received}
use Rattle.lane.specs.declared.Event.{Event}
use Rattle.lane.specs.declared.Lane.{Lane}
use Rattle.lane.specs.declared.Moved.{Moved}
use Rattle.message.specs.declared.checking.Checked.{Checked}
use Rattle.meant.specs.Events.{event_of}
use Rattle.promises.specs.Receiving.{moved_by, told, answer_of, Receives, received_by, ReceivesInto}
use Rattle.promises.specs.declared.Receipt.{Receipt}
use Rattle.promises.specs.declared.Received.{Received}
use Rattle.promises.proofs.Theorems.{receive_only}
use Rattle.c_promises.specs.Lanes.{Lent}
use Rattle.c_promises.specs.Receiving.{ReceivesAs}
use Rattle.c_promises.proofs.LaneLaws.{in_parts, Same, lent_only}

pub either : {A : Type 0} (P : A → Type 0) (b : Bool) {x y : A} → P x → P y → P (cond b x y)
either P true p q = p
either P false p q = q

-- the side is the lane's own, whatever is received
received_side : (l : Lane) (e : Event) → (received l e).lane.side ≡ l.side
unfolding received
received_side l e = go (step_in l e)
  where
    go : (s : Option ℕ) → (answer IsReceived s l e (ended l ProtocolError)).lane.side ≡ l.side
    go (Some n) = refl
    go None = refl

moved_side : (l : Lane) (n : ℕ) (e : Event) → (moved_by l n e).lane.side ≡ l.side
unfolding moved_by
moved_side l n e =
    either (λ (v : Moved). v.lane.side ≡ l.side) (eqb n 0) (received_side l e) (either (λ (v : Moved). v.lane.side ≡ l.side) (eqb n 1) refl refl)

answer_side : (l : Lane) (c : Checked) (e : Event) (b : Bytes) (room : ℕ) → (answer_of l c e b room).lane.side ≡ l.side
unfolding answer_of told
answer_side l c e b room = either (λ (r : Received). r.lane.side ≡ l.side) (leb (length b) room) (moved_side l c.refusal e) refl

receive_side : {l : Lane} {s old new : Bytes} {r : Received} → Receives l s old new r → r.lane.side ≡ l.side
receive_side {l} {s} {old} p = ap (λ (r : Received). r.lane.side) p.answer ∙ answer_side l p.checked (event_of p.checked.message p.forecast) p.due (length old)

pub receives_as : {l : Lane} {s old new : Bytes} {cells : List ℕ} {r : Receipt} → ReceivesInto l s old new cells r
    → ReceivesAs l s old new r.refusal r.lane.state r.lane.offered r.lane.running r.lane.forecast.length r.lane.forecast.bytes r.kind cells r.id r.order r.used r.written r.place
receives_as {cells = cells} {r = r} p = record {
  received = received_by r cells;
  receives = p;
  refuses = refl;
  after = in_parts (receive_side p);
  kinds = refl;
  says = refl;
  names = refl;
  orders = refl;
  uses = refl;
  writes = refl;
  places = refl;
}

pub receives_as_only : {l : Lane} {s old new new' : Bytes} {a b a' b' : ℕ} {o q o' q' : Bytes} {k k' : ℕ} {g g' : Bytes} {m m' : ℕ} {n n' : List ℕ} {i i' : Bytes} {c d e f c' d' e' f' : ℕ}
    → ReceivesAs l s old new a b o q k g m n i c d e f → ReceivesAs l s old new' a' b' o' q' k' g' m' n' i' c' d' e' f'
    → (new ≡ new') × (a ≡ a') × Same l.side b l.side b' o q o' q' k k' g g' × (m ≡ m') × (n ≡ n') × (i ≡ i') × (c ≡ c') × (d ≡ d') × (e ≡ e') × (f ≡ f')
receives_as_only {l} {b' = b'} {o' = o'} {q' = q'} {k' = k'} {g' = g'} x y =
    let (one, buffer) = receive_only x.receives y.receives in (
      buffer,
      x.refuses ∙ ap (λ (r : Received). r.refusal) one ∙ sym y.refuses,
      lent_only x.after (subst (λ (r : Received). Lent r.lane l.side b' o' q' k' g') (sym one) y.after),
      x.kinds ∙ ap (λ (r : Received). r.message.kind) one ∙ sym y.kinds,
      x.says ∙ ap (λ (r : Received). r.message.cells) one ∙ sym y.says,
      x.names ∙ ap (λ (r : Received). r.message.id) one ∙ sym y.names,
      x.orders ∙ ap (λ (r : Received). r.order) one ∙ sym y.orders,
      x.uses ∙ ap (λ (r : Received). r.used) one ∙ sym y.uses,
      x.writes ∙ ap (λ (r : Received). r.written) one ∙ sym y.writes,
      x.places ∙ ap (λ (r : Received). r.place) one ∙ sym y.places,
    )
