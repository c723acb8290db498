-- "two makers must see one handover": what one lane sends, the lane of the other side accepts, and both are left in the same state, with the same BoardIds
-- and order. Of forecasts the receiver's lane keeps what the message carries; the sender's does not, so the two need not keep the same.
use Rattle.std.specs.Prelude.{Option, Some, None}
use mathlib.Core.Path.{◌≡◌, refl, sym, ap, subst, ◌∙◌}
use mathlib.Core.List.{◌++◌}
use mathlib.Core.Bool.{Bool, true, false}
use mathlib.Core.Logic.{inl, ⊎_elim}
use Prim.Native.Nat.{ℕ, ◌≤◌}
use native.Mathlib.Omega.{arith}
use lib.ListN.{length, take}
use lib.Dec.{T, eqb, eqb→eq}
use Rattle.number.proofs.Tests.{cases}
use Rattle.grammar.specs.Bytes.{Bytes, text}
use Rattle.lane.specs.Names.{U, D}
use Rattle.lane.specs.Chart.{is_free, may_name, Received as IsReceived, Sent as IsSent, chart, by_rows, next}
use Rattle.lane.specs.Record.{fresh, carries_own, other, step_in, step_out, received, sent}
use Rattle.lane.proofs.Laws.{by_rows_lem, received_by_lem, sent_by}
use Rattle.lane.specs.declared.Event.{Event}
use Rattle.lane.specs.declared.Lane.{Lane}
use Rattle.lane.specs.declared.Moved.{Moved}
use Rattle.table.specs.Table.{table}
use Rattle.table.specs.Theorems.{each_rows}
use Rattle.table.specs.Says.{child_of, said_of}
use Rattle.message.proofs.CalledLaws.{short_named}
use Rattle.message.specs.Checked.{message_of}
use Rattle.message.specs.Fields.{the_words}
use Rattle.message.specs.Messages.{id_of, called}
use Rattle.message.specs.declared.checking.Checked.{Checked}
use Rattle.message.specs.declared.cells.Message.{Message}
use Rattle.meant.specs.Meant.{refusal_of}
use Rattle.meant.specs.Events.{Carried, event_of, forecast_id, Carries, carried_by, event_sent, event_with}
use Rattle.promises.specs.Receiving.{Receives}
use Rattle.promises.specs.Sending.{Sends}
use Rattle.promises.specs.Mirror.{Mirrored}
use Rattle.promises.specs.declared.Received.{Received}
use Rattle.promises.specs.declared.Sent.{Sent}
use Rattle.promises.proofs.SentReceived.{ReadAs, read_kind, read_values, sent_is_received}
use Rattle.promises.proofs.ReadBack.{same_id_case, both_called, forecast_back}
use Rattle.promises.proofs.Theorems as all

-- two new lanes
pub fresh_mirrored : Mirrored (fresh U) (fresh D)
fresh_mirrored = record { ours = inl refl; theirs = refl; state = refl; offered = refl; running = refl }

-- what may be sent is taken by the other side, with the same next state
leads_to : Option ℕ → ℕ → Bool
leads_to (Some m) n = eqb m n
leads_to None n = false

leads_to_lem : (st : Option ℕ) (n : ℕ) → T (leads_to st n) → st ≡ Some n
unfolding leads_to
leads_to_lem (Some m) n t = ap Some (eqb→eq m n t)
leads_to_lem None n t = absurd t

taken : ℕ → ℕ → ℕ → ℕ → Bool
taken s k u n = leads_to (by_rows chart s k u IsReceived) n

rows_taken : (s k u n : ℕ) → by_rows chart s k u IsSent ≡ Some n → by_rows chart s k u IsReceived ≡ Some n
unfolding taken leads_to chart by_rows
rows_taken s k u n q = leads_to_lem (by_rows chart s k u IsReceived) n (by_rows_lem taken s k u n IsSent chart tt q)

may_name_lem : (k : ℕ) (same : Bool) → may_name k IsSent same ≡ true → may_name k IsReceived same ≡ true
may_name_lem k same h = cases (eqb k 7) (λ e. rw e refl) (λ e. rw e (rw e at h))

sent_taken : (s k u : ℕ) (same : Bool) (n : ℕ) → next s k u IsSent same ≡ Some n → next s k u IsReceived same ≡ Some n
unfolding next
sent_taken s k u same n q =
    cases (is_free k) (λ f. cases (eqb k 0) (λ z. no_step (rw (f, z) at q)) (λ z. rw (f, z) (rw (f, z) at q)))
    (λ f. cases (may_name k IsSent same) (λ m. rw (f, may_name_lem k same m) (rows_taken s k u n (rw (f, m) at q))) (λ m. no_step (rw (f, m) at q)))
  where
    no_step : {X : Type 0} → None ≡ Some n → X
    no_step e = absurd (let x : ◌≡◌ {A = ℕ} 0 1 = cc in omega arith)

-- the two lanes
module _ {l l' : Lane} (w : Mirrored l l') where
  their_sender : other l'.side ≡ l.side
  their_sender = ap other w.theirs ∙ ⊎_elim (λ e. rw e refl) (λ e. rw e refl) w.ours

  same_own : (e : Event) → carries_own l' e ≡ carries_own l e
  same_own e = rw (w.offered, w.running) refl

  -- a step of the sender's is a step of the receiver's
  same_step : (e : Event) (n : ℕ) → step_out l e ≡ Some n
      → ((received l' e).refusal ≡ 0) × Mirrored (sent l e).lane (received l' e).lane × ((received l' e).order ≡ (sent l e).order)
  same_step e n q =
      let f : step_in l' e ≡ Some n = rw (w.state, their_sender, same_own e) (sent_taken l.state e.kind l.side (carries_own l e) n q) in
      let a = sent_by l e (Some n) q in
      let b = received_by_lem l' e (Some n) f in
      rw (a, b) (refl, record { ours = w.ours; theirs = w.theirs; state = refl; offered = rw w.offered refl; running = rw w.running refl }, rw (w.state, same_own e) refl)

  sent_step : (e : Event) → (sent l e).refusal ≡ 0
      → ((received l' e).refusal ≡ 0) × Mirrored (sent l e).lane (received l' e).lane × ((received l' e).order ≡ (sent l e).order)
  sent_step e z = go (step_out l e) refl
    where
      go : (st : Option ℕ) → step_out l e ≡ st
          → ((received l' e).refusal ≡ 0) × Mirrored (sent l e).lane (received l' e).lane × ((received l' e).order ≡ (sent l e).order)
      go (Some n) q = same_step e n q
      go None q = absurd (let x : 8 ≡ 0 = sym (ap (λ (v : Moved). v.refusal) (sent_by l e None q)) ∙ z in omega arith)

-- what was read names the board that was sent
read_id : {s : Bytes} (m : Message) (texts : Bytes) {n : ℕ} {c : Checked} → ReadAs s m texts n c → refusal_of m texts ≡ 0 → id_of c.message ≡ id_of m
read_id m texts a z = ap id_of a.handed.fields ∙ same_id_case m texts a.handed.place (child_of a.handed.reading) z (said_of a.handed.reading).kind (read_kind m texts a) (read_values m texts a)

-- and carries the ForecastId that was sent
read_forecast : {s : Bytes} (m : Message) (texts : Bytes) {n : ℕ} {c : Checked} {f : Carried} → ReadAs s m texts n c → refusal_of m texts ≡ 0 → Carries s (forecast_id c.message) f → f ≡ carried_by m texts
unfolding forecast_id carried_by table
read_forecast {s} m texts {c = c} {f} a z x =
    let h = a.handed in
    let t = child_of h.reading in
    let e : c.message ≡ message_of m.kind h.place t = h.fields ∙ ap (λ (k : ℕ). message_of k h.place t) (read_kind m texts a) in
    forecast_back (both_called m texts h.place t z (read_values m texts a) "ForecastId" (λ k. each_rows (short_named (text "ForecastId")) table k refl)) (h.there (text "ForecastId")) (h.absent (text "ForecastId"))
    (subst (λ (m : Message). Carries s (the_words (called "ForecastId" m)) f) e x)

-- and is the same for the chart
read_event : {s : Bytes} (m : Message) (texts : Bytes) {n : ℕ} {c : Checked} {f : Carried} → ReadAs s m texts n c → refusal_of m texts ≡ 0 → Carries s (forecast_id c.message) f → event_of c.message f ≡ event_sent m texts
read_event m texts a z x = alike a.kind (read_id m texts a z) (read_forecast m texts a z x)
  where
    alike : {k k' : ℕ} {b b' : Bytes} {f f' : Carried} → k ≡ k' → b ≡ b' → f ≡ f' → event_with k b f ≡ event_with k' b' f'
    alike e g h = rw (e, g, h) refl

-- the message is accepted, with the same order, and the lanes mirror each other again
pub one_handover : {l l' : Lane} {m : Message} {texts old new old' new' : Bytes} {r : Sent} {r' : Received} (rest : Bytes)
    → Mirrored l l' → Sends l m texts old new r → r.refusal ≡ 0 → Receives l' (take r.written new ++ rest) old' new' r' → 525 ≤ length old'
    → (r'.refusal ≡ 0) × Mirrored r.lane r'.lane × (r'.order ≡ r.order) × (r'.used ≡ r.written) × (r'.lane ≡ (received l' (event_sent m texts)).lane)
one_handover {l} {l'} {m} {texts} {old} {new} {old'} {new'} {r} {r'} rest w p z q room = go (all.decides p)
  where
    a : ReadAs (take r.written new ++ rest) m texts r.written q.checked
    a = (sent_is_received p z).1 rest q.checked q.checks

    fitted : length q.due ≤ length old'
    fitted = let x = all.owes_long q.owes in omega arith

    go : all.Decides l m texts old new r → (r'.refusal ≡ 0) × Mirrored r.lane r'.lane × (r'.order ≡ r.order) × (r'.used ≡ r.written) × (r'.lane ≡ (received l' (event_sent m texts)).lane)
    go (all.refused_by_case n e f) = absurd (n (sym (ap (λ (r : Sent). r.refusal) e) ∙ z))
    go (all.may_not_case b n e f) = absurd (let x : 8 ≡ 0 = sym (ap (λ (r : Sent). r.refusal) e) ∙ z in omega arith)
    go (all.lacks_room b c h e f) = absurd (let x : 7 ≡ 0 = sym (ap (λ (r : Sent). r.refusal) e) ∙ z in omega arith)
    go (all.goes b c h e f) =
        let s = sent_step w (event_sent m texts) c in
        let v : all.moved q ≡ received l' (event_sent m texts) = all.moved_on l' q.checked.refusal (all.event q) a.refusal ∙ ap (received l') (read_event m texts a b q.carries) in
        (all.told_refusal q fitted ∙ ap (λ (v : Moved). v.refusal) v ∙ s.0, rw (ap (λ (r : Sent). r.lane) e, all.told_lane q fitted ∙ ap (λ (v : Moved). v.lane) v) s.1, all.told_order q fitted ∙ ap (λ (v : Moved). v.order) v ∙ s.2 ∙ sym (ap (λ (r : Sent). r.order) e), all.told_used q fitted ∙ a.end, all.told_lane q fitted ∙ ap (λ (v : Moved). v.lane) v)
