-- What a start, a stop and a late revoke do, for every record and id.
-- T2.L5 start-cancel, T2.L6 start_run, T2.L7 foreign_stop.
use Rattle.std.specs.Prelude.{◌≡◌, refl, Bool, true, false, ◌⊎◌, ℕ, Some, None}
use Rattle.std.proofs.Common.{◌∙◌, ⊎_elim}
use Rattle.lane.specs.Names.{U, D, Ready, Both, Transporting, Stopped, RevokeBoardAvailable, StartTransport, StopTransport, TransportFinished, Run, Cancel, MayNotBeSent, ProtocolError}
use Rattle.lane.specs.Chart.{Received, Sent, chart, by_rows, next}
use Rattle.lane.specs.Record.{carries_own, ended, kept, other, received, sent}
use Rattle.lane.proofs.Laws.{same_refl, same_false}
use Rattle.lane.proofs.Laws.{received_by_lem, sent_by}
use Rattle.lane.specs.declared.Event.{Event}
use Rattle.lane.specs.declared.Lane.{Lane}
use Rattle.lane.specs.Belt.{started, unmoved}

-- What the chart says of the messages in question.
start_ready : (same : Bool) → next Ready StartTransport D Received same ≡ Some Transporting
unfolding next by_rows chart
start_ready same = refl

start_both : (received : Bool) → next Both StartTransport D received true ≡ Some Transporting
unfolding next by_rows chart
start_both true = refl
start_both false = refl

start_both_other : next Both StartTransport D Received false ≡ Some Transporting
unfolding next by_rows chart
start_both_other = refl

start_sent_not : (s u : ℕ) → next s StartTransport u Sent false ≡ None
unfolding next
start_sent_not s u = refl

stop_not : (s u : ℕ) (received : Bool) → next s StopTransport u received false ≡ None
unfolding next
stop_not s u received = refl

finished_not : (s u : ℕ) (received : Bool) → next s TransportFinished u received false ≡ None
unfolding next
finished_not s u received = refl

revoke_transporting : (same : Bool) → next Transporting RevokeBoardAvailable U Received same ≡ Some Transporting
unfolding next by_rows chart
revoke_transporting same = refl

revoke_stopped : (same : Bool) → next Stopped RevokeBoardAvailable U Received same ≡ Some Stopped
unfolding next by_rows chart
revoke_stopped same = refl

module _ (l : Lane) (e : Event) where
  own : e.kind ≡ StartTransport → l.offered ≡ e.id → carries_own l e ≡ true
  own k h = rw (k, h) (same_refl e.id)

  not_own : e.kind ≡ StartTransport → (l.offered ≡ e.id → ⊥) → carries_own l e ≡ false
  not_own k h = rw k (same_false l.offered e.id h)

  -- "with another id, or in Ready, it orders cancel (2) and still goes to Transporting"
  pub start_cancel_ready : e.kind ≡ StartTransport → l.side ≡ U → l.state ≡ Ready → received l e ≡ started l e.id Cancel
  start_cancel_ready k es et = received_by_lem l e (Some Transporting) (rw (et, es, k) (start_ready _)) ∙ rw (et, k)

  pub start_cancel_other : e.kind ≡ StartTransport → l.side ≡ U → l.state ≡ Both → (l.offered ≡ e.id → ⊥) → received l e ≡ started l e.id Cancel
  start_cancel_other k es et h =
      let f = not_own k h in
      received_by_lem l e (Some Transporting) (rw (f, et, es, k) start_both_other) ∙ rw (f, et, k)

  -- "A received StartTransport in Both with the offered id orders the belt to run (1)"
  pub start_run : e.kind ≡ StartTransport → l.side ≡ U → l.state ≡ Both → l.offered ≡ e.id → received l e ≡ started l e.id Run
  start_run k es et h =
      let o = own k h in
      received_by_lem l e (Some Transporting) (rw (o, et, es, k) (start_both Received)) ∙ rw (o, et, k)

  -- "Sent, it must carry the offered id, and orders run."
  pub start_sent : e.kind ≡ StartTransport → l.side ≡ D → l.state ≡ Both → l.offered ≡ e.id → sent l e ≡ started l e.id Run
  start_sent k es et h =
      let o = own k h in
      sent_by l e (Some Transporting) (rw (o, et, es, k) (start_both Sent)) ∙ rw (o, et, k)

  pub start_sent_other : e.kind ≡ StartTransport → (l.offered ≡ e.id → ⊥) → sent l e ≡ kept l MayNotBeSent
  start_sent_other k h = sent_by l e None (rw (not_own k h, k) (start_sent_not _ _))

  -- "Stop and Finished with an id other than the running one are no transition."
  foreign : (r : Bool) → (e.kind ≡ StopTransport) ⊎ (e.kind ≡ TransportFinished) → (l.running ≡ e.id → ⊥) → (s u : ℕ) → next s e.kind u r (carries_own l e) ≡ None
  foreign r w h s u =
      let f = same_false l.running e.id h in
      ⊎_elim (λ k. rw k (rw f (stop_not s u r))) (λ k. rw k (rw f (finished_not s u r))) w

  pub foreign_stop : (e.kind ≡ StopTransport) ⊎ (e.kind ≡ TransportFinished) → (l.running ≡ e.id → ⊥) → received l e ≡ ended l ProtocolError
  foreign_stop w h = received_by_lem l e None (foreign Received w h l.state (other l.side))

  pub foreign_stop_sent : (e.kind ≡ StopTransport) ⊎ (e.kind ≡ TransportFinished) → (l.running ≡ e.id → ⊥) → sent l e ≡ kept l MayNotBeSent
  foreign_stop_sent w h = sent_by l e None (foreign Sent w h l.state l.side)

  -- "Transporting, Stopped (received only) | RevokeBoardAvailable U | same"
  pub late_revoke_transporting : e.kind ≡ RevokeBoardAvailable → l.side ≡ D → l.state ≡ Transporting → received l e ≡ unmoved l e
  late_revoke_transporting k es et = received_by_lem l e (Some Transporting) (rw (et, es, k) (revoke_transporting _)) ∙ rw (et, k)

  pub late_revoke_stopped : e.kind ≡ RevokeBoardAvailable → l.side ≡ D → l.state ≡ Stopped → received l e ≡ unmoved l e
  late_revoke_stopped k es et = received_by_lem l e (Some Stopped) (rw (et, es, k) (revoke_stopped _)) ∙ rw (et, k)
