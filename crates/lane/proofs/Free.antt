-- "Notification, CheckAlive and kind 0 come from either side in every state and change neither the state nor an id in use; kind 0 can't be sent (8)."
use Rattle.std.specs.Prelude.{◌≡◌, refl, Bool, ℕ, Some, None}
use Rattle.std.proofs.Common.{◌∙◌}
use Rattle.lane.specs.Names.{Unknown, Notification, CheckAlive, MayNotBeSent}
use Rattle.lane.specs.Chart.{Received, Sent, next}
use Rattle.lane.specs.Record.{kept, received, sent}
use Rattle.lane.proofs.Laws.{received_by_lem, sent_by}
use Rattle.lane.specs.declared.Event.{Event}
use Rattle.lane.specs.declared.Lane.{Lane}
use Rattle.lane.specs.Free.{passed}

notification : (s u : ℕ) (r same : Bool) → next s Notification u r same ≡ Some s
unfolding next
notification s u r same = refl

check_alive_lem : (s u : ℕ) (r same : Bool) → next s CheckAlive u r same ≡ Some s
unfolding next
check_alive_lem s u r same = refl

unknown : (s u : ℕ) (same : Bool) → next s Unknown u Received same ≡ Some s
unfolding next
unknown s u same = refl

unknown_sent : (s u : ℕ) (same : Bool) → next s Unknown u Sent same ≡ None
unfolding next
unknown_sent s u same = refl

module _ (l : Lane) (e : Event) where
  pub notification_received : e.kind ≡ Notification → received l e ≡ passed l
  notification_received k = received_by_lem l e (Some l.state) (rw k (notification _ _ _ _)) ∙ rw k

  pub check_alive_received : e.kind ≡ CheckAlive → received l e ≡ passed l
  check_alive_received k = received_by_lem l e (Some l.state) (rw k (check_alive_lem _ _ _ _)) ∙ rw k

  pub unknown_received : e.kind ≡ Unknown → received l e ≡ passed l
  unknown_received k = received_by_lem l e (Some l.state) (rw k (unknown _ _ _)) ∙ rw k

  pub notification_sent : e.kind ≡ Notification → sent l e ≡ passed l
  notification_sent k = sent_by l e (Some l.state) (rw k (notification _ _ _ _)) ∙ rw k

  pub check_alive_sent : e.kind ≡ CheckAlive → sent l e ≡ passed l
  check_alive_sent k = sent_by l e (Some l.state) (rw k (check_alive_lem _ _ _ _)) ∙ rw k

  pub unknown_not_sent : e.kind ≡ Unknown → sent l e ≡ kept l MayNotBeSent
  unknown_not_sent k = sent_by l e None (rw k (unknown_sent _ _ _))
