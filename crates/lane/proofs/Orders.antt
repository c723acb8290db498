-- T2.L8: when each belt order is given, and only then.
use Rattle.std.proofs.Math.Path.{◌≡◌, refl}
use Rattle.std.proofs.Common.{ap, arith, eqb-true}
use Rattle.std.specs.Prelude.{Bool, ◌⊎◌, ◌↔◌, ℕ, Option, Some, None}
use Rattle.std.proofs.Math.Bool.{true, false}
use Rattle.std.proofs.Math.Logic.{inl, inr, ⊎_elim}
use Rattle.std.proofs.Math.Dec.{eqb}
use Rattle.lane.specs.Names.{U, D, Both, StartTransport, NoOrder, Run, Cancel, StopNow, MayNotBeSent, ProtocolError}
use Rattle.lane.specs.Chart.{both, Received, Sent}
use Rattle.lane.specs.Record.{running_used, carries_own, ended, kept, answer, other, step_in, step_out, received, sent}
use Rattle.lane.proofs.Laws.{same_refl, same_true}
use Rattle.lane.proofs.Laws.{other_down}
use Rattle.lane.proofs.Belt.{start_cancel_ready, start_cancel_other, start_run, start_sent}
use Rattle.lane.proofs.OrderLaws.{run_says, cancel_says, stop_not, end_not, end_stop, start_passes, start_sent_passes}
use Rattle.lane.specs.declared.Event.{Event}
use Rattle.lane.specs.declared.Lane.{Lane}
use Rattle.lane.specs.declared.Moved.{Moved}
use Rattle.lane.specs.Orders.{StartsOwn, StartsOther}

-- order 3: "when a refusal that ends the connection meets Transporting, Stopped or Finished"
pub order_stop_ended : (l : Lane) (refusal : ℕ) → (ended l refusal).order ≡ StopNow ↔ running_used l.state ≡ true
order_stop_ended l refusal = (end_stop (running_used l.state), λ h. rw h)

module _ (l : Lane) (e : Event) where
  own_id : e.kind ≡ StartTransport → carries_own l e ≡ true → l.offered ≡ e.id
  own_id k h = same_true (rw k at h)

  other_id : e.kind ≡ StartTransport → both (eqb l.state Both) (carries_own l e) ≡ false → l.state ≡ Both → l.offered ≡ e.id → ⊥
  other_id k h et ei = (let z : true ≡ false = rw (et, k, ei, same_refl e.id) at h in let x : ◌≡◌ {A = ℕ} 0 1 = cc in omega arith)

  -- order 1, received
  run_if : StartsOwn l e U → (received l e).order ≡ Run
  run_if p = ap (λ (m : Moved). m.order) (start_run l e p.kind p.ours p.state p.named)

  run_only : (received l e).order ≡ Run → StartsOwn l e U
  unfolding received
  run_only h = go (step_in l e) refl h
    where
      go : (st : Option ℕ) → step_in l e ≡ st → (answer Received st l e (ended l ProtocolError)).order ≡ Run → StartsOwn l e U
      go (Some n) q w =
          let p = run_says l e w in
          let f = start_passes l.state e.kind (other l.side) Received (carries_own l e) n p.0 q in
          record { kind = p.0; ours = other_down l.side f.0; state = p.1; named = own_id p.0 p.2 }
      go None q w = absurd (end_not (running_used l.state) Run (inl refl) w)

  pub order_run_received : (received l e).order ≡ Run ↔ StartsOwn l e U
  order_run_received = (run_only, run_if)

  -- order 2, received
  cancel_if : StartsOther l e U → (received l e).order ≡ Cancel
  cancel_if p =
      ap (λ (m : Moved). m.order)
      (⊎_elim (start_cancel_ready l e p.kind p.ours) (λ b. start_cancel_other l e p.kind p.ours b.0 b.1) p.place)

  cancel_only : (received l e).order ≡ Cancel → StartsOther l e U
  unfolding received
  cancel_only h = go (step_in l e) refl h
    where
      go : (st : Option ℕ) → step_in l e ≡ st → (answer Received st l e (ended l ProtocolError)).order ≡ Cancel → StartsOther l e U
      go (Some n) q w =
          let p = cancel_says l e w in
          let f = start_passes l.state e.kind (other l.side) Received (carries_own l e) n p.0 q in
          record {
            kind = p.0;
            ours = other_down l.side f.0;
            place = ⊎_elim inl (λ b. inr (b, other_id p.0 p.1 b)) f.1;
          }
      go None q w = absurd (end_not (running_used l.state) Cancel (inr refl) w)

  pub order_cancel_received : (received l e).order ≡ Cancel ↔ StartsOther l e U
  order_cancel_received = (cancel_only, cancel_if)

  -- order 3, received
  pub order_stop_received : (received l e).order ≡ StopNow ↔ (((received l e).refusal ≡ ProtocolError) × (running_used l.state ≡ true))
  unfolding received
  order_stop_received = go (step_in l e)
    where
      go : (st : Option ℕ) → (answer Received st l e (ended l ProtocolError)).order ≡ StopNow ↔ (((answer Received st l e (ended l ProtocolError)).refusal ≡ ProtocolError) × (running_used l.state ≡ true))
      go (Some n) = (λ q. absurd (stop_not l e q), λ p. absurd (let x : ◌≡◌ {A = ℕ} 0 9 = p.0 in omega arith))
      go None = (λ q. (refl, end_stop (running_used l.state) q), λ p. rw p.1)

  -- order 1, sent; no other order is given in sending
  sent_if : StartsOwn l e D → (sent l e).order ≡ Run
  sent_if p = ap (λ (m : Moved). m.order) (start_sent l e p.kind p.ours p.state p.named)

  sent_run_only : (sent l e).order ≡ Run → StartsOwn l e D
  unfolding sent
  sent_run_only h = go (step_out l e) refl h
    where
      go : (st : Option ℕ) → step_out l e ≡ st → (answer Sent st l e (kept l MayNotBeSent)).order ≡ Run → StartsOwn l e D
      go (Some n) q w =
          let p = run_says l e w in
          let f = start_passes l.state e.kind l.side Sent (carries_own l e) n p.0 q in
          record { kind = p.0; ours = f.0; state = p.1; named = own_id p.0 p.2 }
      go None q w = absurd (let x : ◌≡◌ {A = ℕ} 0 1 = w in omega arith)

  pub order_run_sent : (sent l e).order ≡ Run ↔ StartsOwn l e D
  order_run_sent = (sent_run_only, sent_if)

  pub order_sent_else : ((sent l e).order ≡ Run) ⊎ ((sent l e).order ≡ NoOrder)
  unfolding sent
  order_sent_else = go (step_out l e) refl (eqb e.kind StartTransport) refl
    where
      go : (st : Option ℕ) → step_out l e ≡ st → (z : Bool) → eqb e.kind StartTransport ≡ z → ((answer Sent st l e (kept l MayNotBeSent)).order ≡ Run) ⊎ ((answer Sent st l e (kept l MayNotBeSent)).order ≡ NoOrder)
      go (Some n) q true ez =
          let p = start_sent_passes l.state e.kind l.side (carries_own l e) n (eqb-true e.kind 7 ez) q in
          inl (rw (p.1, p.0, ez))
      go (Some n) q false ez = inr (rw ez)
      go None q z ez = inr refl
