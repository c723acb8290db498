-- Order 3, BoardForecast: where it is taken, what it is elsewhere, and that it "never changes the state or a board id".
use Rattle.std.specs.Prelude.{◌≡◌, refl, Bool, true, false, ◌↔◌, ℕ, T, eqb, Some, None}
use Rattle.std.proofs.Common.{ap, ⊎_elim, arith, eqb→eq}
use Rattle.lane.specs.Names.{U, BoardForecast, Accepted, MayNotBeSent, ProtocolError}
use Rattle.lane.specs.Chart.{pick, both, among, Received, Sent, chart, by_rows, next}
use Rattle.lane.specs.Record.{carries_own, accepted, ended, kept, other, received, sent}
use Rattle.lane.proofs.Laws.{both_parts}
use Rattle.lane.proofs.Laws.{is_true, at_each, by_rows_lem, next_cases, other_up, received_by_lem, sent_by, received_leads, sent_leads, received_ended}
use Rattle.lane.proofs.IdsZero.{sent_kept}
use Rattle.lane.specs.declared.Event.{Event}
use Rattle.lane.specs.declared.Lane.{Lane}
use Rattle.lane.specs.declared.Moved.{Moved}
use Rattle.lane.specs.Forecasts.{sending, taking, TakesForecast, SendsForecast, SameBoards}

-- What the chart says of it: the next state is the same one.
taken : (s : ℕ) (same : Bool) → among s taking ≡ true → next s BoardForecast U Received same ≡ Some s
unfolding next by_rows chart
taken s same = at_each (λ (s : ℕ). next s BoardForecast U Received same ≡ Some s) taking s (refl, (refl, (refl, (refl, tt))))

goes : (s : ℕ) (same : Bool) → among s sending ≡ true → next s BoardForecast U Sent same ≡ Some s
unfolding next by_rows chart
goes s same = at_each (λ (s : ℕ). next s BoardForecast U Sent same ≡ Some s) sending s (refl, (refl, tt))

forecast_row : ℕ → ℕ → ℕ → ℕ → Bool
forecast_row s k u n = pick (eqb k BoardForecast) (both (eqb u U) (both (eqb n s) (among s taking))) true

-- a step by a forecast
pub record Forecasted (s u n : ℕ) (r : Bool) : Type 0 where
  pub sender : u ≡ U
  pub stays : n ≡ s
  pub state : among s taking ≡ true
  pub sent : r ≡ Sent → among s sending ≡ true

sent_only : (u n s : ℕ) → among s taking ≡ true → by_rows chart s BoardForecast u Sent ≡ Some n → among s sending ≡ true
unfolding by_rows chart
sent_only u n s = at_each (λ (s : ℕ). by_rows chart s BoardForecast u Sent ≡ Some n → among s sending ≡ true) taking s ((λ q. refl), ((λ q. refl), ((λ q. no q), ((λ q. no q), tt))))
  where
    no : {A : Type 0} → None ≡ Some n → A
    no q = absurd (let x : ◌≡◌ {A = ℕ} 0 1 = cc in omega arith)

pub forecast_step : (s k u : ℕ) (r same : Bool) (n : ℕ) → k ≡ BoardForecast → next s k u r same ≡ Some n → Forecasted s u n r
unfolding forecast_row chart
forecast_step s k u r same n e q =
    ⊎_elim (λ p. absurd (let z : false ≡ true = rw e at p.0 in let x : ◌≡◌ {A = ℕ} 0 1 = cc in omega arith))
    (λ p. by (rw e at (by_rows_lem forecast_row s k u n r chart tt p.0)) (rw e at p.0))
    (next_cases s k u r same n q)
  where
    by : T (both (eqb u U) (both (eqb n s) (among s taking))) → by_rows chart s BoardForecast u r ≡ Some n → Forecasted s u n r
    by t b =
        let p = both_parts (eqb u 1) (both (eqb n s) (among s taking)) t in
        let o = both_parts (eqb n s) (among s taking) p.1 in
        let w = is_true (among s taking) o.1 in
        record { sender = eqb→eq u 1 p.0; stays = eqb→eq n s o.0; state = w; sent = λ h. sent_only u n s w (rw h at b) }

same_boards : (r : Bool) (n : ℕ) (l : Lane) (e : Event) → e.kind ≡ BoardForecast → n ≡ l.state → SameBoards l (accepted r n l e)
same_boards r n l e k q = record { side = refl; state = q; offered = λ h. rw (q, h, k); running = λ h. rw (q, h, k); order = rw k }

module _ (l : Lane) (e : Event) (k : e.kind ≡ BoardForecast) where
  pub forecast_received : (received l e).refusal ≡ Accepted ↔ TakesForecast l
  forecast_received = (only, if)
    where
      only : (received l e).refusal ≡ Accepted → TakesForecast l
      only h =
          let s = received_leads l e h in
          let f = forecast_step l.state e.kind (other l.side) Received (carries_own l e) s.next k s.leads in
          record { ours = other_up l.side f.sender; state = f.state }

      if : TakesForecast l → (received l e).refusal ≡ Accepted
      if t = ap (λ (m : Moved). m.refusal) (received_by_lem l e (Some l.state) (rw (k, t.ours) (taken l.state _ t.state)))

  pub forecast_sent : (sent l e).refusal ≡ Accepted ↔ SendsForecast l
  forecast_sent = (only, if)
    where
      only : (sent l e).refusal ≡ Accepted → SendsForecast l
      only h =
          let s = sent_leads l e h in
          let f = forecast_step l.state e.kind l.side Sent (carries_own l e) s.next k s.leads in
          record { ours = f.sender; state = f.sent refl }

      if : SendsForecast l → (sent l e).refusal ≡ Accepted
      if t = ap (λ (m : Moved). m.refusal) (sent_by l e (Some l.state) (rw (k, t.ours) (goes l.state _ t.state)))

  -- "elsewhere a forecast is 9 received and 8 sent"
  pub forecast_not_received : (TakesForecast l → ⊥) → received l e ≡ ended l ProtocolError
  forecast_not_received h = received_ended l e (λ a. h (forecast_received.0 a))

  pub forecast_not_sent : (SendsForecast l → ⊥) → sent l e ≡ kept l MayNotBeSent
  forecast_not_sent h = sent_kept l e (λ a. h (forecast_sent.0 a))

  pub forecast_received_keeps : (received l e).refusal ≡ Accepted → SameBoards l (received l e)
  forecast_received_keeps h =
      let s = received_leads l e h in
      let f = forecast_step l.state e.kind (other l.side) Received (carries_own l e) s.next k s.leads in
      rw (received_by_lem l e (Some s.next) s.leads) (same_boards Received s.next l e k f.stays)

  pub forecast_sent_keeps : (sent l e).refusal ≡ Accepted → SameBoards l (sent l e)
  forecast_sent_keeps h =
      let s = sent_leads l e h in
      let f = forecast_step l.state e.kind l.side Sent (carries_own l e) s.next k s.leads in
      rw (sent_by l e (Some s.next) s.leads) (same_boards Sent s.next l e k f.stays)
