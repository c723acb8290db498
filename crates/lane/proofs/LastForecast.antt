-- Order 3: "The record keeps the last ForecastId received in a forecast (one without an id, or one sent, leaves it) ..,
-- cleared when a MachineReady carrying the same id passes or the lane returns to NotConnected."
use Rattle.std.specs.Prelude.{◌≡◌, refl, List, [], ◌∷◌, Bool, true, false, ◌⊎◌, ◌↔◌, ℕ, eqb, take, Option, Some, None}
use Rattle.std.specs.Option.{option_map}
use Rattle.std.proofs.Common.{sym, ap, ◌∙◌, inl, inr, ⊎_elim, arith, eqb-true}
use Rattle.lane.specs.Names.{MachineReady, BoardForecast, Accepted}
use Rattle.lane.specs.Chart.{pick, both, Received, Sent, chart, next}
use Rattle.lane.specs.Ids.{same_id, no_forecast, righted, same_forecast, id_of}
use Rattle.lane.proofs.IdLaws.{righted_again, same_ids}
use Rattle.lane.specs.Record.{forecast_used, forecast_held, replaced, cleared, forecast_after, accepted, other, carries_own, step_in, step_out, received, sent}
use Rattle.lane.proofs.Laws.{same_refl, same_true}
use Rattle.lane.proofs.Laws.{is_true, clash, same_picked, at_each, by_rows_lem, next_cases, held_right, received_by_lem, sent_by}
use Rattle.lane.specs.StepForStep.{Happening, gets, sends, ends, loses, after, final}
use Rattle.lane.specs.Forecasts.{taking}
use Rattle.lane.proofs.Forecasts.{forecast_step}
use Rattle.lane.specs.declared.Event.{Event}
use Rattle.lane.specs.declared.Lane.{Lane}
use Rattle.lane.specs.declared.ids.Forecast.{Forecast}
use Rattle.lane.specs.LastForecast.{Saying, id_kept, forecasts, readies, disconnects, silent, says, said, saying, keeps, last_said, Carries}

-- The laws. The id of what is kept is what is held.
none_id : id_of no_forecast ≡ []
unfolding righted
none_id = refl

id_right : (f : Forecast) → id_of (righted f) ≡ id_of f
id_right f = ap (λ (r : Forecast). take r.length r.bytes) (righted_again f)

kept_held : (l : Lane) → id_kept l ≡ id_of (forecast_held l)
kept_held l = go (forecast_used l.state)
  where
    go : (u : Bool) → pick u (id_of l.forecast) [] ≡ id_of (pick u (righted l.forecast) no_forecast)
    go true = sym (id_right l.forecast)
    go false = sym none_id

-- What a message says, by whether it is a MachineReady and whether it is a forecast that was received.
abbrev spoken : Bool → Bool → Option Forecast → Saying
spoken B A None = silent
spoken B A (Some f) = pick B (readies (id_of f)) (pick A (forecasts (id_of f)) silent)

-- A message, by its tests: A, it is a forecast; B, a MachineReady; C, it carries an id.
not_both : (k : ℕ) → both (eqb k BoardForecast) (eqb k MachineReady) ≡ false
not_both k = go (eqb k BoardForecast) refl
  where
    go : (z : Bool) → eqb k BoardForecast ≡ z → both z (eqb k MachineReady) ≡ false
    go true e = rw (eqb-true k BoardForecast e)
    go false e = refl

cleared_by : (h f : Forecast) → righted h ≡ h → id_of (pick (same_forecast h (righted f)) no_forecast h) ≡ pick (same_id (id_of h) (id_of f)) [] (id_of h)
cleared_by h f p =
    ap (λ (z : Bool). id_of (pick z no_forecast h)) (ap (λ (x : Forecast). same_forecast x (righted f)) (sym p) ∙ same_ids h f)
    ∙ picked (same_id (id_of h) (id_of f))
  where
    picked : (z : Bool) → id_of (pick z no_forecast h) ≡ pick z [] (id_of h)
    picked true = none_id
    picked false = refl

by_tests : (A B C r : Bool) (h f : Forecast) → both A B ≡ false → righted h ≡ h
    → id_of (pick A (pick (both C r) (righted f) h) (pick B (pick (both C (same_forecast h (righted f))) no_forecast h) h))
    ≡ keeps (id_of h) (pick C (pick B (readies (id_of f)) (pick (both A r) (forecasts (id_of f)) silent)) silent)
by_tests true true C r h f x p = clash x
by_tests true false true true h f x p = id_right f
by_tests true false true false h f x p = refl
by_tests true false false r h f x p = refl
by_tests false true true r h f x p = cleared_by h f p
by_tests false true false r h f x p = refl
by_tests false false true r h f x p = refl
by_tests false false false r h f x p = refl

-- and by whether it carries an id
by_id : (k : ℕ) (r : Bool) (h : Forecast) (o : Option Forecast) → righted h ≡ h
    → id_of (pick (eqb k BoardForecast) (replaced r h o) (pick (eqb k MachineReady) (cleared h o) h)) ≡ keeps (id_of h) (says r k o)
by_id k r h None p =
    ap id_of
    (ap (λ (f : Forecast). pick (eqb k BoardForecast) h f) (same_picked (eqb k MachineReady) h)
    ∙ same_picked (eqb k BoardForecast) h)
by_id k r h (Some f) p = by_tests (eqb k BoardForecast) (eqb k MachineReady) true r h f (not_both k) p

after_said : (r : Bool) (h : Forecast) (e : Event) → righted h ≡ h → id_of (forecast_after r h e) ≡ keeps (id_of h) (said r e)
after_said r h e = by_id e.kind r h e.forecast

none_by_tests : (A B C r : Bool) (x : List ℕ) → both A r ≡ false → keeps [] (pick C (pick B (readies x) (pick (both A r) (forecasts x) silent)) silent) ≡ []
none_by_tests A true true r x h = same_picked (same_id [] x) []
none_by_tests A false true r x h = rw h
none_by_tests A B false r x h = refl

none_by_id : (k : ℕ) (r : Bool) (o : Option Forecast) → both (eqb k BoardForecast) r ≡ false → keeps [] (says r k o) ≡ []
none_by_id k r None h = refl
none_by_id k r (Some f) h = none_by_tests (eqb k BoardForecast) (eqb k MachineReady) true r (id_of f) h

-- What the chart says: a state with a forecast in use leads to another one, and a forecast passes in these states only.
used_row : ℕ → ℕ → ℕ → ℕ → Bool
used_row s k u n = pick (forecast_used s) (forecast_used n) true

stays_used : (s k u : ℕ) (r same : Bool) (n : ℕ) → next s k u r same ≡ Some n → forecast_used s ≡ true → forecast_used n ≡ true
unfolding used_row chart
stays_used s k u r same n q h =
    ⊎_elim (λ p. rw p.1 h) (λ p. is_true (forecast_used n) (rw h at (by_rows_lem used_row s k u n r chart tt p.0))) (next_cases s k u r same n q)

forecast_used_lem : (s k u : ℕ) (r same : Bool) (n : ℕ) → next s k u r same ≡ Some n → k ≡ BoardForecast → forecast_used n ≡ true
forecast_used_lem s k u r same n q e =
    let f = forecast_step s k u r same n e q in
    rw f.stays (at_each (λ (s : ℕ). forecast_used s ≡ true) taking s (refl, (refl, (refl, (refl, tt)))) f.state)

-- A message that leads to state n says what is kept there.
module _ (r : Bool) (n : ℕ) (l : Lane) (e : Event) (u : ℕ) (same : Bool) (q : next l.state e.kind u r same ≡ Some n) where
  none_unused : forecast_used n ≡ false → keeps (id_kept l) (said r e) ≡ []
  none_unused h =
      ap (λ (id : List ℕ). keeps id (said r e)) (none (forecast_used l.state) refl)
      ∙ none_by_id e.kind r e.forecast (no (eqb e.kind BoardForecast) refl)
    where
      none : (z : Bool) → forecast_used l.state ≡ z → pick z (id_of l.forecast) [] ≡ []
      none true w = clash (sym (stays_used l.state e.kind u r same n q w) ∙ h)
      none false w = refl

      no : (z : Bool) → eqb e.kind BoardForecast ≡ z → both z r ≡ false
      no true w = clash (sym (forecast_used_lem l.state e.kind u r same n q (eqb-true e.kind BoardForecast w)) ∙ h)
      no false w = refl

  passes : id_kept (accepted r n l e).lane ≡ keeps (id_kept l) (said r e)
  passes = go (forecast_used n) refl
    where
      go : (z : Bool) → forecast_used n ≡ z → pick z (id_of (pick z (forecast_after r (forecast_held l) e) no_forecast)) [] ≡ keeps (id_kept l) (said r e)
      go true w = after_said r (forecast_held l) e (held_right l) ∙ ap (λ (id : List ℕ). keeps id (said r e)) (sym (kept_held l))
      go false w = sym (none_unused w)

-- What happens says what is kept.
pub said_kept : (l : Lane) (h : Happening) → id_kept (after l h) ≡ keeps (id_kept l) (saying l h)
said_kept l (gets e) = go (step_in l e) refl
  where
    go : (st : Option ℕ) → step_in l e ≡ st → id_kept (received l e).lane ≡ keeps (id_kept l) (pick (eqb (received l e).refusal Accepted) (said Received e) disconnects)
    go (Some n) q = rw (received_by_lem l e (Some n) q) (passes Received n l e (other l.side) (carries_own l e) q)
    go None q = rw (received_by_lem l e None q)
said_kept l (sends e) = go (step_out l e) refl
  where
    go : (st : Option ℕ) → step_out l e ≡ st → id_kept (sent l e).lane ≡ keeps (id_kept l) (pick (eqb (sent l e).refusal Accepted) (said Sent e) silent)
    go (Some n) q = rw (sent_by l e (Some n) q) (passes Sent n l e l.side (carries_own l e) q)
    go None q = rw (sent_by l e None q)
said_kept l (ends refusal) = refl
said_kept l loses = refl

-- "The record keeps the last ForecastId received": what a run leaves is what it said last.
pub kept_is_last_said : (l : Lane) (hs : List Happening) → id_kept (final l hs) ≡ last_said (id_kept l) l hs
kept_is_last_said l [] = refl
kept_is_last_said l (h ∷ hs) = kept_is_last_said (after l h) hs ∙ ap (λ (id : List ℕ). last_said id (after l h) hs) (said_kept l h)

-- An id that was kept (so that a forecast was in use) is cleared by an accepted message exactly if that is a MachineReady with the same id,
-- or a received forecast with an id of no bytes.
module _ (l : Lane) (e : Event) (some : id_kept l ≡ [] → ⊥) where
  abbrev Clears : Bool → Type 0
  Clears r = Carries e MachineReady (id_kept l) ⊎ ((r ≡ Received) × Carries e BoardForecast [])

  only : (r : Bool) → keeps (id_kept l) (said r e) ≡ [] → Clears r
  only r h = go e.forecast refl (eqb e.kind MachineReady) refl (eqb e.kind BoardForecast) refl r refl h
    where
      named_by : (f : Forecast) {id : List ℕ} → e.forecast ≡ Some f → id_of f ≡ id → option_map id_of e.forecast ≡ Some id
      named_by f w q = ap (option_map id_of) w ∙ ap Some q

      readied : (f : Forecast) → e.forecast ≡ Some f → e.kind ≡ MachineReady → (z : Bool) → same_id (id_kept l) (id_of f) ≡ z → pick z [] (id_kept l) ≡ [] → Clears r
      readied f ec k true w q = inl (record { kind = k; named = named_by f ec (sym (same_true w)) })
      readied f ec k false w q = absurd (some q)

      go : (o : Option Forecast) → e.forecast ≡ o → (b : Bool) → eqb e.kind MachineReady ≡ b → (a : Bool) → eqb e.kind BoardForecast ≡ a → (i : Bool) → r ≡ i
          → keeps (id_kept l) (spoken b (both a i) o) ≡ [] → Clears r
      go (Some f) ec true eb a ea i ei q = readied f ec (eqb-true e.kind MachineReady eb) (same_id (id_kept l) (id_of f)) refl q
      go (Some f) ec false eb true ea true ei q = inr (ei, record { kind = eqb-true e.kind BoardForecast ea; named = named_by f ec q })
      go (Some f) ec false eb true ea false ei q = absurd (some q)
      go (Some f) ec false eb false ea i ei q = absurd (some q)
      go None ec b eb a ea i ei q = absurd (some q)

  if : (r : Bool) → Clears r → keeps (id_kept l) (said r e) ≡ []
  if r w = ⊎_elim ready (λ p. forecast p.0 p.1) w
    where
      ready : Carries e MachineReady (id_kept l) → keeps (id_kept l) (said r e) ≡ []
      ready c = rw c.kind (go e.forecast c.named)
        where
          go : (o : Option Forecast) → option_map id_of o ≡ Some (id_kept l) → keeps (id_kept l) (says r MachineReady o) ≡ []
          go None q = absurd (let z : ◌≡◌ {A = ℕ} 0 1 = cc in omega arith)
          go (Some f) q =
              let e : id_of f ≡ id_kept l = cc in
              rw e (rw (same_refl (id_kept l)))

      forecast : r ≡ Received → Carries e BoardForecast [] → keeps (id_kept l) (said r e) ≡ []
      forecast x c = rw (c.kind, x) (go e.forecast c.named)
        where
          go : (o : Option Forecast) → option_map id_of o ≡ Some [] → keeps (id_kept l) (says Received BoardForecast o) ≡ []
          go None q = absurd (let z : ◌≡◌ {A = ℕ} 0 1 = cc in omega arith)
          go (Some f) q = let e : id_of f ≡ [] = cc in e

  pub cleared_received : (received l e).refusal ≡ Accepted → id_kept (received l e).lane ≡ [] ↔ (Carries e MachineReady (id_kept l) ⊎ Carries e BoardForecast [])
  cleared_received a =
      let q : id_kept (received l e).lane ≡ keeps (id_kept l) (said Received e) = said_kept l (gets e) ∙ rw a in
      (λ h. ⊎_elim inl (λ p. inr p.1) (only Received (sym q ∙ h)), λ w. q ∙ if Received (⊎_elim inl (λ c. inr (refl, c)) w))

  pub cleared_sent : (sent l e).refusal ≡ Accepted → id_kept (sent l e).lane ≡ [] ↔ Carries e MachineReady (id_kept l)
  cleared_sent a =
      let q : id_kept (sent l e).lane ≡ keeps (id_kept l) (said Sent e) = said_kept l (sends e) ∙ rw a in
      (λ h. ⊎_elim (λ c. c) (λ p. clash (sym p.0)) (only Sent (sym q ∙ h)), λ c. q ∙ if Sent (inl c))
