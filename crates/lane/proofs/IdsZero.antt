-- T2.L3: an id not in use is zero bytes in every record that comes with an accepted message or as NotConnected; its forecast has "zeros behind".
-- T2.L4: a message that may not be sent leaves the record as it was, bit for bit.
use Rattle.std.specs.Prelude.{◌≡◌, refl, Bool, ℕ, Option, Some, None}
use Rattle.std.proofs.Common.{arith}
use Rattle.lane.specs.Names.{Accepted, MayNotBeSent, ProtocolError}
use Rattle.lane.specs.Chart.{Received, Sent}
use Rattle.lane.specs.Ids.{righted}
use Rattle.lane.proofs.IdLaws.{righted_short, righted_long, righted_behind}
use Rattle.lane.specs.Record.{fresh, blank, accepted, ended, kept, answer, step_in, step_out, received, sent}
use Rattle.lane.proofs.Laws.{none_right, forecast_right}
use Rattle.lane.specs.declared.Event.{Event}
use Rattle.lane.specs.declared.Lane.{Lane}
use Rattle.lane.specs.declared.ids.Forecast.{Forecast}
use Rattle.lane.specs.IdsZero.{IdsZero, ZerosBehind}

pub zeros_behind : (f : Forecast) → righted f ≡ f → ZerosBehind f
zeros_behind f e = rw (← e) (record { short = righted_short f; long = righted_long f; behind = righted_behind f })

pub fresh_ids_zero : (side : ℕ) → IdsZero (fresh side)
fresh_ids_zero side = record { offered = λ h. refl; running = λ h. refl; forecast = λ h. refl; right = none_right }

pub lost_ids_zero : (l : Lane) → IdsZero (blank l)
lost_ids_zero l = record { offered = λ h. refl; running = λ h. refl; forecast = λ h. refl; right = none_right }

pub ended_ids_zero : (l : Lane) (refusal : ℕ) → IdsZero (ended l refusal).lane
ended_ids_zero l refusal = lost_ids_zero l

accepted_ids_zero : (r : Bool) (n : ℕ) (l : Lane) (e : Event) → IdsZero (accepted r n l e).lane
accepted_ids_zero r n l e = record { offered = λ h. rw h; running = λ h. rw h; forecast = λ h. rw h; right = forecast_right r n l e }

pub received_ids_zero : (l : Lane) (e : Event) → IdsZero (received l e).lane
unfolding received
received_ids_zero l e = go (step_in l e)
  where
    go : (st : Option ℕ) → IdsZero (answer Received st l e (ended l ProtocolError)).lane
    go (Some n) = accepted_ids_zero Received n l e
    go None = lost_ids_zero l

pub sent_ids_zero : (l : Lane) (e : Event) → (sent l e).refusal ≡ Accepted → IdsZero (sent l e).lane
unfolding sent
sent_ids_zero l e = go (step_out l e)
  where
    go : (st : Option ℕ) → (answer Sent st l e (kept l MayNotBeSent)).refusal ≡ Accepted → IdsZero (answer Sent st l e (kept l MayNotBeSent)).lane
    go (Some n) a = accepted_ids_zero Sent n l e
    go None a = absurd (omega arith)

pub sent_kept : (l : Lane) (e : Event) → ((sent l e).refusal ≡ Accepted → ⊥) → sent l e ≡ kept l MayNotBeSent
unfolding sent
sent_kept l e = go (step_out l e)
  where
    go : (st : Option ℕ) → ((answer Sent st l e (kept l MayNotBeSent)).refusal ≡ Accepted → ⊥) → answer Sent st l e (kept l MayNotBeSent) ≡ kept l MayNotBeSent
    go (Some n) a = absurd (a refl)
    go None a = refl
