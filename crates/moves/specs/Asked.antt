-- Where the chart asks whether a message carries the id that it is held against: for the proofs of private functions only.
use Rattle.std.specs.Prelude.{◌≡◌, Bool, ℕ}
use Rattle.lane.specs.Chart.{next}
use Rattle.lane.specs.Record.{carries_own}
use Rattle.lane.specs.declared.Lane.{Lane}
use Rattle.lane.specs.declared.Event.{Event}

-- the chart says the same of r as of what the message carries
pub record Asked (l : Lane) (e : Event) (r : Bool) : Type 0 where
  pub says : (s u : ℕ) (received : Bool) → next s e.kind u received r ≡ next s e.kind u received (carries_own l e)
