-- A lane record as it is lent by C: its side, its state, its two BoardIds, and the ForecastId that it keeps.
use Rattle.std.specs.Prelude.{◌≡◌, ℕ}
use Rattle.grammar.specs.Bytes.{Bytes}
use Rattle.lane.specs.declared.Lane.{Lane}

abbrev pub lane_of : ℕ → ℕ → Bytes → Bytes → ℕ → Bytes → Lane
lane_of side state offered running length forecast = record { side = side; state = state; offered = offered; running = running; forecast = record { length = length; bytes = forecast } }

-- what is lent is l
pub record Lent (l : Lane) (side state : ℕ) (offered running : Bytes) (length : ℕ) (forecast : Bytes) : Type 0 where
  pub is : lane_of side state offered running length forecast ≡ l
