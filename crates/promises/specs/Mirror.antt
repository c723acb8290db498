-- Two lanes that see one handover.
use Rattle.std.specs.Prelude.{◌≡◌, ◌⊎◌}
use Rattle.lane.specs.Names.{U, D}
use Rattle.lane.specs.Record.{other}
use Rattle.lane.specs.declared.Lane.{Lane}

-- opposite sides, and the same state and BoardIds; the ForecastId that a lane keeps is its own
pub record Mirrored (l l' : Lane) : Type 0 where
  pub ours : (l.side ≡ U) ⊎ (l.side ≡ D)
  pub theirs : l'.side ≡ other l.side
  pub state : l'.state ≡ l.state
  pub offered : l'.offered ≡ l.offered
  pub running : l'.running ≡ l.running
