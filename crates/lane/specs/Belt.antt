-- What a start, a stop and a late revoke do, for every record and id.
-- T2.L5 start-cancel, T2.L6 start_run, T2.L7 foreign_stop.
use Rattle.std.specs.Prelude.{List, ℕ}
use Rattle.lane.specs.Names.{Transporting, NoOrder, Accepted}
use Rattle.lane.specs.Record.{no_id, ordinary}
use Rattle.lane.specs.declared.Event.{Event}
use Rattle.lane.specs.declared.Lane.{Lane}
use Rattle.lane.specs.declared.Moved.{Moved}

-- A transport that was started with an id and an order.
abbrev pub started : Lane → List ℕ → ℕ → Moved
started l id order = record { refusal = Accepted; lane = ordinary l Transporting no_id id; order = order }

module _ (l : Lane) (e : Event) where
  -- "Transporting, Stopped (received only) | RevokeBoardAvailable U | same"
  abbrev pub unmoved : Moved
  unmoved = record { refusal = Accepted; lane = ordinary l l.state no_id l.running; order = NoOrder }
