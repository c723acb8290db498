-- "Notification, CheckAlive and kind 0 come from either side in every state and change neither the state nor an id in use; kind 0 can't be sent (8)."
use Rattle.lane.specs.Names.{NoOrder, Accepted}
use Rattle.lane.specs.Chart.{pick}
use Rattle.lane.specs.Record.{no_id, offered_used, running_used, ordinary}
use Rattle.lane.specs.declared.Lane.{Lane}
use Rattle.lane.specs.declared.Moved.{Moved}

-- accepted, with nothing changed but that ids not in use are zero
abbrev pub passed : Lane → Moved
passed l =
    record {
      refusal = Accepted;
      lane = ordinary l l.state (pick (offered_used l.state) l.offered no_id) (pick (running_used l.state) l.running no_id);
      order = NoOrder;
    }
