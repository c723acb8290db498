-- Order 3, BoardForecast: where it is taken, what it is elsewhere, and that it "never changes the state or a board id".
use Rattle.std.specs.Prelude.{◌≡◌, List, [], ◌∷◌, true, ℕ}
use Rattle.lane.specs.Names.{U, D, Idle, Ready, Transporting, Stopped, NoOrder}
use Rattle.lane.specs.Chart.{among}
use Rattle.lane.specs.Record.{offered_used, running_used}
use Rattle.lane.specs.declared.Lane.{Lane}
use Rattle.lane.specs.declared.Moved.{Moved}

-- "It is sent in Idle and Ready only. Received, it is also taken in Transporting and Stopped"
abbrev pub sending : List ℕ
sending = Idle ∷ Ready ∷ []

abbrev pub taking : List ℕ
taking = Idle ∷ Ready ∷ Transporting ∷ Stopped ∷ []

-- "from upstream": the downstream machine receives it, the upstream machine sends it.
pub record TakesForecast (l : Lane) : Type 0 where
  pub ours : l.side ≡ D
  pub state : among l.state taking ≡ true

pub record SendsForecast (l : Lane) : Type 0 where
  pub ours : l.side ≡ U
  pub state : among l.state sending ≡ true

-- "It never changes the state or a board id."
pub record SameBoards (l : Lane) (m : Moved) : Type 0 where
  pub side : m.lane.side ≡ l.side
  pub state : m.lane.state ≡ l.state
  pub offered : offered_used l.state ≡ true → m.lane.offered ≡ l.offered
  pub running : running_used l.state ≡ true → m.lane.running ≡ l.running
  pub order : m.order ≡ NoOrder
