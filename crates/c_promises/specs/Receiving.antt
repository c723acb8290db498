-- What receiving tells C.
use Rattle.std.specs.Prelude.{◌≡◌, List, ℕ}
use Rattle.grammar.specs.Bytes.{Bytes}
use Rattle.lane.specs.declared.Lane.{Lane}
use Rattle.promises.specs.Receiving.{Receives}
use Rattle.promises.specs.declared.Received.{Received}
use Rattle.c_promises.specs.Lanes.{Lent}

-- a lane l, an input s, a buffer that holds `old` before and `new` after; the side is the lane's own
pub record ReceivesAs (l : Lane) (s old new : Bytes) (refusal state : ℕ) (offered running : Bytes) (length : ℕ) (forecast : Bytes) (kind : ℕ) (cells : List ℕ) (id : Bytes) (order used written place : ℕ) : Type 0 where
  pub received : Received
  pub receives : Receives l s old new received
  pub refuses : refusal ≡ received.refusal
  pub after : Lent received.lane l.side state offered running length forecast
  pub kinds : kind ≡ received.message.kind
  pub says : cells ≡ received.message.cells
  pub names : id ≡ received.message.id
  pub orders : order ≡ received.order
  pub uses : used ≡ received.used
  pub writes : written ≡ received.written
  pub places : place ≡ received.place
