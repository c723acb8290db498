-- T2.L8: when each belt order is given, and only then.
use Rattle.std.proofs.Math.Path.{◌≡◌}
use Rattle.std.specs.Prelude.{◌⊎◌, ℕ}
use Rattle.lane.specs.Names.{Ready, Both, StartTransport}
use Rattle.lane.specs.declared.Event.{Event}
use Rattle.lane.specs.declared.Lane.{Lane}

-- StartTransport on a lane of a side, in Both, with the offered id
pub record StartsOwn (l : Lane) (e : Event) (side : ℕ) : Type 0 where
  pub kind : e.kind ≡ StartTransport
  pub ours : l.side ≡ side
  pub state : l.state ≡ Both
  pub named : l.offered ≡ e.id

-- StartTransport on a lane of a side, in Both with another id, or in Ready
pub record StartsOther (l : Lane) (e : Event) (side : ℕ) : Type 0 where
  pub kind : e.kind ≡ StartTransport
  pub ours : l.side ≡ side
  pub place : (l.state ≡ Ready) ⊎ ((l.state ≡ Both) × (l.offered ≡ e.id → ⊥))
