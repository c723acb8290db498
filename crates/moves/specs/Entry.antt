-- What the code's table answers: for the proofs of private functions only.
use Rattle.std.specs.Prelude.{◌≡◌, Bool, true, false, ℕ, eqb, Option, Some, None}
use Rattle.lane.specs.Chart.{pick, both, either, by_rows, chart}
use Rattle.moves.specs.declared.chart.Entry.{Entry}

-- an entry for a message that its side may send, and for one that is received only
abbrev pub sent_from : ℕ → ℕ → Option Entry
sent_from u n = Some (record { sender = u; next = n; may_be_sent = true })

abbrev pub received_from : ℕ → ℕ → Option Entry
received_from u n = Some (record { sender = u; next = n; may_be_sent = false })

-- what the table's answer lets a message of a sender do
abbrev pub lets : Option Entry → ℕ → Bool → Option ℕ
lets None u received = None
lets (Some e) u received = pick (both (either e.may_be_sent received) (eqb u e.sender)) (Some e.next) None

-- the answer lets happen what the chart's rows for the state and the kind say
pub record IsEntry (s k : ℕ) (e : Option Entry) : Type 0 where
  pub says : (u : ℕ) (received : Bool) → lets e u received ≡ by_rows chart s k u received
