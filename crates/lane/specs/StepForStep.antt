-- T2.L2: in any run of calls, each record is what `next` makes of the one before.
use Rattle.std.specs.Prelude.{◌≡◌, List, [], ◌∷◌, Bool, ℕ, Option, Some, None}
use Rattle.lane.specs.Chart.{Received, Sent}
use Rattle.lane.specs.Record.{blank, accepted, ended, step_in, step_out, received, sent}
use Rattle.lane.specs.declared.Event.{Event}
use Rattle.lane.specs.declared.Lane.{Lane}

-- What happens to a lane: a message is received or sent, a refusal ends the connection, the connection is lost.
pub data Happening : Type 0 where
  gets : Event → Happening
  sends : Event → Happening
  ends : ℕ → Happening
  loses : Happening

-- The lane that the call for it promises.
abbrev pub after : Lane → Happening → Lane
after l (gets e) = (received l e).lane
after l (sends e) = (sent l e).lane
after l (ends refusal) = (ended l refusal).lane
after l loses = blank l

abbrev pub Promised : Lane → Happening → Lane → Type 0
Promised l h l' = l' ≡ after l h

-- What the chart's step makes of it: the next state with its ids, or else a record that is named.
pub record Follows (received : Bool) (l : Lane) (e : Event) (step : Option ℕ) (l' otherwise : Lane) : Type 0 where
  pub moves : (n : ℕ) → step ≡ Some n → l' ≡ (accepted received n l e).lane
  pub refuses : step ≡ None → l' ≡ otherwise

abbrev pub Charted : Lane → Happening → Lane → Type 0
Charted l (gets e) l' = Follows Received l e (step_in l e) l' (blank l)
Charted l (sends e) l' = Follows Sent l e (step_out l e) l' l
Charted l (ends refusal) l' = l' ≡ blank l
Charted l loses l' = l' ≡ blank l

-- A run from a lane: what happens meets the lane that the one before left.
abbrev pub Run : (Lane → Happening → Lane → Type 0) → Lane → List Happening → List Lane → Type 0
Run Meets l [] [] = Unit {0}
Run Meets l [] (l' ∷ ls) = ⊥
Run Meets l (h ∷ hs) [] = ⊥
Run Meets l (h ∷ hs) (l' ∷ ls) = Meets l h l' × Run Meets l' hs ls

-- Every list of happenings has a run, and a run has one outcome.
abbrev pub records : Lane → List Happening → List Lane
records l [] = []
records l (h ∷ hs) = after l h ∷ records (after l h) hs

-- the lane that a run leaves
abbrev pub final : Lane → List Happening → Lane
final l [] = l
final l (h ∷ hs) = final (after l h) hs
