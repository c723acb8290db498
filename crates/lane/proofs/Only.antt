-- No second result meets a public call's promise.
use Rattle.std.specs.Prelude.{◌≡◌, ℕ}
use Rattle.std.proofs.Common.{sym, ◌∙◌}
use Rattle.lane.specs.Names.{U, D}
use Rattle.lane.specs.Record.{no_forecast, fresh, blank, ended, received, sent}
use Rattle.lane.specs.declared.Event.{Event}
use Rattle.lane.specs.declared.Lane.{Lane}
use Rattle.lane.specs.declared.Moved.{Moved}
use Rattle.lane.specs.declared.ids.Forecast.{Forecast}

only : {A : Type 0} {x a b : A} → a ≡ x → b ≡ x → a ≡ b
only p q = p ∙ sym q

pub none_only : (a b : Forecast) → a ≡ no_forecast → b ≡ no_forecast → a ≡ b
none_only a b = only

pub upstream_only : (a b : Lane) → a ≡ fresh U → b ≡ fresh U → a ≡ b
upstream_only a b = only

pub downstream_only : (a b : Lane) → a ≡ fresh D → b ≡ fresh D → a ≡ b
downstream_only a b = only

pub lost_only : (l a b : Lane) → a ≡ blank l → b ≡ blank l → a ≡ b
lost_only l a b = only

pub ended_only : (l : Lane) (refusal : ℕ) (a b : Moved) → a ≡ ended l refusal → b ≡ ended l refusal → a ≡ b
ended_only l refusal a b = only

pub received_only : (l : Lane) (e : Event) (a b : Moved) → a ≡ received l e → b ≡ received l e → a ≡ b
received_only l e a b = only

pub sent_only : (l : Lane) (e : Event) (a b : Moved) → a ≡ sent l e → b ≡ sent l e → a ≡ b
sent_only l e a b = only
