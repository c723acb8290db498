-- Of messages other than StartTransport, StopTransport and TransportFinished the chart does not ask which id they carry.
use mathlib.Core.Path.{◌≡◌, refl}
use mathlib.Core.Bool.{Bool}
use Prim.Native.Nat.{ℕ, ◌<◌}
use native.Mathlib.Omega.{arith}
use borrow.Author.Tests.{ne_eqb}
use Rattle.lane.specs.Chart.{next}
use Rattle.lane.specs.Record.{carries_own}
use Rattle.lane.specs.declared.Lane.{Lane}
use Rattle.lane.specs.declared.Event.{Event}
use Rattle.moves.specs.Asked.{Asked}

unasked : (k : ℕ) → (k ≡ 7 → ⊥) → (k ≡ 8 → ⊥) → (k ≡ 9 → ⊥) → (s u : ℕ) (received a b : Bool) → next s k u received a ≡ next s k u received b
unfolding next
unasked k f g h s u received a b = rw (ne_eqb k 7 f, ne_eqb k 8 g, ne_eqb k 9 h)

pub below : (l : Lane) (e : Event) {r : Bool} → e.kind < 7 → Asked l e r
below l e {r} h = record { says = λ s u received. unasked e.kind (λ z. omega arith) (λ z. omega arith) (λ z. omega arith) s u received r (carries_own l e) }

pub above : (l : Lane) (e : Event) {r : Bool} → 9 < e.kind → Asked l e r
above l e {r} h = record { says = λ s u received. unasked e.kind (λ z. omega arith) (λ z. omega arith) (λ z. omega arith) s u received r (carries_own l e) }

pub own : (l : Lane) (e : Event) {r : Bool} → r ≡ carries_own l e → Asked l e r
own l e q = record { says = λ s u received. rw q refl }
