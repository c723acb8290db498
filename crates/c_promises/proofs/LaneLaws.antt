-- The lane records that C lends: what they are, and that no second one satisfies a promise.
use mathlib.Core.Path.{◌≡◌, sym, ap, ◌∙◌}
use Prim.Native.Nat.{ℕ}
use Rattle.grammar.specs.Bytes.{Bytes}
use Rattle.lane.specs.Record.{fresh}
use Rattle.lane.specs.declared.Lane.{Lane}
use Rattle.c_promises.specs.Lanes.{lane_of, Lent}

-- a lane of that side, in its parts
pub in_parts : {side : ℕ} {l : Lane} → l.side ≡ side → Lent l side l.state l.offered l.running l.forecast.length l.forecast.bytes
in_parts {side} {l} e = record { is = ap (λ (s : ℕ). lane_of s l.state l.offered l.running l.forecast.length l.forecast.bytes) (sym e) }

pub lost_parts : {side : ℕ} {l : Lane} → l ≡ fresh side → Lent (fresh side) side l.state l.offered l.running l.forecast.length l.forecast.bytes
lost_parts {side} e = record { is = ap (λ (l : Lane). lane_of side l.state l.offered l.running l.forecast.length l.forecast.bytes) e }

-- all parts are the same
pub record Same (a b a' b' : ℕ) (o r o' r' : Bytes) (n n' : ℕ) (f f' : Bytes) : Type 0 where
  pub side : a ≡ a'
  pub state : b ≡ b'
  pub offered : o ≡ o'
  pub running : r ≡ r'
  pub length : n ≡ n'
  pub forecast : f ≡ f'

-- no second parts satisfy the promise of `tryphomel_upstream`, `tryphomel_downstream` or `tryphomel_lost`
pub lent_only : {l : Lane} {a b a' b' : ℕ} {o r o' r' : Bytes} {n n' : ℕ} {f f' : Bytes} → Lent l a b o r n f → Lent l a' b' o' r' n' f' → Same a b a' b' o r o' r' n n' f f'
lent_only {l} {a} {b} {a'} {b'} {o} {r} {o'} {r'} {n} {n'} {f} {f'} x y =
    let q : lane_of a b o r n f ≡ lane_of a' b' o' r' n' f' = x.is ∙ sym y.is in
    record { side = ap (λ (l : Lane). l.side) q; state = ap (λ (l : Lane). l.state) q; offered = ap (λ (l : Lane). l.offered) q; running = ap (λ (l : Lane). l.running) q; length = ap (λ (l : Lane). l.forecast.length) q; forecast = ap (λ (l : Lane). l.forecast.bytes) q }
