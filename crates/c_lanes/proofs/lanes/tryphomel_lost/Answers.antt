-- What is lent is the lost lane, whose side is kept.
use Rattle.std.specs.Prelude.{◌≡◌, List, ℕ}
use Rattle.std.proofs.Common.{subst}
use Rattle.lane.specs.declared.Lane.{Lane}
use Rattle.c_promises.specs.Lanes.{Lent}
use Rattle.c_lanes.proofs.lanes.tryphomel_lost.Goals as goal

lent_on : {l k : Lane} {state : ℕ} {offered running : List ℕ} {length : ℕ} {forecast : List ℕ} → l ≡ k → Lent l l.side state offered running length forecast → Lent k k.side state offered running length forecast
lent_on {state = s} {offered = o} {running = r} {length = n} {forecast = f} e p = subst (λ (l : Lane). Lent l l.side s o r n f) e p

pub returns : goal.returns
returns c = lent_on c.lost-next.ensures c.lend.ensures
