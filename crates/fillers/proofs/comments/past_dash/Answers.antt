-- Behind a `-`, or where it is none.
use mathlib.Core.Path.{refl}
use mathlib.Core.Logic.{inl, inr}
use Rattle.fillers.proofs.comments.past_dash.Goals as goal

-- Behind a `-`, or where it is none.
pub returns-then-s-i-eq45 : goal.returns-then-s-i-eq45
returns-then-s-i-eq45 c = record { says = inl (c.if-s-i-eq45.true, refl) }

pub returns-else-s-i-eq45 : goal.returns-else-s-i-eq45
returns-else-s-i-eq45 c = record { says = inr (c.if-s-i-eq45.false, refl) }
