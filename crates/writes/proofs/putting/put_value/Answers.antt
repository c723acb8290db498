-- The features are no attribute.
use Rattle.std.proofs.Common.{refl}
use Rattle.printing.proofs.PieceLaws.{none_put}
use Rattle.writes.proofs.putting.put_value.Goals as goal

-- The features are no attribute.
pub returns-in-Features : goal.returns-in-Features
returns-in-Features c = none_put c.args.out.now c.args.at (rw c.in-Features.is refl)
