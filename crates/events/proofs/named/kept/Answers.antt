-- The bytes are put down over zeros.
use native.Mathlib.Omega.{arith}
use Rattle.events.proofs.NameLaws.{kept_all, kept_none}
use Rattle.events.proofs.named.kept.Goals as goal

pub returns-then-n-gt-LONGEST : goal.returns-then-n-gt-LONGEST
returns-then-n-gt-LONGEST c = kept_none c.args.v.now (omega arith) c.none.ensures

pub returns : goal.returns
returns c = kept_all c.args.v.now c.copy_from_slice.ensures.after (omega arith)
