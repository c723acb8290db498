-- `is_blank` is the class of blanks: each return is a range or a list of bytes, and antt computes the class on it.
use native.Mathlib.Omega.{arith}
use mathlib.Core.Bool.{true, false}
use mathlib.Core.List.{[], ◌∷◌}
use Rattle.number.specs.Bytes.{blank}
use Rattle.number.proofs.Classes.{ranged, ranged_but, keyed}
use Rattle.numerals.proofs.byte.is_blank.Goals as goal

-- `is_blank` is the class of blanks: each return is a range or a list of bytes, and antt computes the class on it.
pub returns-in_default : goal.returns-in_default
unfolding blank
returns-in_default c = ranged blank false 0 9 tt c.args.b (omega arith) (omega arith)

pub returns-in_default-2 : goal.returns-in_default-2
unfolding blank
returns-in_default-2 c = ranged_but blank false (13 ∷ 32 ∷ []) 11 245 tt c.args.b (omega arith) (omega arith) c.in_default.in_default-own.rest.1

pub returns-in-9 : goal.returns-in-9
unfolding blank
returns-in-9 c = keyed blank true (13 ∷ 32 ∷ []) tt c.args.b c.in-9.is

pub returns-in-9-2 : goal.returns-in-9-2
unfolding blank
returns-in-9-2 c = ranged blank true 9 2 tt c.args.b (omega arith) (omega arith)
