-- One of the four bytes: antt computes the class on them and between them.
use native.Mathlib.Omega.{arith}
use mathlib.Core.Bool.{true, false}
use mathlib.Core.List.{[], ◌∷◌}
use Rattle.number.proofs.Classes.{ranged, ranged_but, keyed}
use Rattle.value.specs.Text.{altered}
use Rattle.decodes.proofs.tests.is_altered.Goals as goal

pub returns-in-38 : goal.returns-in-38
unfolding altered
returns-in-38 c = keyed altered true (13 ∷ 38 ∷ []) tt c.args.b c.in-38.is

pub returns-in-38-2 : goal.returns-in-38-2
unfolding altered
returns-in-38-2 c = ranged altered true 9 2 tt c.args.b (omega arith) (omega arith)

pub returns-in_default : goal.returns-in_default
unfolding altered
returns-in_default c = ranged altered false 0 9 tt c.args.b (omega arith) (omega arith)

pub returns-in_default-2 : goal.returns-in_default-2
unfolding altered
returns-in_default-2 c = ranged_but altered false (13 ∷ 38 ∷ []) 11 245 tt c.args.b (omega arith) (omega arith) c.in_default.in_default-own.rest.1
