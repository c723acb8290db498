use mathlib.Core.List.{[], ◌∷◌}
use mathlib.Core.Bool.{true, false}
use native.Mathlib.Omega.{arith}
use Rattle.grammar.specs.Bytes.{within}
use Rattle.grammar.specs.Glue.{is_glue}
use Rattle.scan.proofs.Classes.{ranged, keyed, ranged_but}
use Rattle.scan.proofs.is_glue.Goals as goal

pub returns-then-b-gt32 : goal.returns-then-b-gt32
unfolding is_glue within
returns-then-b-gt32 c = ranged is_glue false 33 223 tt c.args.b (omega arith) (omega arith)

pub returns-in_default : goal.returns-in_default
unfolding is_glue within
returns-in_default c = ranged is_glue false 0 9 tt c.args.b (omega arith) (omega arith)

pub returns-in_default-2 : goal.returns-in_default-2
unfolding is_glue within
returns-in_default-2 c = ranged_but is_glue false (13 ∷ 32 ∷ []) 11 245 tt c.args.b (omega arith) (omega arith) c.in_default.in_default-own.rest.1

pub returns-in-32 : goal.returns-in-32
unfolding is_glue within
returns-in-32 c = keyed is_glue true (13 ∷ 32 ∷ []) tt c.args.b c.in-32.is

pub returns-in-32-2 : goal.returns-in-32-2
unfolding is_glue within
returns-in-32-2 c = ranged is_glue true 9 2 tt c.args.b (omega arith) (omega arith)
