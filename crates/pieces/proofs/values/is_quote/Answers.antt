-- Both classes are computed over all bytes.
use mathlib.Core.List.{[], ◌∷◌}
use mathlib.Core.Bool.{true, false}
use native.Mathlib.Omega.{arith}
use Rattle.scan.proofs.Classes.{keyed, ranged_but}
use Rattle.grammar.specs.Value.{is_quote}
use Rattle.pieces.proofs.values.is_quote.Goals as goal

-- Both classes are computed over all bytes.
pub returns-in-34 : goal.returns-in-34
unfolding is_quote
returns-in-34 c = keyed is_quote true (34 ∷ 39 ∷ []) tt c.args.b c.in-34.is

pub returns-in_default : goal.returns-in_default
unfolding is_quote
returns-in_default c = ranged_but is_quote false (34 ∷ 39 ∷ []) 0 256 tt c.args.b (omega arith) (omega arith) c.in_default.in_default-own.rest.1
