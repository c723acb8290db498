-- Low ranges are computed, high ones go by the views of a character.
use mathlib.Core.Path.{sym}
use mathlib.Core.List.{[], ◌∷◌}
use mathlib.Core.Bool.{true, false}
use native.Mathlib.Omega.{arith}
use Rattle.scan.proofs.Classes.{ranged, keyed, ranged_but}
use Rattle.model.proofs.Characters.{char_low, char_mid, char_high}
use Rattle.grammar.specs.Bytes.{within}
use Rattle.grammar.specs.Character.{is_char}
use Rattle.pieces.proofs.NumeralLaws.{char_between, char_last, char_beyond}
use Rattle.pieces.proofs.references.is_char.Goals as goal

-- Low ranges are computed, high ones go by the views of a character.
pub returns-in_default : goal.returns-in_default
unfolding is_char within
returns-in_default c = ranged is_char false 0 9 tt c.args.c (omega arith) (omega arith)

pub returns-in_default-2 : goal.returns-in_default-2
unfolding is_char within
returns-in_default-2 c = ranged_but is_char false (13 ∷ []) 11 21 tt c.args.c (omega arith) (omega arith) c.in_default.in_default-own.rest.1

pub returns-in_default-3 : goal.returns-in_default-3
returns-in_default-3 c = char_between c.args.c (omega arith) (omega arith)

pub returns-in_default-4 : goal.returns-in_default-4
returns-in_default-4 c = char_last c.args.c (omega arith) (omega arith)

pub returns-in_default-5 : goal.returns-in_default-5
returns-in_default-5 c = char_beyond c.args.c (omega arith)

pub returns-in-9-to-10 : goal.returns-in-9-to-10
unfolding is_char within
returns-in-9-to-10 c = keyed is_char true (13 ∷ []) tt c.args.c c.in-9-to-10.in-9-to-10-own.keys1

pub returns-in-9-to-10-2 : goal.returns-in-9-to-10-2
unfolding is_char within
returns-in-9-to-10-2 c = ranged is_char true 9 2 tt c.args.c (omega arith) (omega arith)

pub returns-in-9-to-10-3 : goal.returns-in-9-to-10-3
returns-in-9-to-10-3 c = sym (char_low c.args.c (omega arith) (omega arith))

pub returns-in-9-to-10-4 : goal.returns-in-9-to-10-4
returns-in-9-to-10-4 c = sym (char_mid c.args.c (omega arith) (omega arith))

pub returns-in-9-to-10-5 : goal.returns-in-9-to-10-5
returns-in-9-to-10-5 c = sym (char_high c.args.c (omega arith) (omega arith))
