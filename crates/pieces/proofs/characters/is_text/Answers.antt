-- Below the space the class is computed against glue; above it, over the whole range but for `<` and `&`.
use mathlib.Core.Path.{◌∙◌}
use mathlib.Core.List.{[], ◌∷◌}
use mathlib.Core.Bool.{Bool, true, false}
use Prim.Native.Nat.{ℕ}
use native.Mathlib.Omega.{arith}
use Rattle.grammar.specs.Bytes.{within}
use Rattle.grammar.specs.Character.{is_char}
use Rattle.grammar.specs.Value.{banned}
use Rattle.model.specs.Characters.{plain_byte}
use Rattle.scan.proofs.Classes.{keyed, ranged, ranged_but}
use Rattle.pieces.proofs.CharacterLaws.{text_low}
use Rattle.pieces.proofs.characters.is_text.Goals as goal

-- Below the space the class is computed against glue; above it, over the whole range but for `<` and `&`.
abbrev t : ℕ → Bool
t b = plain_byte (banned 60) b

pub returns-then-b-lt32 : goal.returns-then-b-lt32
returns-then-b-lt32 c = c.is_glue.ensures ∙ text_low _ (omega arith)

pub returns-in-60 : goal.returns-in-60
unfolding plain_byte banned is_char within
returns-in-60 c = keyed t false (38 ∷ 60 ∷ []) tt c.args.b c.in-60.in-60-own.keys1

pub returns-in-60-2 : goal.returns-in-60-2
unfolding plain_byte banned is_char within
returns-in-60-2 c = ranged t false 128 128 tt c.args.b (omega arith) (omega arith)

pub returns-in_default : goal.returns-in_default
unfolding plain_byte banned is_char within
returns-in_default c = ranged_but t true (38 ∷ 60 ∷ []) 32 96 tt c.args.b (omega arith) (omega arith) c.in_default.in_default-own.rest.1
