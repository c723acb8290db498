-- A letter passes; of what is none, the class is computed range by range.
use mathlib.Core.Path.{sym, ◌∙◌}
use mathlib.Core.Bool.{true, false}
use mathlib.Core.List.{[], ◌∷◌}
use native.Mathlib.Omega.{arith}
use Rattle.grammar.specs.Bytes.{within, digit}
use Rattle.scan.proofs.Classes.{ranged, ranged_but, keyed, sign, letter_name, sign_name}
use Rattle.scan.proofs.is_name_byte.Goals as goal

-- A letter passes; of what is none, the class is computed range by range.
pub returns-then-is_ascii_alphabetic : goal.returns-then-is_ascii_alphabetic
returns-then-is_ascii_alphabetic c = c.if-is_ascii_alphabetic.true ∙ letter_name _ (sym c.is_ascii_alphabetic.ensures.value ∙ c.if-is_ascii_alphabetic.true)

pub returns-in_default : goal.returns-in_default
unfolding sign digit within
returns-in_default c = sign_name _ _ (sym c.is_ascii_alphabetic.ensures.value ∙ c.if-is_ascii_alphabetic.false) (ranged sign false 0 45 tt c.args.b (omega arith) (omega arith))

pub returns-in_default-2 : goal.returns-in_default-2
unfolding sign digit within
returns-in_default-2 c = sign_name _ _ (sym c.is_ascii_alphabetic.ensures.value ∙ c.if-is_ascii_alphabetic.false) (ranged sign false 47 1 tt c.args.b (omega arith) (omega arith))

pub returns-in_default-3 : goal.returns-in_default-3
unfolding sign digit within
returns-in_default-3 c = sign_name _ _ (sym c.is_ascii_alphabetic.ensures.value ∙ c.if-is_ascii_alphabetic.false) (ranged_but sign false (95 ∷ []) 59 197 tt c.args.b (omega arith) (omega arith) c.in_default.in_default-own.rest.1)

pub returns-in-95 : goal.returns-in-95
unfolding sign digit within
returns-in-95 c = sign_name _ _ (sym c.is_ascii_alphabetic.ensures.value ∙ c.if-is_ascii_alphabetic.false) (keyed sign true (95 ∷ []) tt c.args.b c.in-95.in-95-own.keys1)

pub returns-in-95-2 : goal.returns-in-95-2
unfolding sign digit within
returns-in-95-2 c = sign_name _ _ (sym c.is_ascii_alphabetic.ensures.value ∙ c.if-is_ascii_alphabetic.false) (ranged sign true 45 2 tt c.args.b (omega arith) (omega arith))

pub returns-in-95-3 : goal.returns-in-95-3
unfolding sign digit within
returns-in-95-3 c = sign_name _ _ (sym c.is_ascii_alphabetic.ensures.value ∙ c.if-is_ascii_alphabetic.false) (ranged sign true 48 11 tt c.args.b (omega arith) (omega arith))
