-- A character is alive; else the two numbers of the base decide.
use mathlib.Core.Path.{sym, ◌∙◌}
use Rattle.pieces.proofs.NumeralLaws.{alive_now, alive_none, alive_hex, alive_dec}
use Rattle.pieces.proofs.references.is_alive.Goals as goal

-- A character is alive; else the two numbers of the base decide.
pub returns-then-is_char : goal.returns-then-is_char
returns-then-is_char c = alive_now c.args.hex c.args.left _ (sym c.is_char.ensures ∙ c.if-is_char.true)

pub returns-then-left-eq0 : goal.returns-then-left-eq0
returns-then-left-eq0 c = alive_none c.args.hex c.args.left _ (sym c.is_char.ensures ∙ c.if-is_char.false) c.if-left-eq0.true

pub returns-then-hex : goal.returns-then-hex
returns-then-hex c = alive_hex _ _ _ _ c.if-hex.true (sym c.is_char.ensures ∙ c.if-is_char.false) c.if-left-eq0.false c.below.ensures

pub returns : goal.returns
returns c = alive_dec _ _ _ _ c.if-hex.false (sym c.is_char.ensures ∙ c.if-is_char.false) c.if-left-eq0.false c.below-2.ensures
