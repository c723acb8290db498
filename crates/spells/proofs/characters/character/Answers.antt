-- Beyond ASCII no character is banned from a value, so the reader of values decides; below, the byte is the character.
use mathlib.Core.Path.{sym, ◌∙◌}
use native.Mathlib.Omega.{arith}
use Rattle.spells.proofs.TextLaws.{beyond_ascii, in_ascii, not_ascii}
use Rattle.spells.proofs.characters.character.Goals as goal

-- Beyond ASCII no character is banned from a value, so the reader of values decides; below, the byte is the character.
pub returns-then-b-gt127 : goal.returns-then-b-gt127
returns-then-b-gt127 c = beyond_ascii _ _ c.requires c.if-b-gt127.true c.character.ensures

pub returns-then-is_char : goal.returns-then-is_char
returns-then-is_char c = in_ascii _ _ c.requires (omega (arith, c.if-b-gt127.false)) (sym c.is_char.ensures ∙ c.if-is_char.true)

pub returns : goal.returns
returns c = not_ascii _ _ c.requires (omega (arith, c.if-b-gt127.false)) (sym c.is_char.ensures ∙ c.if-is_char.false)
