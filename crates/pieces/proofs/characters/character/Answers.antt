-- The ranges of the lead are the model's choices.
use mathlib.Core.Path.{sym, ◌∙◌}
use Rattle.pieces.proofs.CharacterLaws.{char_open, char_plain, char_not, char_two, char_three, char_four, char_gap, char_past}
use Rattle.pieces.proofs.characters.character.Goals as goal

-- The ranges of the lead are the model's choices.
pub returns-then-s-at : goal.returns-then-s-at
returns-then-s-at c = char_open _ _ _ c.if-s-at.true

pub returns-then-is_plain : goal.returns-then-is_plain
returns-then-is_plain c = char_plain _ _ _ c.if-s-at.false _ c.from.ensures c.in-0-to-127.if-b-lt128-own.true (sym c.is_plain.ensures ∙ c.if-is_plain.true)

pub returns-else-is_plain : goal.returns-else-is_plain
returns-else-is_plain c = char_not _ _ _ c.if-s-at.false c.in-0-to-127.if-b-lt128-own.true (sym c.is_plain.ensures ∙ c.if-is_plain.false)

pub returns-in-194-to-223 : goal.returns-in-194-to-223
returns-in-194-to-223 c = char_two _ _ _ c.if-s-at.false c.in-194-to-223.if-b-lt194-own.false c.in-194-to-223.if-b-lt224-own.true c.two.ensures

pub returns-in-224-to-239 : goal.returns-in-224-to-239
returns-in-224-to-239 c = char_three _ _ _ c.if-s-at.false c.in-224-to-239.if-b-lt224-own.false c.in-224-to-239.if-b-lt240-own.true c.three.ensures

pub returns-in-240-to-244 : goal.returns-in-240-to-244
returns-in-240-to-244 c = char_four _ _ _ c.if-s-at.false c.in-240-to-244.if-b-lt240-own.false c.in-240-to-244.if-b-lt245-own.true c.four.ensures

pub returns-in_default : goal.returns-in_default
returns-in_default c = char_gap _ _ _ c.if-s-at.false c.in_default.if-b-lt128-own.false c.in_default.if-b-lt194-own.true

pub returns-in_default-2 : goal.returns-in_default-2
returns-in_default-2 c = char_past _ _ _ c.if-s-at.false c.in_default.if-b-lt245-own.false
