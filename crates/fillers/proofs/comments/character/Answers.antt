-- `<` and `&` stand for themselves in a comment, all else as in a value.
use mathlib.Core.Logic.{inl, inr}
use Rattle.fillers.proofs.CommentLaws.{char_open, char_own, char_other}
use Rattle.fillers.proofs.comments.character.Goals as goal

-- `<` and `&` stand for themselves in a comment, all else as in a value.
pub returns-then-s-at : goal.returns-then-s-at
returns-then-s-at c = char_open _ _ c.if-s-at.true

pub returns-in-60 : goal.returns-in-60
returns-in-60 c = char_own _ _ c.if-s-at.false _ c.from.ensures c.in-60.is

pub returns-in_default : goal.returns-in_default
returns-in_default c = char_other _ _ c.if-s-at.false (λ e. c.in_default.in_default-own.rest.1 (inr e)) (λ e. c.in_default.in_default-own.rest.1 (inl e)) c.character.ensures
