-- The quote in use is no plain byte; any other byte goes by its class.
use mathlib.Core.Path.{◌∙◌}
use borrow.Author.Tests.{eq-eqb}
use Rattle.pieces.proofs.CharacterLaws.{plain_quote, plain_other}
use Rattle.pieces.proofs.characters.is_plain.Goals as goal

pub returns-else-quote-b : goal.returns-else-quote-b
returns-else-quote-b c = rw (eq-eqb _ _ c.if-quote-b.false) (plain_quote _ _ c.if-quote-b.false)

pub returns-then-quote-b : goal.returns-then-quote-b
returns-then-quote-b c = c.is_text.ensures ∙ plain_other _ _ c.if-quote-b.true
