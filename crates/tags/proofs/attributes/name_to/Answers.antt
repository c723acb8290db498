-- The byte at i decides.
use mathlib.Core.Path.{refl, sym, ◌∙◌}
use mathlib.Core.Logic.{inl, inr}
use Rattle.tags.proofs.attributes.name_to.Goals as goal

-- The byte at i decides.
pub returns-then-is_name_byte : goal.returns-then-is_name_byte
returns-then-is_name_byte c = inr (refl, sym c.is_name_byte.ensures ∙ c.if-is_name_byte.true)

pub returns : goal.returns
returns c = inl (refl, sym c.is_name_byte.ensures ∙ c.if-is_name_byte.false)
