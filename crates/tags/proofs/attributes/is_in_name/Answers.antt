-- A small letter may stand in a name.
use mathlib.Core.Path.{sym}
use Rattle.tags.proofs.NameLaws.{small_test}
use Rattle.tags.proofs.attributes.is_in_name.Goals as goal

-- A small letter may stand in a name.
pub returns-then-b : goal.returns-then-b
returns-then-b c = sym (small_test _ c.if-b.true)
