-- By the form.
use mathlib.Core.Path.{refl}
use Rattle.decides.proofs.DecideLaws.{child_stands, attribute_stands}
use Rattle.decides.proofs.value_of.Goals as goal

pub returns-then-is_child : goal.returns-then-is_child
returns-then-is_child c = child_stands c.args.row.now c.is_child.ensures c.if-is_child.true refl

pub returns : goal.returns
returns c = attribute_stands c.args.row.now c.is_child.ensures c.if-is_child.false c.find.ensures
