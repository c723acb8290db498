-- The digits end at a point, and those behind it at the end.
use mathlib.Core.Path.{refl}
use native.Mathlib.Omega.{arith}
use Rattle.shapes.proofs.VersionLaws.{no_more, no_point, grouped}
use Rattle.shapes.proofs.version.is_version.Goals as goal

pub returns-in_default : goal.returns-in_default
returns-in_default c = no_more c.args.v.now c.digits-before.ensures.count _ refl c.in_default.len_below

pub returns-in_default-2 : goal.returns-in_default-2
returns-in_default-2 c = no_point c.args.v.now c.digits-before.ensures.count _ refl c.in_default.len_at_least (λ e. omega arith)

pub returns : goal.returns
returns c = grouped c.args.v.now c.digits-before.ensures.count _ refl _ refl c.in-46.len_at_least (omega arith) c.digits-behind.ensures.count c.is_group.ensures c.is_group-2.ensures
