-- The outline, the kind, and then what they found.
use mathlib.Core.Path.{refl}
use Rattle.reads.proofs.OutlineLaws.{outlined_in}
use Rattle.reads.proofs.checking.check_into.Goals as goal

pub sort_outlined-sort-requires : goal.sort_outlined-sort-requires
sort_outlined-sort-requires c = outlined_in _ c.outline-outline.ensures

pub check_outlined-requires : goal.check_outlined-requires
check_outlined-requires c = (c.requires, record { before = _; whole = refl; outlined = c.outline-outline.ensures }, c.sort_outlined-sort.ensures)

pub returns : goal.returns
returns c = c.check_outlined.ensures
