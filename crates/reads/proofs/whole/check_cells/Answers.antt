-- The outline, the kind, and then what they found.
use mathlib.Core.Path.{refl}
use Rattle.reads.proofs.OutlineLaws.{outlined_in}
use Rattle.reads.proofs.whole.check_cells.Goals as goal

pub sort_outlined-sort-requires : goal.sort_outlined-sort-requires
sort_outlined-sort-requires c = outlined_in _ c.outline-outline.ensures

pub tell-requires : goal.tell-requires
tell-requires c = (c.requires, record { before = _; whole = refl; outlined = c.outline-outline.ensures }, c.sort_outlined-sort.ensures)

pub returns : goal.returns
returns c = c.tell.ensures
