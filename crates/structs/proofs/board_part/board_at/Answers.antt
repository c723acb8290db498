-- Field by field.
use Rattle.structs.specs.BoardPart.{part_at}
use Rattle.structs.proofs.board_part.board_at.Goals as goal

-- Field by field.
pub returns : goal.returns
unfolding part_at
returns c = rw (c.at.ensures, c.at-2.ensures, c.at-3.ensures, c.at-4.ensures, c.at-5.ensures, c.at-6.ensures, c.at-7.ensures, c.at-8.ensures, c.at-9.ensures, c.at-10.ensures, c.at-11.ensures, c.at-12.ensures, c.at-13.ensures)
