-- Field by field.
use mathlib.Core.Path.{sym}
use Rattle.structs.specs.BoardPart.{part_fields}
use Rattle.structs.proofs.LayLaws.{laid_from_lem}
use Rattle.structs.proofs.board_part.put_board.Goals as goal

-- Field by field.
pub returns : goal.returns
unfolding part_fields
returns c = rw (c.put.ensures, c.put-cells-12.ensures, c.put-cells-11.ensures, c.put-cells-10.ensures, c.put-cells-9.ensures, c.put-cells-8.ensures, c.put-cells-7.ensures, c.put-cells-6.ensures, c.put-cells-5.ensures, c.put-cells-4.ensures, c.put-cells-3.ensures, c.put-cells-2.ensures, c.put-cells.ensures) (sym (laid_from_lem c.args.i (part_fields c.args.b) c.args.cells))
