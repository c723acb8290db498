-- Field by field.
use Rattle.lane.specs.Names.{BoardAvailable}
use Rattle.structs.specs.BoardPart.{part_fields}
use Rattle.structs.specs.Celled.{all_laid}
use Rattle.structs.specs.Boards.{board_fields}
use Rattle.structs.proofs.LayLaws.{message_laid}
use Rattle.structs.proofs.boards.of_board_available.Goals as goal

-- Field by field.
pub returns : goal.returns
unfolding all_laid board_fields part_fields
returns c =
    message_laid BoardAvailable (board_fields c.args.v)
    (rw (c.put-cells-3.ensures, c.put-cells-2.ensures, c.put_board-cells.ensures, c.put-cells.ensures, c.put_id-cells.ensures))
    c.bytes_in.ensures
