-- Field by field.
use Rattle.structs.specs.Celled.{all_laid}
use Rattle.structs.specs.Transfers.{transfer_fields}
use Rattle.structs.proofs.LayLaws.{message_laid}
use Rattle.structs.proofs.transfers.of_transfer.Goals as goal

-- Field by field.
pub returns : goal.returns
unfolding all_laid transfer_fields
returns c = message_laid c.args.kind (transfer_fields c.args.v) (rw (c.put_id-cells.ensures, c.put-cells.ensures)) c.bytes_in.ensures
