-- Field by field.
use Rattle.lane.specs.Names.{StartTransport}
use Rattle.structs.specs.Celled.{all_laid}
use Rattle.structs.specs.Starts.{start_fields}
use Rattle.structs.proofs.LayLaws.{message_laid}
use Rattle.structs.proofs.starts.of_start_transport.Goals as goal

-- Field by field.
pub returns : goal.returns
unfolding all_laid start_fields
returns c = message_laid StartTransport (start_fields c.args.v) (rw (c.put-cells.ensures, c.put_id-cells.ensures)) c.bytes_in.ensures
