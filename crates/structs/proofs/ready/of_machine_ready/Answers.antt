-- Field by field.
use mathlib.Core.Path.{refl}
use Rattle.lane.specs.Names.{MachineReady}
use Rattle.structs.specs.Celled.{all_laid}
use Rattle.structs.specs.Ready.{ready_fields}
use Rattle.structs.proofs.LayLaws.{message_laid}
use Rattle.structs.proofs.ready.of_machine_ready.Goals as goal

-- Field by field.
pub returns : goal.returns
unfolding all_laid ready_fields
returns c = message_laid MachineReady (ready_fields c.args.v) (rw (c.put-cells-2.ensures, c.put-cells.ensures)) refl
