-- Field by field.
use mathlib.Core.Path.{refl}
use Rattle.lane.specs.Names.{CheckAlive}
use Rattle.structs.specs.Celled.{all_laid}
use Rattle.structs.specs.Alive.{alive_fields}
use Rattle.structs.proofs.LayLaws.{message_laid}
use Rattle.structs.proofs.alive.of_check_alive.Goals as goal

-- Field by field.
pub returns : goal.returns
unfolding all_laid alive_fields
returns c = message_laid CheckAlive (alive_fields c.args.v) (rw (c.put-cells-2.ensures, c.put-cells.ensures)) refl
