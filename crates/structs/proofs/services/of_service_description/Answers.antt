-- Field by field.
use mathlib.Core.Path.{refl}
use Rattle.lane.specs.Names.{ServiceDescription}
use Rattle.structs.specs.Celled.{all_laid}
use Rattle.structs.specs.Services.{service_fields}
use Rattle.structs.proofs.LayLaws.{message_laid}
use Rattle.structs.proofs.services.of_service_description.Goals as goal

-- Field by field.
pub returns : goal.returns
unfolding all_laid service_fields
returns c = message_laid ServiceDescription (service_fields c.args.v) (rw (c.put-cells-4.ensures, c.put-cells-3.ensures, c.put-cells-2.ensures, c.put-cells.ensures)) refl
