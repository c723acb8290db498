-- Field by field.
use mathlib.Core.Path.{refl}
use Rattle.lane.specs.Names.{Notification}
use Rattle.structs.specs.Celled.{all_laid}
use Rattle.structs.specs.Notices.{notice_fields}
use Rattle.structs.proofs.LayLaws.{message_laid}
use Rattle.structs.proofs.notices.of_notification.Goals as goal

-- Field by field.
pub returns : goal.returns
unfolding all_laid notice_fields
returns c = message_laid Notification (notice_fields c.args.v) (rw (c.put-cells-3.ensures, c.put-cells-2.ensures, c.put-cells.ensures)) refl
