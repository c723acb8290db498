-- Field by field.
use mathlib.Core.Path.{◌≡◌, refl}
use mathlib.Core.List.{[]}
use Rattle.grammar.specs.Bytes.{Bytes}
use Rattle.lane.specs.Names.{Notification}
use Rattle.table.specs.Table.{table, rows_of}
use Rattle.message.specs.Cells.{fields_from, field_by, words_by, whole_by}
use Rattle.structs.specs.Celled.{zeros}
use Rattle.structs.specs.Notices.{notice_from}
use Rattle.structs.proofs.KindLaws.{made_of}
use Rattle.structs.proofs.notices.notification_in.Goals as goal

-- Field by field.
-- of zeros as of no fields
none : (id : Bytes) → notice_from (fields_from (rows_of Notification) 0 zeros id) ≡ notice_from []
unfolding table notice_from fields_from field_by words_by whole_by
none id = refl

pub returns : goal.returns
unfolding table notice_from fields_from field_by
returns c = rw (c.at.ensures, c.at-2.ensures, c.at-3.ensures) (made_of notice_from Notification c.args.m none c.cells_if-cells.ensures)
