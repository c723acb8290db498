-- Field by field.
use mathlib.Core.Path.{◌≡◌, refl}
use mathlib.Core.List.{[]}
use Rattle.grammar.specs.Bytes.{Bytes}
use Rattle.lane.specs.Names.{ServiceDescription}
use Rattle.table.specs.Table.{table, rows_of}
use Rattle.message.specs.Cells.{fields_from, field_by, words_by, whole_by, features_by}
use Rattle.structs.specs.Celled.{zeros}
use Rattle.structs.specs.Services.{service_from}
use Rattle.structs.proofs.KindLaws.{made_of}
use Rattle.structs.proofs.services.service_description.Goals as goal

-- Field by field.
-- of zeros as of no fields
none : (id : Bytes) → service_from (fields_from (rows_of ServiceDescription) 0 zeros id) ≡ service_from []
unfolding table service_from fields_from field_by words_by whole_by features_by
none id = refl

pub returns : goal.returns
unfolding table service_from fields_from field_by
returns c = rw (c.at.ensures, c.at-2.ensures, c.at-3.ensures, c.at-4.ensures) (made_of service_from ServiceDescription c.args.m none c.cells_if-cells.ensures)
