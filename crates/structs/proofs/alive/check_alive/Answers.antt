-- Field by field.
use mathlib.Core.Path.{◌≡◌, refl}
use mathlib.Core.List.{[]}
use Rattle.grammar.specs.Bytes.{Bytes}
use Rattle.lane.specs.Names.{CheckAlive}
use Rattle.table.specs.Table.{table, rows_of}
use Rattle.message.specs.Cells.{fields_from, field_by, words_by, whole_by}
use Rattle.structs.specs.Celled.{zeros}
use Rattle.structs.specs.Alive.{alive_from}
use Rattle.structs.proofs.KindLaws.{made_of}
use Rattle.structs.proofs.alive.check_alive.Goals as goal

-- Field by field.
-- of zeros as of no fields
none : (id : Bytes) → alive_from (fields_from (rows_of CheckAlive) 0 zeros id) ≡ alive_from []
unfolding table alive_from fields_from field_by words_by whole_by
none id = refl

pub returns : goal.returns
unfolding table alive_from fields_from field_by
returns c = rw (c.at.ensures, c.at-2.ensures) (made_of alive_from CheckAlive c.args.m none c.cells_if-cells.ensures)
