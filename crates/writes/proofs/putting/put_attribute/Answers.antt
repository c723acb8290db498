-- A space, the name, `=` and a quote, the value, a quote.
use Rattle.std.proofs.Common.{sym, ◌∙◌}
use Rattle.printing.proofs.PieceLaws.{has_room, first_fits, rest_fits, last_put, and_put, all_put, none_put}
use Rattle.writes.proofs.PutLaws.{row_absent, row_child, row_is}
use Rattle.writes.proofs.putting.put_attribute.Goals.{then-cell-eq0-via-then-cell-eq0, then-cell-eq0-via-else-cell-eq0+then-is_child}
use Rattle.writes.proofs.putting.put_attribute.Goals as goal

-- A space, the name, `=` and a quote, the value, a quote.
pub returns-then-cell-eq0 : goal.returns-then-cell-eq0
returns-then-cell-eq0 c = none_put c.args.out.now c.args.at (elim c.then-cell-eq0.branch [ then-cell-eq0-via-then-cell-eq0 w ↦ row_absent c.args.row.now c.args.cell.there c.args.cell.a c.args.cell.b c.args.values.now.id.now c.args.values.now.texts.now w.if-cell-eq0.true | then-cell-eq0-via-else-cell-eq0+then-is_child w ↦ row_child c.args.row.now c.args.cell.there c.args.cell.a c.args.cell.b c.args.values.now.id.now c.args.values.now.texts.now (sym w.is_child.ensures ∙ w.if-is_child.true) ])

pub put_byte-a-requires : goal.put_byte-a-requires
put_byte-a-requires c = first_fits (has_room (row_is c.args.row.now c.args.cell.there c.args.cell.a c.args.cell.b c.args.values.now.id.now c.args.values.now.texts.now c.if-cell-eq0.false (sym c.is_child.ensures ∙ c.if-is_child.false)) c.requires)

pub put-b-requires : goal.put-b-requires
put-b-requires c = first_fits (rest_fits (has_room (row_is c.args.row.now c.args.cell.there c.args.cell.a c.args.cell.b c.args.values.now.id.now c.args.values.now.texts.now c.if-cell-eq0.false (sym c.is_child.ensures ∙ c.if-is_child.false)) c.requires) c.put_byte-a.ensures.next)

pub put_given-c-requires : goal.put_given-c-requires
put_given-c-requires c = first_fits (rest_fits (rest_fits (has_room (row_is c.args.row.now c.args.cell.there c.args.cell.a c.args.cell.b c.args.values.now.id.now c.args.values.now.texts.now c.if-cell-eq0.false (sym c.is_child.ensures ∙ c.if-is_child.false)) c.requires) c.put_byte-a.ensures.next) c.put-b.ensures.next)

pub put_value-d-requires : goal.put_value-d-requires
put_value-d-requires c = first_fits (rest_fits (rest_fits (rest_fits (has_room (row_is c.args.row.now c.args.cell.there c.args.cell.a c.args.cell.b c.args.values.now.id.now c.args.values.now.texts.now c.if-cell-eq0.false (sym c.is_child.ensures ∙ c.if-is_child.false)) c.requires) c.put_byte-a.ensures.next) c.put-b.ensures.next) c.put_given-c.ensures.next)

pub put_byte-requires : goal.put_byte-requires
put_byte-requires c = first_fits (rest_fits (rest_fits (rest_fits (rest_fits (has_room (row_is c.args.row.now c.args.cell.there c.args.cell.a c.args.cell.b c.args.values.now.id.now c.args.values.now.texts.now c.if-cell-eq0.false (sym c.is_child.ensures ∙ c.if-is_child.false)) c.requires) c.put_byte-a.ensures.next) c.put-b.ensures.next) c.put_given-c.ensures.next) c.put_value-d.ensures.next)

pub returns : goal.returns
returns c = all_put (row_is c.args.row.now c.args.cell.there c.args.cell.a c.args.cell.b c.args.values.now.id.now c.args.values.now.texts.now c.if-cell-eq0.false (sym c.is_child.ensures ∙ c.if-is_child.false)) (and_put c.put_byte-a.ensures (and_put c.put-b.ensures (and_put c.put_given-c.ensures (and_put c.put_value-d.ensures (last_put c.put_byte.ensures)))))
