-- The children and the end tag, or the end of an empty tag.
use mathlib.Core.Path.{sym, ◌∙◌}
use Rattle.rows.specs.Coding.{as_rows}
use Rattle.writes.specs.Rows.{children_from}
use Rattle.grammar.specs.Bytes.{text}
use Rattle.printing.proofs.PieceLaws.{has_room, first_fits, rest_fits, last_put, and_put, all_put, same_put, same_fits}
use Rattle.writes.proofs.ChildLaws.{closed_none, closed_some}
use Rattle.writes.proofs.children.put_inside.Goals as goal

-- The children and the end tag, or the end of an empty tag.
pub has_child-requires : goal.has_child-requires
has_child-requires c = c.requires.0

pub put_byte-a-requires : goal.put_byte-a-requires
put_byte-a-requires c = first_fits (has_room (closed_some c.args.name.now (children_from (as_rows c.args.rows.now) 0 c.args.cells.now) (sym c.has_child.ensures ∙ c.if-has_child.true)) c.requires.1)

pub put_children-b-requires : goal.put_children-b-requires
put_children-b-requires c = (c.requires.0, first_fits (rest_fits (has_room (closed_some c.args.name.now (children_from (as_rows c.args.rows.now) 0 c.args.cells.now) (sym c.has_child.ensures ∙ c.if-has_child.true)) c.requires.1) c.put_byte-a.ensures.next))

pub put_end-requires : goal.put_end-requires
put_end-requires c = first_fits (rest_fits (rest_fits (has_room (closed_some c.args.name.now (children_from (as_rows c.args.rows.now) 0 c.args.cells.now) (sym c.has_child.ensures ∙ c.if-has_child.true)) c.requires.1) c.put_byte-a.ensures.next) c.put_children-b.ensures.next)

pub returns-then-has_child : goal.returns-then-has_child
returns-then-has_child c = all_put (closed_some c.args.name.now (children_from (as_rows c.args.rows.now) 0 c.args.cells.now) (sym c.has_child.ensures ∙ c.if-has_child.true)) (and_put c.put_byte-a.ensures (and_put c.put_children-b.ensures (last_put c.put_end.ensures)))

pub put_empty-requires : goal.put_empty-requires
put_empty-requires c = same_fits c.args.at (text "/>") (closed_none c.args.name.now (children_from (as_rows c.args.rows.now) 0 c.args.cells.now) (sym c.has_child.ensures ∙ c.if-has_child.false)) c.requires.1

pub returns : goal.returns
returns c = same_put (closed_none c.args.name.now (children_from (as_rows c.args.rows.now) 0 c.args.cells.now) (sym c.has_child.ensures ∙ c.if-has_child.false)) c.put_empty.ensures
