-- What starts the tag, and what closes it.
use Rattle.printing.proofs.PieceLaws.{has_room, first_fits, rest_fits, last_put, and_put, all_put, none_put}
use Rattle.std.proofs.Common.{sym, ◌∙◌, inl, inr}
use Rattle.writes.proofs.ChildLaws.{child_is, no_child_here}
use Rattle.writes.proofs.children.put_child.Goals.{then-not-is_child-via-then-not-is_child, then-not-is_child-via-else-not-is_child+then-cell-eq0}
use Rattle.writes.proofs.children.put_child.Goals as goal

-- What starts the tag, and what closes it.
pub returns-then-not-is_child : goal.returns-then-not-is_child
returns-then-not-is_child c = none_put c.args.out.now c.args.at (no_child_here c.args.row.now c.args.cell.there c.args.cell.a (elim c.then-not-is_child.branch [ then-not-is_child-via-then-not-is_child w ↦ inl (sym c.is_child.ensures ∙ w.if-not-is_child.true) | then-not-is_child-via-else-not-is_child+then-cell-eq0 w ↦ inr w.if-cell-eq0.true ]))

pub put_start-a-requires : goal.put_start-a-requires
put_start-a-requires c = first_fits (has_room (child_is c.args.row.now c.args.cell.there c.args.cell.a (sym c.is_child.ensures ∙ c.if-not-is_child.false) c.if-cell-eq0.false) c.requires)

pub put_features-requires : goal.put_features-requires
put_features-requires c = first_fits (rest_fits (has_room (child_is c.args.row.now c.args.cell.there c.args.cell.a (sym c.is_child.ensures ∙ c.if-not-is_child.false) c.if-cell-eq0.false) c.requires) c.put_start-a.ensures.next)

pub returns : goal.returns
returns c = all_put (child_is c.args.row.now c.args.cell.there c.args.cell.a (sym c.is_child.ensures ∙ c.if-not-is_child.false) c.if-cell-eq0.false) (and_put c.put_start-a.ensures (last_put c.put_features.ensures))
