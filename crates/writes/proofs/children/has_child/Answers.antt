-- The invariant: a child is in the rows from i on, or there is none.
use Rattle.std.proofs.Common.{refl, sym, ap, ◌∙◌, inl, inr}
use Rattle.grammar.specs.Bytes.{non_empty}
use Rattle.writes.proofs.StepLaws.{children_step, no_children, cell_in}
use Rattle.writes.proofs.ChildLaws.{child_found, child_later}
use Rattle.writes.proofs.children.has_child.Goals.{else-is_child-via-then-is_child+else-cell_of-ne0, else-is_child-via-else-is_child}
use Rattle.writes.proofs.children.has_child.Goals as goal

pub returns-then-cell_of-ne0 : goal.returns-then-cell_of-ne0
returns-then-cell_of-ne0 c = sym (c.loop-i.invariant ∙ ap non_empty (children_step c.args.rows.now c.loop-i.i c.args.cells.now _ c.loop-i-test.true c.cell_of.ensures) ∙ child_found _ c.cell_of.result.there c.cell_of.result.a _ (sym c.is_child.ensures ∙ c.if-is_child.true) c.if-cell_of-ne0.true)

pub loop-i-preserved : goal.loop-i-preserved
loop-i-preserved c = elim c.else-is_child.branch [ else-is_child-via-then-is_child+else-cell_of-ne0 w ↦ c.loop-i.invariant ∙ ap non_empty (children_step c.args.rows.now c.loop-i.i c.args.cells.now _ c.loop-i-test.true w.cell_of.ensures) ∙ child_later _ w.cell_of.result.there w.cell_of.result.a _ c.is_child.ensures (inr w.if-cell_of-ne0.false) | else-is_child-via-else-is_child w ↦ c.loop-i.invariant ∙ ap non_empty (children_step c.args.rows.now c.loop-i.i c.args.cells.now _ c.loop-i-test.true refl) ∙ child_later _ (cell_in c.args.cells.now c.loop-i.i).there (cell_in c.args.cells.now c.loop-i.i).a _ c.is_child.ensures (inl w.if-is_child.false) ]

pub returns : goal.returns
returns c = sym (c.loop-i.invariant ∙ ap non_empty (no_children c.args.rows.now c.loop-i.i c.args.cells.now c.loop-i-test.false))
