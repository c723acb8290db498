-- The invariant: the children of the rows before i are put down, those from i on are left.
use Rattle.std.proofs.Common.{refl}
use Rattle.writes.proofs.StepLaws.{children_step, no_children, starts, goes, going_fits, ends}
use Rattle.writes.proofs.children.put_children.Goals as goal

pub loop-i-init : goal.loop-i-init
loop-i-init c = starts _ _ refl

pub put_child-next-requires : goal.put_child-next-requires
put_child-next-requires c = going_fits _ _ c.loop-i.invariant (children_step c.args.rows.now c.loop-i.i c.args.cells.now _ c.loop-i-test.true c.cell_of.ensures) c.requires.1

pub loop-i-preserved : goal.loop-i-preserved
loop-i-preserved c = goes c.loop-i.invariant (children_step c.args.rows.now c.loop-i.i c.args.cells.now _ c.loop-i-test.true c.cell_of.ensures) c.put_child-next.ensures

pub returns : goal.returns
returns c = ends c.loop-i.invariant (no_children c.args.rows.now c.loop-i.i c.args.cells.now c.loop-i-test.false)
