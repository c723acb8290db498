-- The invariant: the attributes of the rows before i are put down, those from i on are left.
use Rattle.std.proofs.Common.{refl}
use Rattle.rows.specs.Coding.{as_rows}
use Rattle.writes.proofs.StepLaws.{attributes_step, no_attributes, starts, goes, going_fits, ends}
use Rattle.writes.proofs.putting.put_rows.Goals as goal

pub loop-i-init : goal.loop-i-init
loop-i-init c = starts _ _ refl

pub put_attribute-next-requires : goal.put_attribute-next-requires
put_attribute-next-requires c = going_fits _ _ c.loop-i.invariant (attributes_step c.args.rows.now c.loop-i.i c.args.values.now.cells.now _ c.loop-i-test.true c.cell_of.ensures c.args.values.now.id.now c.args.values.now.texts.now) c.requires.1

pub loop-i-preserved : goal.loop-i-preserved
loop-i-preserved c = goes c.loop-i.invariant (attributes_step c.args.rows.now c.loop-i.i c.args.values.now.cells.now _ c.loop-i-test.true c.cell_of.ensures c.args.values.now.id.now c.args.values.now.texts.now) c.put_attribute-next.ensures

pub returns : goal.returns
returns c = ends c.loop-i.invariant (no_attributes c.args.rows.now c.loop-i.i c.args.values.now.cells.now c.loop-i-test.false c.args.values.now.id.now c.args.values.now.texts.now)
