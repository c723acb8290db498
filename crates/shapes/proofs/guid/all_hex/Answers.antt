-- The bytes passed and those left say it together.
use mathlib.Core.Path.{refl}
use Rattle.shapes.proofs.GuidLaws.{hex_more, hex_end}
use Rattle.shapes.proofs.guid.all_hex.Goals as goal

pub loop-b-init : goal.loop-b-init
loop-b-init c = refl

pub loop-b-preserved : goal.loop-b-preserved
loop-b-preserved c = hex_more c.args.v.now c.loop-b.ok c.loop-b.invariant c.loop-b-test.true c.is_hex-ok.ensures

pub returns : goal.returns
returns c = hex_end c.args.v.now c.loop-b.ok c.loop-b.invariant c.loop-b-test.false
