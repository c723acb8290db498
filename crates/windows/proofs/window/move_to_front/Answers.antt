use Rattle.windows.proofs.WindowLaws.{move_start, move_one, moved_all}
use Rattle.std.proofs.Common.{arith}
use Rattle.windows.proofs.window.move_to_front.Goals as goal

pub loop-i-init : goal.loop-i-init
loop-i-init c = move_start c.args.buf.now c.args.from c.args.n (omega arith)

pub loop-i-preserved : goal.loop-i-preserved
loop-i-preserved c = move_one c.loop-i.invariant (omega arith)

pub returns : goal.returns
returns c = moved_all c.loop-i.invariant (omega arith)
