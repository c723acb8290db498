-- Kept, or moved to the front and read on.
use Rattle.std.proofs.Common.{arith}
use Rattle.windows.proofs.WindowLaws.{topped_at_end, topped_already, topped_read}
use Rattle.windows.proofs.window.topped_up.Goals as goal

-- Kept, or moved to the front and read on.
pub returns-then-w : goal.returns-then-w
returns-then-w g c = topped_at_end c.args.w c.args.buf.now c.requires.held c.if-w.true

pub fill-got-requires : goal.fill-got-requires
fill-got-requires g c = record { from_bound = c.requires.held.room c.if-w-2.true; in_bounds = omega arith }

pub returns-then-w-2 : goal.returns-then-w-2
returns-then-w-2 g c = topped_read c.args.w c.args.buf.now c.move_to_front.new.buf c.fill-got.new.buf c.fill-got.result c.if-w.false c.if-w-2.true c.move_to_front.ensures c.fill-got.ensures

pub returns : goal.returns
returns g c = topped_already c.args.w c.args.buf.now c.requires.held c.if-w.false c.if-w-2.false
