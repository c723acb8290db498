-- Each case of the step moves the window as it says.
use Rattle.windows.proofs.StepLaws.{line_held, drop_held, turned_line, turned_drop, turned_end}
use Rattle.std.proofs.Common.{arith}
use Rattle.windows.proofs.turn.turn.Goals as goal

-- Each case of the step moves the window as it says.
pub dropped-requires : goal.dropped-requires
dropped-requires c = line_held c.args.buf.now c.args.w.at c.args.w.len c.list_step-listed.ensures c.in-Line.is c.requires.held.front

pub dropped-requires-in-Drop : goal.dropped-requires-in-Drop
dropped-requires-in-Drop c = drop_held c.args.buf.now c.args.w.at c.args.w.len c.list_step-listed.ensures c.in-Drop.is c.requires.held.front

pub returns-in-Line : goal.returns-in-Line
returns-in-Line c = turned_line c.args.buf.now c.args.w c.dropped.result c.list_step-listed.ensures c.in-Line.is c.dropped.ensures c.requires.held c.line-put.ensures

pub returns-in-Drop : goal.returns-in-Drop
returns-in-Drop c = turned_drop c.args.buf.now c.args.w c.dropped-in-Drop.result c.args.out.now c.args.waiting c.list_step-listed.ensures c.in-Drop.is c.dropped-in-Drop.ensures c.requires.held (omega (arith, c.requires.waiting_in_bounds))

pub returns-in-End : goal.returns-in-End
returns-in-End c = turned_end c.args.buf.now c.args.w c.list_step-listed.ensures c.in-End.is c.requires.held c.end_line.ensures
