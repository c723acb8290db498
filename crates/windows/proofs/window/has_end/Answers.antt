-- The invariant: what is left has a `>` if all have.
use Rattle.windows.proofs.WindowLaws.{end_here, end_later, no_end}
use Rattle.windows.proofs.window.has_end.Goals as goal

pub returns-then-s-k-eq62 : goal.returns-then-s-k-eq62
returns-then-s-k-eq62 c = end_here c.args.s.now c.loop-k.k c.loop-k-test.true c.if-s-k-eq62.true c.loop-k.invariant

pub loop-k-preserved : goal.loop-k-preserved
loop-k-preserved c = end_later c.args.s.now c.loop-k.k c.loop-k-test.true c.if-s-k-eq62.false c.loop-k.invariant

pub returns : goal.returns
returns c = no_end c.args.s.now c.loop-k.k c.loop-k-test.false c.loop-k.invariant
