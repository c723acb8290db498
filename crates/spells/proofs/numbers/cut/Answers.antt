-- The invariant: m in k digits is n in six, but for zeros at the back, and k is at least what is wanted.
use native.Mathlib.Omega.{arith}
use Rattle.spelling.proofs.DecimalLaws.{cutting_start, cutting_more, cutting_kept, cutting_end}
use Rattle.spells.proofs.numbers.cut.Goals as goal

pub loop-k-init : goal.loop-k-init
loop-k-init c = cutting_start c.args.n c.args.least c.requires

pub loop-k-preserved : goal.loop-k-preserved
loop-k-preserved c = cutting_more c.loop-k.k c.loop-k.invariant c.loop-k-test.true (omega (arith, c.if-m-eq0.true))

pub returns-else-m-eq0 : goal.returns-else-m-eq0
returns-else-m-eq0 c = (c.loop-k.invariant.most, cutting_kept c.loop-k.k c.loop-k.invariant c.loop-k-test.true (λ e. c.if-m-eq0.false (omega (arith, e))))

pub returns-after-loop-k : goal.returns-after-loop-k
returns-after-loop-k c = (c.loop-k.invariant.most, cutting_end c.loop-k.invariant c.loop-k-test.false)
