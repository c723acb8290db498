use mathlib.Core.Bool.{true, false}
use Rattle.reads.proofs.JudgeLaws.{version_judged}
use Rattle.reads.proofs.judge.version.Goals as goal

pub returns-then-version_at : goal.returns-then-version_at
returns-then-version_at c = version_judged true c.version_at.ensures c.if-version_at.true

pub returns : goal.returns
returns c = version_judged false c.version_at.ensures c.if-version_at.false
