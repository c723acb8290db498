use mathlib.Core.Bool.{true, false}
use Rattle.reads.proofs.JudgeLaws.{guid_judged}
use Rattle.reads.proofs.judge.guid.Goals as goal

pub returns-then-guid_at : goal.returns-then-guid_at
returns-then-guid_at c = guid_judged true c.guid_at.ensures c.if-guid_at.true

pub returns : goal.returns
returns c = guid_judged false c.guid_at.ensures c.if-guid_at.false
