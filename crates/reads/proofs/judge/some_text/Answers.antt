use Rattle.reads.proofs.JudgeLaws.{text_empty, text_some}
use Rattle.reads.proofs.judge.some_text.Goals as goal

pub returns-then-raw-eq0 : goal.returns-then-raw-eq0
returns-then-raw-eq0 c = text_empty c.args.limit c.if-raw-eq0.true

pub returns : goal.returns
returns c = text_some c.args.limit c.if-raw-eq0.false c.text.ensures
