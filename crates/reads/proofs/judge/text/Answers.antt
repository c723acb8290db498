-- Each answer by how long the text is.
use Rattle.reads.proofs.JudgeLaws.{text_short, text_unread, text_fits, text_long}
use Rattle.reads.proofs.judge.text.Goals as goal

pub returns-then-raw-limit : goal.returns-then-raw-limit
returns-then-raw-limit c = text_short c.args.limit c.if-raw-limit.true

pub returns-in_default : goal.returns-in_default
returns-in_default c = text_unread c.args.limit c.in_default.is c.text_len.ensures

pub returns-then-size-limit : goal.returns-then-size-limit
returns-then-size-limit c = text_fits c.args.limit c.in-Some.is c.text_len.ensures c.if-size-limit.true

pub returns : goal.returns
returns c = text_long c.args.limit c.in-Some.is c.text_len.ensures c.if-size-limit.false
