use Rattle.scan.proofs.Walk.{glue_open, glue_done}
use Rattle.scan.proofs.glue.Goals as goal

pub returns-then-s-i : goal.returns-then-s-i
returns-then-s-i c = glue_open _ _ _ c.skip_glue-i.ensures c.if-s-i.true

pub returns : goal.returns
returns c = glue_done _ _ _ c.skip_glue-i.ensures c.if-s-i.false
