-- By whether the value is there.
use Rattle.why.proofs.ReasonLaws.{absent_told, present_told}
use Rattle.why.proofs.why_line.Goals as goal

-- By whether the value is there.
pub returns-in-None : goal.returns-in-None
returns-in-None c = absent_told c.args.base c.args.d c.in-None.is c.reason.ensures

pub returns-in-Some : goal.returns-in-Some
returns-in-Some c = present_told c.args.base c.args.d c.in-Some.p c.in-Some.is c.counted.ensures c.reason-in-Some.ensures
