-- Each answer by its refusal.
use Rattle.lists.proofs.StepLaws.{shows_unfinished, shows_malformed, shows_too_long, shows_line}
use Rattle.lists.proofs.list_step.Goals as goal

-- Each answer by its refusal.
pub returns-in-1 : goal.returns-in-1
returns-in-1 c = shows_unfinished c.args.last c.check_cells-c.ensures c.in-1.is c.unfinished.ensures

pub returns-in-2 : goal.returns-in-2
returns-in-2 c = shows_malformed c.args.last c.check_cells-c.ensures c.in-2.is

pub returns-in-3 : goal.returns-in-3
returns-in-3 c = shows_too_long c.args.last c.check_cells-c.ensures c.in-3.is

pub returns-in_default : goal.returns-in_default
returns-in_default c = shows_line c.args.last c.check_cells-c.ensures c.in_default.in_default-own.rest.0.0.1 c.in_default.in_default-own.rest.0.1 c.in_default.in_default-own.rest.1
