-- What was found, in numbers.
use Rattle.c_promises.proofs.CheckLaws.{finds}
use Rattle.hermes_c.proofs.checking.tryphomel_check.Goals as goal

-- What was found, in numbers.
pub returns : goal.returns
returns c = finds c.check_into-f.ensures
