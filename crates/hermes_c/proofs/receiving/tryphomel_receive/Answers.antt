-- What was received, in numbers.
use Rattle.c_promises.proofs.ReceiveLaws.{receives_as}
use Rattle.hermes_c.proofs.receiving.tryphomel_receive.Goals as goal

-- What was received, in numbers.
pub returns : goal.returns
returns c = receives_as c.receive_into-a.ensures
