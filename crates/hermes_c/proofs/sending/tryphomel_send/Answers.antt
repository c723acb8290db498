-- What was sent, in numbers: the kind is what `kind_from` says.
use Rattle.c_promises.proofs.SendLaws.{sends_as}
use Rattle.hermes_c.proofs.sending.tryphomel_send.Goals as goal

-- What was sent, in numbers: the kind is what `kind_from` says.
pub returns : goal.returns
returns c = sends_as c.args.kind c.kind_from-k.ensures c.send_from-a.ensures
