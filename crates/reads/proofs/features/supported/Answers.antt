-- By whether there is a child of the name.
use Rattle.reads.proofs.ChildLaws.{supports_some, supports_none}
use Rattle.reads.proofs.features.supported.Goals as goal

pub returns-in_err-child : goal.returns-in_err-child
returns-in_err-child c = rw c.from_residual.ensures (supports_none c.first_child.ensures c.in_err-child.was)

pub returns : goal.returns
returns c = supports_some c.first_child.ensures c.in_ok-child.was c.noted.ensures
