-- By the kind.
use Rattle.reads.proofs.ChildLaws.{sorts_some, sorts_none}
use Rattle.reads.proofs.features.sort_of.Goals as goal

-- By the kind.
pub returns-then-kind-eq-SERVICE_DESCRIPTION : goal.returns-then-kind-eq-SERVICE_DESCRIPTION
returns-then-kind-eq-SERVICE_DESCRIPTION c = sorts_some c.kind_named-kind.ensures c.supported-features.ensures

pub returns : goal.returns
returns c = sorts_none c.kind_named-kind.ensures c.if-kind-eq-SERVICE_DESCRIPTION.false
