-- By the kind and its Type.
use Rattle.handover.proofs.IdLaws.{asks_none, asks_some, asks_other}
use Rattle.handover.proofs.receiving.asks_reply.Goals as goal

-- By the kind and its Type.
pub returns-then-there-eq0 : goal.returns-then-there-eq0
returns-then-there-eq0 c = asks_none c.args.kind c.args.there c.args.n c.if-kind-eq-CHECK_ALIVE.true c.if-there-eq0.true

pub returns-then-kind-eq-CHECK_ALIVE : goal.returns-then-kind-eq-CHECK_ALIVE
returns-then-kind-eq-CHECK_ALIVE c = asks_some c.args.kind c.args.there c.args.n c.if-kind-eq-CHECK_ALIVE.true c.if-there-eq0.false

pub returns : goal.returns
returns c = asks_other c.args.kind c.args.there c.args.n c.if-kind-eq-CHECK_ALIVE.false
