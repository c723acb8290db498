-- `carries_own` is the definition's: the id in question, by the kind.
use mathlib.Core.Path.{◌∙◌}
use borrow.Author.Rules.{rules}
use borrow.Author.Tests.{ne_eqb}
use Rattle.moves.proofs.Bytes.{pointwise_same}
use Rattle.moves.proofs.meeting.Meeting.carries_own.Goals as goal

pub returns-in-7 : goal.returns-in-7
returns-in-7 c = rw c.in-7.is (c.eq.ensures ∙ pointwise_same c.args.self.lane.offered c.args.self.event.id)

pub returns-in_default : goal.returns-in_default
returns-in_default c =
    rw (ne_eqb c.args.self.event.kind 7 (search rules))
    (c.eq-in_default.ensures ∙ pointwise_same c.args.self.lane.running c.args.self.event.id)
