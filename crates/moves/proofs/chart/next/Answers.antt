-- `next` is the definition's `next`: the match over the kind passes the three free kinds, and the chart decides the rest.
use borrow.Author.Rules.{rules}
use mathlib.Core.Logic.{⊎_elim}
use Rattle.lane.specs.Chart as says
use Rattle.moves.proofs.Among.{not_free}
use Rattle.moves.proofs.chart.next.Goals as goal

pub returns-in-0 : goal.returns-in-0
unfolding says.next
returns-in-0 c = rw (c.in-0.is, c.if-received.true)

pub returns-in-0-2 : goal.returns-in-0-2
unfolding says.next
returns-in-0-2 c = rw (c.in-0.is, c.if-received.false)

pub returns-in-2 : goal.returns-in-2
unfolding says.next
returns-in-2 c = ⊎_elim (λ e. rw e) (λ e. rw e) c.in-2.is

pub returns-in_default : goal.returns-in_default
unfolding says.next
returns-in_default c = rw (not_free c.args.kind (search rules) (search rules) (search rules), ← c.may_name.ensures, c.if-may_name.true) c.by_chart.ensures

pub returns-in_default-2 : goal.returns-in_default-2
unfolding says.next
returns-in_default-2 c = rw (not_free c.args.kind (search rules) (search rules) (search rules), ← c.may_name.ensures, c.if-may_name.false)
