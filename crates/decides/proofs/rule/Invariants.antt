use Rattle.decides.proofs.DecideLaws.{Tried-so-far}
use Rattle.decides.proofs.rule.Given as goal

abbrev pub invariant-loop-i : goal.invariant-loop-i
invariant-loop-i l = Tried-so-far l.attributes.message.now l.attributes.base l.attributes.table.now l.attributes.count l.sort.features l.rows l.i
