-- The invariant: the rows from here on hold the attributes that are left, and the place is theirs.
use Rattle.reads.proofs.FindLaws.{left_all, search_hit, search_miss, none_left}
use Rattle.reads.proofs.attributes.Attributes.search.Goals as goal

pub returns-then-is_named : goal.returns-then-is_named
returns-then-is_named c = record { says = λ h. search_hit (c.loop-i.invariant h) c.loop-i-test.true c.is_named.ensures c.if-is_named.true c.value.ensures }

pub loop-i-preserved : goal.loop-i-preserved
loop-i-preserved c = λ h. search_miss (c.loop-i.invariant h) c.loop-i-test.true c.is_named.ensures c.if-is_named.false

pub returns : goal.returns
returns c = record { says = λ h. none_left (c.loop-i.invariant h) c.loop-i-test.false }
