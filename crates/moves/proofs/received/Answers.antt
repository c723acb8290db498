-- `received` is the definition's: the step that `next` found is put into it.
use Rattle.lane.specs.Record as says
use Rattle.moves.proofs.received.Goals as goal

-- `received` is the definition's: the step that `next` found is put into it.
pub returns-in-Some : goal.returns-in-Some
unfolding says.received
returns-in-Some c =
    rw (← c.other.ensures, ← c.carries_held.ensures.says _ _ _, ← c.next.ensures, c.in-Some.is)
    c.accepted.ensures

pub returns-in-None : goal.returns-in-None
unfolding says.received
returns-in-None c =
    rw (← c.other.ensures, ← c.carries_held.ensures.says _ _ _, ← c.next.ensures, c.in-None.is)
    c.ended.ensures
