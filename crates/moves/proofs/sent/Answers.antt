-- `sent` is the definition's: the step that `next` found is put into it.
use Rattle.lane.specs.Record as says
use Rattle.moves.proofs.sent.Goals as goal

-- `sent` is the definition's: the step that `next` found is put into it.
pub returns-in-Some : goal.returns-in-Some
unfolding says.sent
returns-in-Some c =
    rw (← c.carries_held.ensures.says _ _ _, ← c.next.ensures, c.in-Some.is)
    c.accepted.ensures

pub returns-in-None : goal.returns-in-None
unfolding says.sent
returns-in-None c =
    rw (← c.carries_held.ensures.says _ _ _, ← c.next.ensures, c.in-None.is)
