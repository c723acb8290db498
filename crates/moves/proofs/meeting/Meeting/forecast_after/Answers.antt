-- A MachineReady clears what is held exactly if it carries the same id.
use Rattle.moves.proofs.Bytes.{forecasts_same}
use Rattle.moves.proofs.meeting.Meeting.forecast_after.Goals as goal

pub returns-in-5 : goal.returns-in-5
returns-in-5 c =
    rw (c.in-Some.is, c.in-5.is, ← c.forecast_held-held.ensures, ← c.righted-named.ensures, ← forecasts_same _ _ c.eq.ensures, c.if-eq.true)
    c.none.ensures

pub returns-in_default-kind-2 : goal.returns-in_default-kind-2
returns-in_default-kind-2 c =
    rw (c.in-Some.is, c.in-5.is, ← c.forecast_held-held.ensures, ← c.righted-named.ensures, ← forecasts_same _ _ c.eq.ensures, c.if-eq.false)
