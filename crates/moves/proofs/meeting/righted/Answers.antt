-- `righted` is the definition's: none where the length is too long, and else the id's bytes put down over zeros.
use native.Mathlib.Omega.{arith}
use mathlib.Core.Path.{◌≡◌, ◌∙◌}
use lib.ListN.{length, take}
use lib.Seq.{length-take-le}
use Rattle.lane.specs.Ids.{zeros}
use Rattle.lane.proofs.IdLaws.{righted_over, righted_over_zeros}
use Rattle.moves.proofs.meeting.righted.Goals as goal

pub returns-then-length-gt80 : goal.returns-then-length-gt80
returns-then-length-gt80 c = c.none.ensures ∙ righted_over c.args.forecast c.if-length-gt80.true

pub returns : goal.returns
returns c =
    let n : length c.copy_from_slice.new.self ≡ length (take c.args.forecast.length zeros) = c.copy_from_slice.ensures.len in
    righted_over_zeros c.args.forecast c.copy_from_slice.ensures.after (n ∙ length-take-le c.args.forecast.length zeros (omega arith)) (omega arith)
