-- `fresh` is the definition's: no forecast is what the call says.
use borrow.Author.Rules.{rules}
use Rattle.lane.proofs.fresh.Statement.{statement}
use Rattle.lane.proofs.fresh.Tie as tie

returns : tie.Need-returns
returns c = rw c.none-forecast.ensures

pub fresh_spec : {M : Type 1} → statement M
fresh_spec = tie.close (tie.spec (λ c κs. search rules) returns)
