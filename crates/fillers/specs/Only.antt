-- No second answer meets the promise of `filler_lt`.
use Rattle.std.specs.Prelude.{◌≡◌, ℕ}
use Rattle.grammar.specs.Bytes.{Bytes}
use Rattle.grammar.specs.Filler.{Site}
use Rattle.scan.specs.Pieces.{Step}
use Rattle.pieces.specs.Only.{step_only}
use Rattle.fillers.specs.Fills.{GotFiller}

pub filler_only : {site : Site} {s : Bytes} {at : ℕ} (r r' : Step) → GotFiller site s at r → GotFiller site s at r' → r ≡ r'
filler_only r r' x y = step_only r r' x.says y.says
