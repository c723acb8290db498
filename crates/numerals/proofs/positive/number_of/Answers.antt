-- `number_of` is the definition on every slice: the end of the scan is exact.
use mathlib.Core.Path.{ap, ◌∙◌}
use native.Mathlib.Omega.{arith}
use Rattle.numerals.specs.Scan.{number_end}
use Rattle.numerals.proofs.Theorems.{number_exact}
use Rattle.numerals.proofs.positive.number_of.Goals as goal

-- `number_of` is the definition on every slice: the end of the scan is exact.
pub returns : goal.returns
returns c = c.number_end.ensures ∙ ap number_end c.scanned.ensures ∙ number_exact _ (omega arith)
