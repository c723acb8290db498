-- `int_of` is the definition on every slice: the end of the scan is exact.
use mathlib.Core.Path.{ap, ◌∙◌}
use Rattle.number.specs.Whole.{paper}
use Rattle.numerals.specs.Scan.{int_end}
use Rattle.numerals.specs.declared.scan.Scan.{Scan}
use Rattle.numerals.proofs.Theorems.{int_exact}
use Rattle.numerals.proofs.whole.int_of.Goals as goal

-- `int_of` is the definition on every slice: the end of the scan is exact.
pub returns : goal.returns
returns c = ap paper c.int_end.ensures ∙ ap (λ (s : Scan). paper (int_end s)) c.scanned.ensures ∙ int_exact _
