-- A plain value is read where it stands, another by the walk.
use mathlib.Core.Path.{◌≡◌, refl, ap, ◌∙◌}
use native.Mathlib.Omega.{arith}
use Rattle.numerals.specs.Scan.{number_end}
use Rattle.std.specs.Prelude.{None}
use Rattle.number.specs.Positive.{number_of, decimals_of, number_read}
use Rattle.numerals.proofs.Theorems.{number_exact}
use Rattle.decodes.proofs.NumberLaws.{plain_read, walk_read, walk_none}
use Rattle.decodes.proofs.numbers.number_at.Goals as goal

-- A plain value is read where it stands, another by the walk.
pub returns-then-is_plain : goal.returns-then-is_plain
returns-then-is_plain c = plain_read c.is_plain.ensures c.if-is_plain.true c.number_of.ensures

pub returns-in_err-walked : goal.returns-in_err-walked
returns-in_err-walked c = walk_none (λ v q. q ≡ number_read (number_of v) (decimals_of v)) None c.walked.ensures c.in_err-walked.was c.from_residual.ensures

pub returns : goal.returns
returns c = walk_read (λ v q. q ≡ number_read (number_of v) (decimals_of v)) None c.walked.ensures c.in_ok-walked.was (λ v n e. c.number_end.ensures ∙ ap number_end e ∙ number_exact v (omega arith))
