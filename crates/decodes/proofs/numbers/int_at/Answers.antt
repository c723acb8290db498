-- A plain value is read where it stands, another by the walk.
use mathlib.Core.Path.{◌≡◌, refl, ap, ◌∙◌}
use Rattle.numerals.specs.Scan.{int_end}
use Rattle.number.specs.Whole.{int_of, capped, paper}
use Rattle.std.specs.Prelude.{None}
use Rattle.numerals.proofs.Theorems.{int_exact}
use Rattle.decodes.proofs.NumberLaws.{plain_read, walk_read, walk_none}
use Rattle.decodes.proofs.numbers.int_at.Goals as goal

-- A plain value is read where it stands, another by the walk.
pub returns-then-is_plain : goal.returns-then-is_plain
returns-then-is_plain c = plain_read c.is_plain.ensures c.if-is_plain.true c.int_of.ensures

pub returns-in_err-walked : goal.returns-in_err-walked
returns-in_err-walked c = walk_none (λ v q. paper q ≡ capped (int_of v)) None c.walked.ensures c.in_err-walked.was c.from_residual.ensures

pub returns : goal.returns
returns c = walk_read (λ v q. paper q ≡ capped (int_of v)) None c.walked.ensures c.in_ok-walked.was (λ v n e. ap paper (c.int_end.ensures ∙ ap int_end e) ∙ int_exact v)
