-- The count first, then the range.
use mathlib.Core.Path.{sym, ◌∙◌}
use Rattle.meant.specs.Meant.{MOST}
use Rattle.writes.proofs.WorthLaws.{count_high, count_right}
use Rattle.writes.proofs.refusing.a_measure.Goals as goal

-- The count first, then the range.
pub returns-then-decimals-gt-PLACES : goal.returns-then-decimals-gt-PLACES
returns-then-decimals-gt-PLACES c = sym (count_high 1 MOST c.args.millionths c.args.decimals c.if-decimals-gt-PLACES.true)

pub returns : goal.returns
returns c = c.ranged.ensures ∙ sym (count_right 1 MOST c.args.millionths c.args.decimals c.if-decimals-gt-PLACES.false)
