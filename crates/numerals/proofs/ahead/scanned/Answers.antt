-- Both ways lead to the state after all bytes.
use mathlib.Core.Path.{sym, ◌∙◌}
use Rattle.numerals.proofs.AheadLaws.{digit_first}
use Rattle.numerals.proofs.ahead.scanned.Goals as goal

pub returns-in-len1-up : goal.returns-in-len1-up
returns-in-len1-up c = c.whole_ahead.ensures ∙ digit_first c.args.v.now c.in-len1-up.len_at_least (sym c.if-is_digit.ensures) c.figure_of.ensures
