use mathlib.Core.Path.{ap, ◌∙◌}
use native.Mathlib.Omega.{arith}
use Rattle.numerals.specs.Scan.{millionths_of}
use Rattle.numerals.proofs.CodeLaws.{scaled_top, scaled_up, scaled_down}
use Rattle.numerals.proofs.positive.scaled.Goals as goal

pub returns-then-n-ge-TOP : goal.returns-then-n-ge-TOP
unfolding millionths_of
returns-then-n-ge-TOP c = ap millionths_of (scaled_top c.args.n c.args.up c.args.down c.if-n-ge-TOP.true)

pub returns-then-down-up : goal.returns-then-down-up
returns-then-down-up c = c.limit.ensures ∙ ap millionths_of (scaled_up c.args.n c.args.up c.args.down (omega arith) c.if-down-up.true)

pub returns-else-down-up : goal.returns-else-down-up
returns-else-down-up c = c.lowered.ensures ∙ ap millionths_of (scaled_down c.args.n c.args.up c.args.down (omega arith) (omega arith))
